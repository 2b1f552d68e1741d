-- The texts with reasons, step by step.
use Rattle.pua_tool.proofs.Common.{◌≡◌, ℕ, List, ◌∷◌, ◌++◌, ◌∙◌, map, sym, ap, Result, flat_map, Tree, listing, ◌>>=◌}
use Rattle.pua_tool.proofs.Common.{CallTable, Asked, script_by, new_world, Chosen, as_listing}
use Rattle.pua_tool.proofs.Common.{as_script, table_by, ToolFault}
use Rattle.std.proofs.Common.{◌+◌, ◌<◌, ◌≤◌, get_or, drop, length, append-nil}
use Rattle.std.proofs.Common.{append_assoc}
use Rattle.std.specs.Prelude.{Ok, Err}
use Rattle.std.specs.Borrow.{Bor}
use Rattle.std.proofs.lemmas.List.{drop_more}
use Rattle.std.proofs.Math.ListN.{drop_of_length-le}
use Rattle.pua_script.specs.declared.fault.ScriptFault.{ScriptFault}
use Rattle.pua_texts.specs.WhyLines.{ServedScript}
use Rattle.pua_script.specs.Scripts.{request_by}
use Rattle.pua_tool.specs.WhyTexts.{as_request, chain_lines, served_script, request_line, why_text}

-- what is read of a script without a fault
pub script_is : (read : Result (List Asked) ScriptFault) (asks : List Asked) → as_script read ≡ Ok asks → read ≡ Ok asks
script_is (Ok others) asks is = let same : others ≡ asks = cc in ap Ok same
script_is (Err fault) asks is = cc

module _ (choice : Chosen) (tree_bytes script_bytes : List ℕ) where
  abbrev served_by : CallTable → Tree → List Asked → ServedScript
  served_by table t asks = record { table = table; world = new_world t; asks = asks }

  abbrev asked : CallTable → Tree → Result (List Asked) ToolFault → Result ServedScript ToolFault
  asked table t requests = requests >>= λ asks. Ok (served_by table t asks)

  abbrev listed : CallTable → Result Tree ToolFault → Result ServedScript ToolFault
  listed table read = read >>= λ t. asked table t (as_script (script_by choice.rules script_bytes))

  pub posed_is : (table : CallTable) (t : Tree) (asks : List Asked)
      → table_by choice ≡ Ok table → as_listing (listing tree_bytes) ≡ Ok t → as_script (script_by choice.rules script_bytes) ≡ Ok asks
      → served_script choice tree_bytes script_bytes ≡ Ok (record { table = table; world = new_world t; asks = asks })
  unfolding served_script
  posed_is table t asks b l s = λ i. b i >>= λ table. l i >>= λ t. s i >>= λ asks. Ok (served_by table t asks)

  -- a table's fault comes first
  pub table_refuses : (fault : ToolFault) → table_by choice ≡ Err fault → served_script choice tree_bytes script_bytes ≡ Err fault
  unfolding served_script
  table_refuses fault b = λ i. b i >>= λ table. listed table (as_listing (listing tree_bytes))

  -- a listing's fault comes where the table has none
  pub listing_refuses : (table : CallTable) (fault : ToolFault) → table_by choice ≡ Ok table → as_listing (listing tree_bytes) ≡ Err fault
      → served_script choice tree_bytes script_bytes ≡ Err fault
  unfolding served_script
  listing_refuses table fault b l = λ i. b i >>= λ table. listed table (l i)

  -- a script's fault comes where both have none
  pub script_refuses : (table : CallTable) (t : Tree) (fault : ToolFault)
      → table_by choice ≡ Ok table → as_listing (listing tree_bytes) ≡ Ok t → as_script (script_by choice.rules script_bytes) ≡ Err fault
      → served_script choice tree_bytes script_bytes ≡ Err fault
  unfolding served_script
  script_refuses table t fault b l s = λ i. b i >>= λ table. l i >>= λ t. asked table t (s i)

  -- a request that is read is what is asked
  pub asked_is : (process : ℕ) (fields : List (List ℕ)) (p : ServedScript) (ask : Asked) → served_script choice tree_bytes script_bytes ≡ Ok p →
      as_request (request_by choice.rules 1 (request_line process fields)) ≡ Ok ask →
      why_text choice tree_bytes script_bytes process fields ≡ Ok (chain_lines p ask)
  unfolding why_text
  asked_is process fields p ask served read = λ i. served i >>= λ p. read i >>= λ ask. Ok (chain_lines p ask)

-- what a line has still to come from a field on: a blank and the field, for each
abbrev pub fields_left : List (Bor (List ℕ)) → ℕ → List ℕ
fields_left fields i = flat_map (λ field. 32 ∷ field) (map (λ field. field.now) (drop i fields))

pub field_more : (line : List ℕ) (fields : List (Bor (List ℕ))) (i : ℕ) (d : Bor (List ℕ)) → i < length fields
    → line ++ fields_left fields i ≡ (line ++ 32 ∷ (get_or fields i d).now) ++ fields_left fields (i + 1)
field_more line fields i d within =
    ap (λ fs. line ++ flat_map (λ f. 32 ∷ f) (map (λ f. f.now) fs)) (drop_more fields i d within)
    ∙ sym (append_assoc line (32 ∷ (get_or fields i d).now) (fields_left fields (i + 1)))

pub fields_done : (line : List ℕ) (fields : List (Bor (List ℕ))) (i : ℕ) → length fields ≤ i → line ++ fields_left fields i ≡ line
fields_done line fields i past = ap (λ fs. line ++ flat_map (λ f. 32 ∷ f) (map (λ f. f.now) fs)) (drop_of_length-le fields past) ∙
    append-nil line
