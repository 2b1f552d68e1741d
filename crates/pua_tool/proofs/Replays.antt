-- What is replayed, step by step.
use Rattle.pua_tool.proofs.Common.{◌≡◌, ℕ, List, Result, Tree, listing, ◌>>=◌, CallTable, Asked, script_by, new_world}
use Rattle.pua_tool.proofs.Common.{told_to, world_after, Chosen, Replayed, as_listing, as_script, table_by, replay_of}
use Rattle.pua_tool.proofs.Common.{ToolFault}
use Rattle.std.specs.Prelude.{Ok, Err}

module _ (choice : Chosen) (tree_bytes script_bytes : List ℕ) where
  abbrev left_by : CallTable → Tree → List Asked → Replayed
  left_by table t asks =
      record { table = table; answers = told_to table (new_world t) asks; world = world_after table (new_world t) asks }

  pub replayed_is : (table : CallTable) (t : Tree) (asks : List Asked)
      → table_by choice ≡ Ok table → as_listing (listing tree_bytes) ≡ Ok t → as_script (script_by choice.rules script_bytes) ≡ Ok asks
      → replay_of choice tree_bytes script_bytes
      ≡ Ok (record { table = table; answers = told_to table (new_world t) asks; world = world_after table (new_world t) asks })
  unfolding replay_of
  replayed_is table t asks b l s = λ i. b i >>= λ table. l i >>= λ t. s i >>= λ asks. Ok (left_by table t asks)

  abbrev served : CallTable → Tree → Result (List Asked) ToolFault → Result Replayed ToolFault
  served table t requests = requests >>= λ asks. Ok (left_by table t asks)

  abbrev listed : CallTable → Result Tree ToolFault → Result Replayed ToolFault
  listed table read = read >>= λ t. served table t (as_script (script_by choice.rules script_bytes))

  -- a table's fault comes first
  pub table_refuses : (fault : ToolFault) → table_by choice ≡ Err fault → replay_of choice tree_bytes script_bytes ≡ Err fault
  unfolding replay_of
  table_refuses fault b = λ i. b i >>= λ table. listed table (as_listing (listing tree_bytes))

  -- a listing's fault comes where the table has none
  pub listing_refuses : (table : CallTable) (fault : ToolFault) → table_by choice ≡ Ok table → as_listing (listing tree_bytes) ≡ Err fault
      → replay_of choice tree_bytes script_bytes ≡ Err fault
  unfolding replay_of
  listing_refuses table fault b l = λ i. b i >>= λ table. listed table (l i)

  -- a script's fault comes where both have none
  pub script_refuses : (table : CallTable) (t : Tree) (fault : ToolFault)
      → table_by choice ≡ Ok table → as_listing (listing tree_bytes) ≡ Ok t → as_script (script_by choice.rules script_bytes) ≡ Err fault
      → replay_of choice tree_bytes script_bytes ≡ Err fault
  unfolding replay_of
  script_refuses table t fault b l s = λ i. b i >>= λ table. l i >>= λ t. served table t (s i)
