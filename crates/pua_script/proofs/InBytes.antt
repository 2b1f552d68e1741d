-- What is read as a listing or as a script is made of bytes, and requests in bytes leave bytes.
use Rattle.pua_script.proofs.Common.{◌≡◌, ℕ, List, [], ◌∷◌, ◌++◌, Bool, true, refl, sym, ap, ◌∙◌, Option, Some, None, option_map, list_all}
use Rattle.pua_script.proofs.Common.{nat_cmp, nat_cmp_total, nat_cmp-IsAntisymmetric, lines, and_parts, and_from, is_target, Tree, Node}
use Rattle.pua_script.proofs.Common.{node_at, Kind, None≢Some, Asked, apply, is_bytes, is_in_bytes}
use Rattle.std.specs.Prelude.{filter_map, option_and_then}
use Rattle.std.specs.List.{cons_option}
use Rattle.pua_tree.specs.Tree.{target_at}
use Rattle.pua_tree.specs.declared.form.Form.{Form}
use Rattle.pua_tree.specs.Listing.{Entry, made_entry}
use Rattle.pua_tree.specs.Grammar.{entry_fits, entries_fit, kind_known, made_fits, target_stands}
use Rattle.pua_tree.specs.declared.node.Kind.TheVariants.{Dir, File, Known, Prog, Link as LinkKind}
use Rattle.pua_tree.proofs.ForCallers.{all_found, listings_are_read, listings_list_trees, fits_parts}
use Rattle.pua_script.specs.ScriptGrammar.{SpellsLine, blank, request, SpellRequests}
use Rattle.pua_calls.specs.declared.rules.Rules.{Rules}
use Rattle.pua_script.specs.Bytes.{are_in_bytes, ReplaysKeepByteTrees, ListingsListByteTrees, ScriptsAskInBytes}
use Rattle.pua_script.proofs.KeepTrees.{requests_keep_trees}
use Rattle.pua_script.proofs.Grammar.{action_bytes, scripts_are_read}

-- a target, where there is one, is bytes
abbrev leads_to_bytes : Option (List ℕ) → Bool
leads_to_bytes None = true
leads_to_bytes (Some target) = is_bytes target

abbrev node_leads : (ℕ × Node) → Bool
node_leads entry = leads_to_bytes entry.1.target

stands_in_bytes : (kind : Kind) (target : Option (List ℕ)) → target_stands kind target ≡ true → leads_to_bytes target ≡ true
stands_in_bytes LinkKind (Some target) h = (and_parts (is_target target) (is_bytes target) h).1
stands_in_bytes Dir (Some target) h = cc
stands_in_bytes File (Some target) h = cc
stands_in_bytes Prog (Some target) h = cc
stands_in_bytes (Known type) (Some target) h = cc
stands_in_bytes kind None h = refl

made_leads : (form : Form) (earlier : List Entry) (e : Entry) (made : Option Node) (rest : List (ℕ × Node)) →
    made_fits form earlier e made ≡ true
    → list_all node_leads rest ≡ true → list_all node_leads (cons_option (option_map (λ node. (e.number, node)) made) rest) ≡ true
made_leads form earlier e None rest fits all = all
made_leads form earlier e (Some node) rest fits all =
    and_from (leads_to_bytes node.target) _
    (stands_in_bytes node.kind node.target (and_parts (target_stands node.kind node.target) _ (and_parts (kind_known form node.kind) _ (and_parts _ _ fits).1).1).0) all

entries_lead : (form : Form) (earlier es : List Entry) → entries_fit form earlier es ≡ true →
    list_all node_leads (filter_map made_entry es) ≡ true
entries_lead form earlier [] fit = refl
entries_lead form earlier (e ∷ es) fit =
    let parts = and_parts (entry_fits form earlier e) (entries_fit form (earlier ++ e ∷ []) es) fit in
    made_leads form earlier e e.made (filter_map made_entry es) (fits_parts form earlier e parts.0).made
    (entries_lead form (earlier ++ e ∷ []) es parts.1)

targets_lead : (t : Tree) → list_all node_leads t.nodes ≡ true → (x : ℕ) (target : List ℕ) → target_at t x ≡ Some target →
    is_bytes target ≡ true
targets_lead t all x target = by (node_at t x) refl
  where
    by : (o : Option Node) → node_at t x ≡ o → option_and_then (λ n. n.target) o ≡ Some target → is_bytes target ≡ true
    by None e is = absurd (None≢Some target is)
    by (Some n) e is = sym (ap leads_to_bytes is) ∙ all_found nat_cmp nat_cmp_total nat_cmp-IsAntisymmetric node_leads t.nodes all x n e

pub listings_list_byte_trees : ListingsListByteTrees
listings_list_byte_trees bytes t read =
    let is = (listings_are_read bytes t).0 read in
    record {
      tree = listings_list_trees bytes t is;
      targets = targets_lead t (ap (λ (u : Tree). list_all node_leads u.nodes) is.4 ∙ entries_lead is.0 [] is.1 is.2);
    }

line_bytes : (rules : Rules) (line : List ℕ) (ask : Asked) → SpellsLine rules line ask → is_in_bytes ask.action ≡ true
line_bytes rules line _ (blank none) = refl
line_bytes rules line ask (request spells) = action_bytes rules spells.more ask.action spells.spells

requests_bytes : (rules : Rules) (texts : List (List ℕ)) (asks : List Asked) → SpellRequests rules texts asks → are_in_bytes asks ≡ true
requests_bytes rules [] [] spells = refl
requests_bytes rules [] (ask ∷ asks) spells = absurd spells
requests_bytes rules (text ∷ texts) [] spells = absurd spells
requests_bytes rules (text ∷ texts) (ask ∷ asks) spells =
    and_from (is_in_bytes ask.action) _ (line_bytes rules text ask spells.0) (requests_bytes rules texts asks spells.1)

pub scripts_ask_in_bytes : ScriptsAskInBytes
scripts_ask_in_bytes rules bytes asks read = requests_bytes rules (lines bytes) asks ((scripts_are_read rules bytes asks).0 read).1

pub replays_keep_byte_trees : ReplaysKeepByteTrees
replays_keep_byte_trees table w [] is_tree small = is_tree
replays_keep_byte_trees table w (ask ∷ asks) is_tree small =
    let two = and_parts (is_in_bytes ask.action) (are_in_bytes asks) small in
    replays_keep_byte_trees table (apply table w ask).1 asks (requests_keep_trees table w ask is_tree two.0) two.1
