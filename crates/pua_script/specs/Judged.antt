-- What the code decides, by the definitions.
use Rattle.std.specs.Prelude.{ℕ, List, Bool, Option, Some, None, Result, Ok, Err}
use Rattle.pua_tree.specs.Tree.{Node, Tree, Spot}
use Rattle.pua_tree.specs.declared.node.Kind.TheVariants as kind
use Rattle.pua_path.specs.Fits.{FoundFits, StandsAsNamed}
use Rattle.pua_path.specs.declared.text.Ending.{Ending}
use Rattle.pua_path.specs.declared.found.Found.{Found}
use Rattle.pua_calls.specs.Calls.{PairRule, effect_of, file_by_rules}
use Rattle.pua_calls.specs.Effects.{edits}
use Rattle.pua_calls.specs.declared.effect.Effect.{Effect}
use Rattle.pua_calls.specs.declared.effect.Effect.TheVariants as effect
use Rattle.pua_calls.specs.declared.call.Call.{Call}
use Rattle.pua_policy.specs.States.{Locked, Moved, ToDir, ToRoot, Ended, Filed, ProcessState}
use Rattle.pua_policy.specs.Verdict.{place_of}
use Rattle.pua_policy.specs.declared.answer.Refusal.{Refusal}
use Rattle.pua_script.specs.Decide.{NoChange, AddNode, CutRow, ShiftRow, TieRow, BeginProgram, AddEvent, Requester, Change, Decision, pledging}
use Rattle.pua_script.specs.Decide.{veiling}
use Rattle.pua_script.specs.Decide.{plain_node, link_node, made_in, making, cutting, if_named, unless_fault, covers_by, asker_of, path_named}
use Rattle.pua_calls.specs.declared.rules.Rules.{Rules}
use Rattle.pua_script.specs.declared.granted.Granted.{Granted}
use Rattle.pua_script.specs.declared.granted.Granted.TheVariants as granted
use Rattle.pua_script.specs.declared.granted.NewNode.{NewNode}
use Rattle.pua_script.specs.declared.granted.NewNode.TheVariants as new_nodes
use Rattle.pua_script.specs.declared.link.Tie.{Tie}
use Rattle.pua_script.specs.declared.pair.LentSpot.{LentSpot}
use Rattle.pua_script.specs.declared.rename.Shift.{Shift}

-- a spot whose name is lent
abbrev pub spot_now : LentSpot → Spot
spot_now spot = (spot.dir, spot.name.bytes.now)

-- what was found is of the tree, and stands at the name by which it was found
pub record NameFits (t : Tree) (object : Found) : Type 0 where
  pub fits : FoundFits t object
  pub named : StandsAsNamed t object

-- a node that is to be added
abbrev pub node_made : NewNode → Node
node_made (new_nodes.File whose) = plain_node (file_by_rules whose)
node_made (new_nodes.Typed type) = plain_node (kind.Known type)
node_made new_nodes.Directory = plain_node kind.Dir
node_made (new_nodes.Link target) = link_node target.now.bytes

-- what was granted, as a decision: of a pledge and an unveil the process itself judges the last check
abbrev pub decision_by : Requester → Granted → Decision
decision_by asker granted.NoChange = Ok NoChange
decision_by asker (granted.AddNode dir name node) = Ok (AddNode (dir, name.now) (node_made node))
decision_by asker (granted.CutRow dir name) = Ok (CutRow (dir, name.now))
decision_by asker (granted.ShiftRow from name to new_name) = Ok (ShiftRow (from, name.now) (to, new_name.now))
decision_by asker (granted.TieRow dir name x) = Ok (TieRow (dir, name.now) x)
decision_by asker (granted.BeginProgram left) = Ok (BeginProgram left)
decision_by asker (granted.Pledge whose promises execpromises) = pledging asker whose promises execpromises
decision_by asker (granted.Unveil object perms) = veiling asker (place_of object.now) perms
decision_by asker granted.Lock = Ok (AddEvent Locked)
decision_by asker (granted.Enter dir) = Ok (AddEvent (Moved (ToDir dir)))
decision_by asker (granted.Root dir) = Ok (AddEvent (Moved (ToRoot dir)))
decision_by asker granted.Exit = Ok (AddEvent Ended)
decision_by asker (granted.Hold number file) = Ok (AddEvent (Filed number (Some file)))
decision_by asker (granted.Close number) = Ok (AddEvent (Filed number None))

-- a call that makes a name or takes one away
abbrev pub is_edit : Call → Bool
is_edit call = edits (effect_of call)

-- what such a call changes, by the spot that its path named and by what stands there
abbrev pub edit_in : Rules → Effect → Option Spot → Option ℕ → Change
edit_in whose effect.Removes spot there = cutting spot there
edit_in whose does spot there = making whose (made_in does) spot there

abbrev pub edit_by : Rules → Call → Option Spot → Option ℕ → Change
edit_by whose call spot there = edit_in whose (effect_of call) spot there

-- what a rename and a link change, as a decision
abbrev pub shifted : Result (Option Shift) Refusal → Decision
shifted (Ok None) = Ok NoChange
shifted (Ok (Some shift)) = Ok (ShiftRow (shift.from, shift.name.bytes.now) (shift.to, shift.new_name.bytes.now))
shifted (Err refusal) = Err refusal

abbrev pub tied : Result (Option Tie) Refusal → Decision
tied (Ok None) = Ok NoChange
tied (Ok (Some tie)) = Ok (TieRow (tie.dir, tie.name.bytes.now) tie.node)
tied (Err refusal) = Err refusal

-- further checks of what both paths of a request name, where both are covered with what their names need
abbrev pub if_covered : Rules → PairRule → Tree → ProcessState → Ending → List ℕ → List ℕ → (Found → Found → Decision) → Decision
if_covered whose need t p ending old new further =
    if_named (path_named whose t p.start ending old need.old.last) λ from.
    if_named (path_named whose t p.start ending new need.new.last) λ to.
    unless_fault (covers_by need t (asker_of p) from to) (further from to)

-- further checks of what was judged
abbrev pub on_judged : {X : Type 0} → Result X Refusal → (X → Decision) → Decision
on_judged (Ok x) further = further x
on_judged (Err refusal) further = Err refusal

-- what was granted, or refused, as a decision
abbrev pub decision_for : Requester → Result Granted Refusal → Decision
decision_for asker (Ok granted) = decision_by asker granted
decision_for asker (Err refusal) = Err refusal
