-- What the tightened script is that a command writes.
use Rattle.std.specs.Prelude.{◌≡◌, ◌≢◌, ◌⊎◌, ℕ, List, map, Some, None, Ok, is_some, IsTrue}
use Rattle.std.specs.List.{Contains}
use Rattle.pua_tree.specs.Tree.{Tree, WellFormed}
use Rattle.pua_tree.specs.Listing.{listing}
use Rattle.pua_calls.specs.Calls.{CallTable}
use Rattle.pua_calls.specs.TmpTable.{tmp_table}
use Rattle.pua_calls.specs.declared.call.Call.{Call}
use Rattle.pua_calls.specs.declared.rules.Rules.TheVariants.{Standard}
use Rattle.pua_policy.specs.States.{ProcessState, is_ended}
use Rattle.pua_policy.specs.Verdict.{verdict_on, is_allowed}
use Rattle.pua_script.specs.Requests.{Asked}
use Rattle.pua_script.specs.Scripts.{script_by}
use Rattle.pua_script.specs.Replay.{World, new_world, kept_at, answers_to, world_after}
use Rattle.pua_script.specs.declared.answer.Answer.TheVariants.{Okay}
use Rattle.pua_objects.specs.Objects.{Line, Subject, objects}
use Rattle.pua_objects.specs.Roots.{shown_for_ever, shown_of, shows}
use Rattle.pua_ever.specs.Ever.{EverLine, ever}
use Rattle.pua_ever.specs.Through.{bound_of, ever_lasting}
use Rattle.pua_tight.specs.declared.piece.Piece.{Piece}
use Rattle.pua_tight.specs.Tight.{lines_of}
use Rattle.pua_tight.specs.Narrower.{AsksWithin}
use Rattle.pua_tight.specs.JointLaws.{ComesToNoMore}
use Rattle.pua_tight.specs.Laws.{IsListed, IsListedForEver, LeavesOut, MayLeaveOut, leave_out, HasOneWay, HasNoChoice}
use Rattle.pua_tool.specs.Texts.{Chosen, run_text, table_by}
use Rattle.pua_tool.specs.TightTexts.{tight_text}

-- a process has ended where another has, and whatever is allowed to it is allowed to the other: over each tree each call on each
-- path, and of all its objects and of its lists for ever each line with all of its calls; the lists of both show the same of these
-- objects, and a list for ever of the one shows no more than one of the other; of the list for ever that holds longest unless what
-- it starts is bounded and what the other one starts is not. Lists for ever go by the table with `tmppath`
pub record MayDoNoMore (table : CallTable) (less given : ProcessState) : Type 0 where
  pub ended : is_ended less ≡ is_ended given
  pub calls : (t : Tree) (call : Call) (text : List ℕ) → IsTrue (is_allowed (verdict_on t table less call text)) →
      IsTrue (is_allowed (verdict_on t table given call text))
  pub listed : (t : Tree) (line : Line) → Contains (objects t table less) line → IsListed t table given line
  pub shown : (t : Tree) → shown_of t less ≡ shown_of t given
  pub shown_ever : (t : Tree) (subject : Subject) → IsTrue (shows t (shown_for_ever t less) subject) →
      IsTrue (shows t (shown_for_ever t given) subject)
  pub ever : (t : Tree) → WellFormed t → (line : EverLine) → Contains (ever t (tmp_table table) less) line →
      IsListedForEver (ever t (tmp_table table) given) line
  pub lasting : (t : Tree) → WellFormed t → (bound_of table given ≡ None → bound_of table less ≡ None) →
      (line : EverLine) → Contains (ever_lasting t (tmp_table table) less) line → IsListedForEver (ever_lasting t (tmp_table table) given) line

-- one tree, and the same processes, each of which may do no more; nor come any of them to more, all of them together
pub record LeavesNoMore (table : CallTable) (less given : World) : Type 0 where
  pub tree : less.tree ≡ given.tree
  pub made : (process : ℕ) → is_some (kept_at less process) ≡ is_some (kept_at given process)
  pub processes : (process : ℕ) (h k : ProcessState) → kept_at less process ≡ Some h → kept_at given process ≡ Some k →
      MayDoNoMore table h k
  pub jointly : ComesToNoMore less given

pub record IsTightWritten (choice : Chosen) (tree_bytes script_bytes : List ℕ) (table : CallTable) (t : Tree) (given : List Asked)
    (text : List ℕ) : Type 0 where
  -- it is a script, of the given requests but for words that were left out
  pub left : List Asked
  pub read : script_by choice.rules text ≡ Ok left
  pub within : AsksWithin left given
  -- its run has the same answers, and by the standard rules the same text; by OpenBSD's a promise may open what another one allowed
  pub same : answers_to table (new_world t) left ≡ answers_to table (new_world t) given
  pub same_text : choice.rules ≡ Standard → run_text choice tree_bytes text ≡ run_text choice tree_bytes script_bytes
  -- each process may do no more where it ends, in a tree that is well-formed,
  pub well : WellFormed (world_after table (new_world t) given).tree
  pub narrower : LeavesNoMore table (world_after table (new_world t) left) (world_after table (new_world t) given)
  -- nor after whatever is asked then, as long as all of it is granted, which it then is behind the given script too
  pub futures : (later : List Asked) →
      answers_to table (world_after table (new_world t) left) later ≡ map (λ ask. Okay) later →
      (answers_to table (world_after table (new_world t) given) later ≡ map (λ ask. Okay) later)
      × LeavesNoMore table (world_after table (world_after table (new_world t) left) later)
      (world_after table (world_after table (new_world t) given) later)
  -- without a word more that may be left out, some line is answered otherwise
  pub minimal : (index : ℕ) (piece : Piece) → MayLeaveOut (lines_of table (new_world t) given) index piece →
      leave_out index piece left ≢ left →
      answers_to table (new_world t) (leave_out index piece left) ≢ answers_to table (new_world t) given
  -- where each request rests on one set of promises, and no promise that may be left out opens a path by itself, whatever else is left
  -- out so that all is answered as before has all that it has
  pub least : HasOneWay table given → (less : List Asked) → LeavesOut less (lines_of table (new_world t) given) →
      answers_to table (new_world t) less ≡ answers_to table (new_world t) given → AsksWithin left less
  -- which is so by the rules alone: by the standard ones of every script, by OpenBSD's of every script without chown and fchown, and
  -- without a call that has no path and asks for one of several promises, or for one that opens another call's path
  pub one_way : choice.rows ≡ None → (choice.rules ≡ Standard) ⊎ HasNoChoice given → HasOneWay table given

abbrev pub TightAsWritten : Type 0
TightAsWritten = (choice : Chosen) (tree_bytes script_bytes : List ℕ) (table : CallTable) (t : Tree) (given : List Asked) (text : List ℕ) →
    table_by choice ≡ Ok table → listing tree_bytes ≡ Ok t → script_by choice.rules script_bytes ≡ Ok given →
    tight_text choice tree_bytes script_bytes ≡ Ok text → IsTightWritten choice tree_bytes script_bytes table t given text
