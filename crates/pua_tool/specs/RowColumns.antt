-- The columns of a list for ever, as the code makes them row by row: of what each row is about.
use Rattle.std.specs.Prelude.{◌≡◌, ℕ, Bool, true, false, not, ◌&&◌, List, [], ◌∷◌, filter, is_none, length, map, Some, None, Result, MatchResult}
use Rattle.std.specs.List.{AllByRecursion, AllZip, Contains}
use Rattle.pua_tree.specs.Tree.{Tree, look}
use Rattle.pua_path.specs.declared.found.Found.TheVariants.{Slot}
use Rattle.pua_calls.specs.Calls.{CallTable}
use Rattle.pua_calls.specs.declared.call.Call.{Call}
use Rattle.pua_calls.specs.declared.rules.Rules.{Rules}
use Rattle.pua_policy.specs.States.{ProcessState}
use Rattle.pua_script.specs.Requests.{Asked}
use Rattle.pua_audit.specs.Reach.{Word}
use Rattle.pua_objects.specs.Lines.{kind_word}
use Rattle.pua_objects.specs.Objects.{Subject, At}
use Rattle.pua_objects.specs.declared.kind.ObjectKind.{ObjectKind}
use Rattle.pua_ever.specs.Ever.{EverLine, Thing, Stands, Comes}
use Rattle.pua_ever.specs.EverLines.{IsThing, line_with}
use Rattle.pua_ever.specs.EverList.{thing_of}
use Rattle.pua_ever.specs.declared.list.EverRow.{EverRow}
use Rattle.pua_how.specs.PathQuestion.{thing_word}
use Rattle.pua_how.specs.Served.{Tried}
use Rattle.pua_how.specs.Steps.{NoneComes}
use Rattle.pua_how.specs.Targets.{IsLast, target_about}
use Rattle.pua_how.specs.Ways.{IsWay}
use Rattle.pua_how.specs.declared.target.Target.{Target}
use Rattle.pua_how.specs.declared.way.NoWay.{NoWay}
use Rattle.pua_texts.specs.Lines.{with_end}
use Rattle.pua_tool.specs.Begun.{as_replayed}
use Rattle.pua_tool.specs.EverHowTexts.{counts_text, is_now}
use Rattle.pua_tool.specs.Texts.{Replayed}
use Rattle.pua_tool.specs.declared.columns.Behind.{Behind}

-- what the script left
abbrev pub done_behind : Behind → Replayed
done_behind behind = as_replayed behind.replay.now

-- where its plans are tried
abbrev pub tried_behind : Behind → Tried
tried_behind behind = record { rules = behind.rules; world = behind.replay.now.world; process = behind.number }

-- so many requests are a way to a call on one of some things
pub record AreStepsTo (done : Replayed) (process : ℕ) (things : List Target) (call : Call) (steps : ℕ) : Type 0 where
  pub thing : Target
  pub meant : Contains things thing
  pub asks : List Asked
  pub way : IsWay done.table done.world process call thing asks
  pub long : length asks ≡ steps

-- a number of steps is that of a way to a thing; without one none of the plans comes to one
abbrev pub IsCountTo : Rules → Replayed → ℕ → Target → Call × Result ℕ NoWay → Type 0
IsCountTo rules done process thing count =
    MatchResult count.1 (AreStepsTo done process (thing ∷ []) count.0) (NoneComes rules done.table process count.0 (thing ∷ []) done.world)

-- the list of now has the call on what a row is about: none on what is still to be made, nor on a name at which something stands
abbrev pub is_there : Tree → Subject → Bool
is_there t (At (Slot dir name None)) = is_none (look t dir name)
is_there t _ = true

abbrev pub is_now_on : Tree → CallTable → ProcessState → Thing → Call → Bool
is_now_on t table h (Stands subject) call = is_there t subject && is_now t table h (Some subject) call
is_now_on t table h (Comes new) call = false

-- a text is the column of a line by what that is about, with this as the last number of the nodes that live
pub record IsColumnOf (rules : Rules) (done : Replayed) (process : ℕ) (h : ProcessState) (line : EverLine) (text : List ℕ) : Type 0 where
  pub kind : ObjectKind
  pub told : kind_word kind ≡ thing_word done.world.tree line.thing
  pub last : ℕ
  pub above : IsLast done.world.tree last
  pub counts : List (Call × Result ℕ NoWay)
  pub calls : map (λ count. count.0) counts ≡ filter (λ call. not (is_now_on done.world.tree done.table h line.thing call)) line.calls
  pub counted : AllByRecursion (IsCountTo rules done process (target_about last line.thing)) counts
  pub is : text ≡ with_end (counts_text 32 counts)

-- a text is the column of a row, whichever names lead there
abbrev pub IsColumnAt : Rules → Replayed → ℕ → ProcessState → EverRow → List ℕ → Type 0
IsColumnAt rules done process h row text =
    (about : Thing) → IsThing done.world.tree about row.line.thing → thing_of done.world.tree row ≡ Some about → (word : Word) →
    IsColumnOf rules done process h (line_with word about row.line) text

-- texts are the columns of rows
abbrev pub AreColumns : Rules → Replayed → ℕ → ProcessState → List EverRow → List (List ℕ) → Type 0
AreColumns rules done process h rows texts = AllZip (IsColumnAt rules done process h) rows texts
