-- What contracts see of what a list for ever has of some things.
use Rattle.std.specs.Prelude.{◌≡◌, Bool, true, false, ◌&&◌, ◌==◌, List}
use Rattle.std.specs.List.{list_any}
use Rattle.pua_tree.specs.Names.{same_bytes}
use Rattle.pua_tree.specs.Tree.{Tree}
use Rattle.pua_calls.specs.Calls.{CallTable}
use Rattle.pua_calls.specs.CallSets.{has}
use Rattle.pua_calls.specs.declared.call.Call.{Call}
use Rattle.pua_policy.specs.States.{ProcessState}
use Rattle.pua_ever.specs.EverList.{thing_of}
use Rattle.pua_ever.specs.ShownForEver.{execs_shown, shown_lasting}
use Rattle.pua_ever.specs.declared.list.EverRow.{EverRow}
use Rattle.pua_how.specs.Steps.{is_some_by}
use Rattle.pua_how.specs.Targets.{is_about, is_listed}
use Rattle.pua_how.specs.declared.outlook.Outlook.{Outlook}
use Rattle.pua_how.specs.declared.target.Target.{Target}
use Rattle.pua_how.specs.declared.target.Target.TheVariants as target

-- a row is about what is asked, and has the call
abbrev pub row_has : Tree → Target → Call → EverRow → Bool
row_has t asked call row = is_some_by (is_about asked) (thing_of t row) && has row.line.calls call

-- two things are one; of what can be made, by whichever last number
abbrev pub same_target : Target → Target → Bool
same_target (target.Directory one) (target.Directory other) = other == one
same_target (target.Others one) (target.Others other) = other == one
same_target (target.Node one) (target.Node other) = other == one
same_target (target.Name dir name) (target.Name other called) = other == dir && same_bytes called name
same_target (target.NewDirectory one) (target.NewDirectory other) = true
same_target (target.NewOthers one) (target.NewOthers other) = true
same_target (target.NewFile one) (target.NewFile other) = true
same_target (target.NewLink one) (target.NewLink other) = true
same_target (target.NewSock one) (target.NewSock other) = true
same_target (target.NewFifo one) (target.NewFifo other) = true
same_target _ _ = false

-- what is shown of the list that holds longest has of some things
pub record IsOutlook (t : Tree) (table : CallTable) (h : ProcessState) (things : List Target) (call : Call) (found : Outlook) : Type 0 where
  pub listed : found.listed ≡ list_any (λ asked. is_listed (shown_lasting t table h) asked call) things
  pub execs : found.execs ≡ execs_shown t table h
