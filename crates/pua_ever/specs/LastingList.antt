-- What contracts see of the list that holds longest.
use Rattle.std.specs.Prelude.{◌≡◌, [], Option, None, MatchOption}
use Rattle.std.specs.List.{AllByRecursion}
use Rattle.pua_tree.specs.Tree.{Tree}
use Rattle.pua_calls.specs.Calls.{CallTable}
use Rattle.pua_policy.specs.States.{ProcessState}
use Rattle.pua_ever.specs.EverList.{AreEverTold, IsRowOn}
use Rattle.pua_ever.specs.BoundedExec.{IsBoundedExec}
use Rattle.pua_ever.specs.ShownForEver.{execs_shown, shown_lasting}
use Rattle.pua_ever.specs.Through.{bound_of}
use Rattle.pua_ever.specs.declared.lasting.BoundedExec.{BoundedExec}
use Rattle.pua_ever.specs.declared.lasting_list.LastingList as given

-- who holds both sets, where what is started is bounded
abbrev pub IsBoundedExecOf : CallTable → ProcessState → Option BoundedExec → Type 0
IsBoundedExecOf table h both = MatchOption both (bound_of table h ≡ None) (IsBoundedExec table h)

pub record IsLasting (t : Tree) (table : CallTable) (h : ProcessState) (list : given.LastingList) : Type 0 where
  pub rows : AreEverTold t [] list.rows.items (shown_lasting t table h) []
  pub execs : list.execs ≡ execs_shown t table h
  pub items : AllByRecursion (IsRowOn t h) list.rows.items
