use Rattle.pua_jointly.proofs.Common.{[], take, Bool, Call, List, Option, ProcessState, Tree, WellFormed, ℕ}
use Rattle.std.proofs.Common.{drop}
use Rattle.std.specs.List.{AllByRecursion}
use Rattle.pua_objects.specs.ListItems.{AreNear, IsToldIn}
use Rattle.pua_ever.specs.Ever.{Thing}
use Rattle.pua_ever.specs.EverList.{IsRowOn}
use Rattle.pua_jointly.specs.JointCalls.{HasAgents}
use Rattle.pua_jointly.specs.JointList.{AreJointSoFar}
use Rattle.pua_jointly.specs.JointPrograms.{TellsOfOne}
use Rattle.pua_jointly.specs.Jointly.{agents_of}
use Rattle.pua_jointly.proofs.joint_list.rows_of.Given as goal

abbrev pub invariant-loop-item : goal.invariant-loop-item
invariant-loop-item l = record {
  told : (t : Tree) (crew : List ProcessState) (a : ProcessState) (given : Option ℕ) (test : Thing → Call → Bool) → WellFormed t → HasAgents t l.table crew l.facts a given l.of →
      TellsOfOne t l.table crew (agents_of (a, given)) test → AllByRecursion (IsToldIn t a) l.items → AreNear [] l.items →
      AreJointSoFar t a test l.items (take l.item-index l.items) (drop l.item-index l.items) l.rows.items;
  items : (t : Tree) → WellFormed t → AllByRecursion (IsToldIn t l.process) l.items → AllByRecursion (IsRowOn t l.process) l.rows.items;
}
