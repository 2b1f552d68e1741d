use Rattle.pua_jointly.proofs.Common.{Some, Bool, Call, List, Option, Tree, ProcessState, length, made_left, ℕ}
use Rattle.std.specs.List.{AllByRecursion}
use Rattle.pua_objects.specs.declared.list.ListItem.{ListItem}
use Rattle.pua_ever.specs.Ever.{Thing}
use Rattle.pua_ever.specs.EverList.{IsRowOn}
use Rattle.pua_jointly.specs.JointCalls.{HasAgents}
use Rattle.pua_jointly.specs.JointList.{AreJointBut}
use Rattle.pua_jointly.specs.JointPrograms.{TellsOfOne}
use Rattle.pua_jointly.specs.Jointly.{agents_of}
use Rattle.pua_ever.specs.declared.made.Made.TheVariants as made
use Rattle.pua_jointly.proofs.joint_list.add_made.Given as goal

abbrev pub invariant-loop-coming : goal.invariant-loop-coming
invariant-loop-coming l = record {
  told : (t : Tree) (crew : List ProcessState) (a : ProcessState) (given : Option ℕ) (test : Thing → Call → Bool) (items : List ListItem) →
      HasAgents t l.table crew l.facts a given l.of → TellsOfOne t l.table crew (agents_of (a, given)) test → AreJointBut t a test items l.fn.rows.items (Some made.Dir) →
      AreJointBut t a test items l.rows.items l.coming;
  items : (t : Tree) (a : ProcessState) → AllByRecursion (IsRowOn t a) l.fn.rows.items → AllByRecursion (IsRowOn t a) l.rows.items;
}

abbrev pub decreases-loop-coming : goal.decreases-loop-coming
decreases-loop-coming l = length (made_left l.coming)
