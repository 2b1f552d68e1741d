use Rattle.pua_jointly.proofs.Common.{◌≡◌, List, map, ProcessState, take, Tree}
use Rattle.std.specs.List.{AllByRecursion, Contains}
use Rattle.pua_ever.specs.declared.lasting_list.ExecBound.TheVariants.{Never}
use Rattle.pua_jointly.specs.JointFound.{AreFacts}
use Rattle.pua_jointly.specs.JointPrograms.{Acting, HasExec, acting_of, process_of}
use Rattle.pua_jointly.proofs.counting.next_starting.Given as goal

-- none so far starts programs after all
abbrev pub invariant-loop-at : goal.invariant-loop-at
invariant-loop-at l = record {
  none : (t : Tree) (crew : List ProcessState) → AreFacts t l.table crew l.facts →
      AllByRecursion (λ actor. Contains crew (process_of actor)) l.actors →
      AllByRecursion (λ (m : Acting). m.execs ≡ Never → HasExec t l.table crew m.process → ⊥) (map acting_of (take l.at l.actors));
}
