use Rattle.pua_jointly.proofs.Common.{◌≡◌, ◌<◌, ◌≤◌, ◌∙◌, ◌∷◌, [], ap, arith, false≢true, length, List, map, refl, Some}
use Rattle.pua_jointly.proofs.Common.{option_map, subst, sym, take, ℕ}
use Rattle.std.specs.Prelude.{Ok, slice_get}
use Rattle.std.specs.List.{AllByRecursion, Contains}
use Rattle.std.proofs.lemmas.Grind.{common_steps}
use Rattle.std.proofs.lemmas.List.{map-append}
use Rattle.std.proofs.lemmas.Option.{slice_get-map, slice_get_read}
use Rattle.pua_ever.proofs.ForCallers.{all_more}
use Rattle.pua_ever.specs.declared.lasting_list.ExecBound.TheVariants.{Never}
use Rattle.pua_jointly.specs.JointPrograms.{Acting, HasExec, acting_of, process_of}
use Rattle.pua_jointly.specs.declared.counting.Actor.{Actor}
use Rattle.pua_jointly.proofs.JointGathered.{at_among, taken_all}
use Rattle.pua_jointly.proofs.JointMembers.{taken_more}
use Rattle.pua_jointly.proofs.JointlyDone.{every}
use Rattle.pua_tree.proofs.ForCallers.{same_Some}
use Rattle.pua_jointly.proofs.counting.next_starting.Goals as goal

pub loop-at-preserved : goal.loop-at-preserved
loop-at-preserved c = record {
  none = λ t crew are all.
      let table = c.args.table.now in
      let actors : List Actor = c.args.actors.now in
      let at : ℕ = c.loop-at.at in
      let item : Actor = c.index-actors-at.result in
      let low : at < length actors = c.loop-at-test.true in
      let among : Contains crew (process_of item) =
      every (λ (m : Actor). Contains crew (process_of m)) actors item all (at_among actors at item low c.index-actors-at.is) in
      let decided = c.in_ok-starts_after_all.ensures.starts t crew are among in
      subst (AllByRecursion (λ (m : Acting). m.execs ≡ Never → HasExec t table crew m.process → ⊥))
      (sym (ap (map acting_of) (taken_more actors at item low c.index-actors-at.is) ∙ map-append acting_of (take at actors) (item ∷ [])))
      (all_more (λ (m : Acting). m.execs ≡ Never → HasExec t table crew m.process → ⊥) (map acting_of (take at actors)) (acting_of item)
      (c.loop-at.invariant.none t crew are all)
      (λ never exec. false≢true (sym c.if-branch.false ∙ decided.1 (never, exec))));
}

pub returns-then-branch-clause-silent : goal.returns-then-branch-clause-silent
returns-then-branch-clause-silent c = λ one here.
    let actors : List Actor = c.args.actors.now in
    let item : Actor = c.index-actors-at.result in
    let there : slice_get actors c.loop-at.at ≡ Some item =
    slice_get_read actors (length actors) c.loop-at.at item refl c.loop-at-test.true c.index-actors-at.is in
    ap (λ (m : Actor). m.execs) (sym (same_Some item one (sym there ∙ here))) ∙ c.in_ok-starts_after_all.ensures.silent (ap Ok c.if-branch.true)

pub returns-then-branch-clause-next : goal.returns-then-branch-clause-next
returns-then-branch-clause-next c = λ t crew are all.
    let actors : List Actor = c.args.actors.now in
    let at : ℕ = c.loop-at.at in
    let item : Actor = c.index-actors-at.result in
    let low : at < length actors = c.loop-at-test.true in
    let among : Contains crew (process_of item) =
    every (λ (m : Actor). Contains crew (process_of m)) actors item all (at_among actors at item low c.index-actors-at.is) in
    let both = (c.in_ok-starts_after_all.ensures.starts t crew are among).0 c.if-branch.true in
    record {
      one = acting_of item;
      here = slice_get-map acting_of actors at
          ∙ ap (option_map acting_of) (slice_get_read actors (length actors) at item refl low c.index-actors-at.is);
      said = both.0;
      exec = both.1;
    }

pub returns-clause-next : goal.returns-clause-next
returns-clause-next c = λ t crew are all.
    let actors : List Actor = c.args.actors.now in
    let past : length actors ≤ c.loop-at.at = grind (arith, common_steps) in
    subst (λ (ms : List Actor). AllByRecursion (λ (m : Acting). m.execs ≡ Never → HasExec t c.args.table.now crew m.process → ⊥) (map acting_of ms))
    (taken_all actors c.loop-at.at past) (c.loop-at.invariant.none t crew are all)
