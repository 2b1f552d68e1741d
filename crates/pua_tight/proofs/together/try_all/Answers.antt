use Rattle.std.proofs.Common.{◌≡◌, ◌-◌, length, take, drop, arith, subst, sym, List}
use Rattle.std.proofs.lemmas.List.{length-drop, length-take, take_all}
use Rattle.pua_script.specs.Replay.{new_world}
use Rattle.pua_tight.specs.Several.{IsToTry}
use Rattle.pua_tight.specs.Trials.{Trial}
use Rattle.pua_tight.proofs.WithoutSeveral.{all_done, more_done, none_done}
use Rattle.pua_tight.proofs.together.try_all.Goals as goal

pub loop-done-init : goal.loop-done-init
loop-done-init c = record {
  within = omega arith;
  start = λ to_try. c.in_ok-start.ensures.start c.args.requests.now.items;
  told = λ to_try. none_done c.args.wanted.now.table.now (new_world c.args.wanted.now.tree) c.args.wanted.now.answers.items c.args.trials.now
      c.args.requests.now.items c.args.requests.now.items c.args.requests.now.items to_try;
}

pub loop-done-preserved : goal.loop-done-preserved
loop-done-preserved c =
    let trials : List Trial = c.args.trials.now in
    let done = c.loop-done.done in
    let rest : List Trial = take (length trials - done) (drop done trials) in
    let are : rest ≡ drop done trials = take_all (length trials - done) (drop done trials) (omega (arith, length-drop done trials)) in
    record {
      within = omega (
        arith,
        c.in_ok-done.ensures.within,
        length-take (length trials - done) (drop done trials),
        length-drop done trials,
        c.loop-done-test.true,
      );
      start = λ to_try. c.in_ok-done.ensures.start (subst (λ (l : List Trial). IsToTry c.args.wanted.now.table.now (new_world c.args.wanted.now.tree)
          c.args.wanted.now.answers.items l c.loop-done.requests.items) (sym are) (c.loop-done.invariant.told to_try).more) (c.loop-done.invariant.start to_try);
      told = λ to_try. more_done c.args.wanted.now.table.now (new_world c.args.wanted.now.tree) c.args.wanted.now.answers.items trials
          c.args.requests.now.items c.loop-done.requests.items c.try_front.new.requests.items done _ rest are
          (c.loop-done.invariant.told to_try) (λ next. c.in_ok-done.ensures.done next (c.loop-done.invariant.start to_try));
    }

pub returns : goal.returns
returns c = λ to_try.
    all_done c.args.wanted.now.table.now (new_world c.args.wanted.now.tree) c.args.wanted.now.answers.items c.args.trials.now c.args.requests.now.items
    c.loop-done.requests.items c.loop-done.requests.items c.loop-done.done c.loop-done-test.false (c.loop-done.invariant.told to_try)
