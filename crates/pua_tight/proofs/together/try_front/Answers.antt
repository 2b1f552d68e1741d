use Rattle.std.proofs.Common.{◌≡◌, ◌+◌, ◌-◌, ◌∙◌, ap, arith, cond, take, drop, List}
use Rattle.pua_script.specs.Requests.{Asked}
use Rattle.pua_script.specs.Replay.{World, answers_to, new_world}
use Rattle.pua_tight.specs.Tight.{same_answers}
use Rattle.pua_tight.specs.Several.{all_left}
use Rattle.pua_tight.specs.Trials.{Trial}
use Rattle.pua_tight.proofs.WithoutSeveral.{front_done, front_fewer, front_more, more_left, part_to_try}
use Rattle.pua_tight.proofs.together.try_front.Goals as goal

pub loop-spare-preserved-then-branch : goal.loop-spare-preserved-then-branch
loop-spare-preserved-then-branch c =
    let trials : List Trial = c.args.trials.now in
    let given : List Asked = c.args.requests.now.items in
    let now : List Asked = c.loop-spare.requests.items in
    let spare = c.loop-spare.spare in
    let more = 1 + c.min-more.result in
    let inv = c.loop-spare.invariant in
    let some : List Asked = all_left (take (spare + more - spare) (drop spare trials)) now in
    let same : spare + more - spare ≡ more = omega arith in
    let reached : some ≡ all_left (take (spare + more) trials) given =
    more_left trials _ given now spare more inv.left (ap (λ n. take n (drop spare trials)) same) in
    let left : c.try_together.new.requests.items ≡ some = c.in_ok-try_together.ensures.left ∙ ap (λ b. cond b some now) c.if-branch.true in
    record {
      order = omega (arith, c.min-more.ensures, c.loop-spare-test.true);
      within = inv.within;
      left = left ∙ reached;
      start = λ to_try is. c.in_ok-try_together.ensures.start (part_to_try c.args.wanted.now.table.now (new_world c.args.wanted.now.tree) c.args.wanted.now.answers.items
          trials given now spare (spare + more - spare) to_try (inv.told to_try is).answered) (inv.start to_try is);
      told = λ to_try is. front_more c.args.wanted.now.table.now (new_world c.args.wanted.now.tree) c.args.wanted.now.answers.items trials given
          c.loop-spare.most now some _ _ (inv.told to_try is)
          (c.in_ok-try_together.ensures.told (part_to_try c.args.wanted.now.table.now (new_world c.args.wanted.now.tree) c.args.wanted.now.answers.items
          trials given now spare (spare + more - spare) to_try (inv.told to_try is).answered) (inv.start to_try is)) c.if-branch.true left;
    }

pub loop-spare-preserved : goal.loop-spare-preserved
loop-spare-preserved c =
    let trials : List Trial = c.args.trials.now in
    let given : List Asked = c.args.requests.now.items in
    let now : List Asked = c.loop-spare.requests.items in
    let spare = c.loop-spare.spare in
    let more = 1 + c.min-more.result in
    let inv = c.loop-spare.invariant in
    let some : List Asked = all_left (take (spare + more - spare) (drop spare trials)) now in
    let same : spare + more - spare ≡ more = omega arith in
    let fewer : spare + more ≡ spare + more - 1 + 1 = omega arith in
    let reached : some ≡ all_left (take (spare + more - 1 + 1) trials) given =
    more_left trials _ given now spare more inv.left (ap (λ n. take n (drop spare trials)) same)
    ∙ ap (λ n. all_left (take n trials) given) fewer in
    let left : c.try_together.new.requests.items ≡ now = c.in_ok-try_together.ensures.left ∙ ap (λ b. cond b some now) c.if-branch.false in
    record {
      order = omega arith;
      within = omega (arith, c.min-more.ensures, c.loop-spare-test.true, inv.within);
      left = left ∙ inv.left;
      start = λ to_try is. c.in_ok-try_together.ensures.start (part_to_try c.args.wanted.now.table.now (new_world c.args.wanted.now.tree) c.args.wanted.now.answers.items
          trials given now spare (spare + more - spare) to_try (inv.told to_try is).answered) (inv.start to_try is);
      told = λ to_try is. front_fewer c.args.wanted.now.table.now (new_world c.args.wanted.now.tree) c.args.wanted.now.answers.items trials given
          c.loop-spare.most (spare + more - 1) now some _ _ (inv.told to_try is)
          (c.in_ok-try_together.ensures.told (part_to_try c.args.wanted.now.table.now (new_world c.args.wanted.now.tree) c.args.wanted.now.answers.items
          trials given now spare (spare + more - spare) to_try (inv.told to_try is).answered) (inv.start to_try is)) c.if-branch.false left reached;
    }

pub returns-clause-done : goal.returns-clause-done
returns-clause-done c = λ to_try is.
    let table = c.args.wanted.now.table.now in
    let w : World = new_world c.args.wanted.now.tree in
    let want = c.args.wanted.now.answers.items in
    let trials : List Trial = c.args.trials.now in
    let given : List Asked = c.args.requests.now.items in
    let spare = c.loop-spare.spare in
    let inv = c.loop-spare.invariant in
    let front = inv.told to_try is in
    let all : spare ≡ c.loop-spare.most = omega (arith, c.loop-spare-test.false, inv.order) in
    front_done table w want trials given c.loop-spare.requests.items to_try spare inv.left front.answered
    (omega (arith, inv.order, inv.within))
    (λ less. ap (λ n. same_answers (answers_to table w (all_left (take (n + 1) trials) given)) want) all
    ∙ front.needed (omega (arith, all, less)))
    c.min.result (omega (arith, c.min.ensures))
