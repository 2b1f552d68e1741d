use Rattle.pua_jointly.proofs.Common.{◌<◌, ◌∙◌, ◌∷◌, ◌++◌, [], arith, false≢true, length, sym, ℕ}
use Rattle.std.proofs.lemmas.Grind.{common_steps}
use Rattle.pua_jointly.specs.JointMembers.{file_now}
use Rattle.pua_jointly.proofs.JointGathered.{alike_there, same_files, file_same, files_step}
use Rattle.pua_jointly.proofs.members.are_same_files.Goals as goal

pub returns-then-not-is_same_file : goal.returns-then-not-is_same_file
returns-then-not-is_same_file c =
    let place : ℕ = c.loop-place.place in
    let low : place < length c.args.own.now = c.loop-place-test.true in (
      λ no. absurd (false≢true no),
      λ same.
          absurd (false≢true (sym c.if-not-is_same_file.true ∙ c.is_same_file.ensures
          ∙ same_files (file_now c.index-own-place.result) (file_now c.index-others-place.result)
          (alike_there file_now c.args.own.now c.args.others.now place c.index-own-place.result c.index-others-place.result low
          c.index-own-place.is c.index-others-place.is same))),
    )

pub loop-place-preserved : goal.loop-place-preserved
loop-place-preserved c =
    let place : ℕ = c.loop-place.place in
    let low : place < length c.args.own.now = c.loop-place-test.true in
    let there : place < length c.args.others.now = grind (arith, common_steps) in
    let here = file_same (file_now c.index-own-place.result) (file_now c.index-others-place.result)
    (sym c.is_same_file.ensures ∙ c.if-not-is_same_file.false) in
    record {
      same = files_step c.args.own.now place c.index-own-place.result low c.index-own-place.is
          ∙ (λ z. c.loop-place.invariant.same z ++ here z ∷ [])
          ∙ sym (files_step c.args.others.now place c.index-others-place.result there c.index-others-place.is);
    }
