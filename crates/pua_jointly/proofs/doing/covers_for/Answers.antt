use Rattle.pua_jointly.proofs.Common.{◌≡◌, ◌<◌, ◌∙◌, ap, arith, subst, sym, ℕ}
use Rattle.std.specs.Prelude.{◌+◌, ◌^◌}
use Rattle.std.specs.Int.Bits.{bit_or}
use Rattle.std.proofs.Common.{add-one}
use Rattle.std.proofs.lemmas.Grind.{common_steps}
use Rattle.pua_jointly.specs.JointCovers.{cover_of, does}
use Rattle.pua_jointly.specs.JointRounds.{flag}
use Rattle.pua_jointly.proofs.JointDoing.{AreSoFar, covers_all, none_so_far, one_more}
use Rattle.pua_jointly.proofs.doing.covers_for.Goals as goal

pub loop-bit-init : goal.loop-bit-init
loop-bit-init c = record { covers = none_so_far (does c.args.table.now c.args.process.now c.args.doing) }

pub loop-bit-preserved : goal.loop-bit-preserved
loop-bit-preserved c =
    let test = does c.args.table.now c.args.process.now c.args.doing in
    let bit : ℕ = c.loop-bit.bit in
    let word : ℕ = c.loop-bit.word in
    let done : c.is_done.result ≡ test (cover_of bit) = c.is_done.ensures ∙ ap test c.cover_at.ensures in
    let set : c.flag-word.result ≡ flag (test (cover_of bit)) bit = c.flag-word.ensures ∙ ap (λ b. flag b bit) done in
    record {
      covers = subst (λ w. AreSoFar test w (bit + 1)) (ap (bit_or word) (sym set))
          (subst (AreSoFar test (bit_or word (flag (test (cover_of bit)) bit))) (sym (add-one bit)) (one_more test word bit c.loop-bit.invariant.covers));
    }

pub returns : goal.returns
returns c =
    let test = does c.args.table.now c.args.process.now c.args.doing in
    let last : c.loop-bit.bit ≡ 18 = grind (arith, common_steps) in
    let small : c.loop-bit.word < 2 ^ 32 = grind (arith, common_steps) in
    covers_all test c.loop-bit.word (subst (AreSoFar test c.loop-bit.word) last c.loop-bit.invariant.covers) small
