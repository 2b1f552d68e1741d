use Rattle.pua_ever.proofs.Common.{◌≡◌, ℕ, Bool, true, false, cond, map, refl, ap, subst, ◌∙◌, ◌&&◌, ◌||◌, Option, Some, None, Result, Ok, Err}
use Rattle.pua_ever.proofs.Common.{List, ProcessState, state_after}
use Rattle.std.specs.Prelude.{MatchResult}
use Rattle.pua_path.specs.declared.errno.Errno.{Errno}
use Rattle.pua_calls.specs.declared.rules.Rules.TheVariants.{Standard}
use Rattle.pua_path.specs.declared.errno.Errno.TheVariants.{EPERM}
use Rattle.pua_policy.specs.States.{Moved, ToRoot, Pledged, Locked, has_error, held_set, is_within, narrowed_set, pledge_fault, with_both}
use Rattle.pua_ever.specs.Joints.{joint_told}
use Rattle.pua_ever.specs.Together.{Joint, confined_part, files_together, joint_after, joint_of}
use Rattle.pua_ever.proofs.joining.join.Goals as goal

-- who hands nothing down is refused no first execpromises, and then hands down these
none_refused : (b : Bool) (given : Option ℕ) → cond ((b || true) && (b || is_within given None)) None (Some EPERM) ≡ None
none_refused true given = refl
none_refused false None = refl
none_refused false (Some asked) = refl

first_given : (given : Option ℕ) → narrowed_set None given ≡ given
first_given None = refl
first_given (Some asked) = refl

pledged : {A : Type 0} (S : Type 0) (fault : Option Errno) → fault ≡ None → (r : Result A Errno) →
    MatchResult r (λ done. (fault ≡ None) × S) (λ errno. fault ≡ Some errno) → S
pledged S fault none (Ok done) is = is.1
pledged S fault none (Err errno) is = let never : None ≡ Some errno = subst (λ (f : Option Errno). f ≡ Some errno) none is in cc

-- the one before it hands anything down
abbrev bare_of : ProcessState → Joint → List ProcessState → ProcessState
bare_of first all more = record (with_both first all.held) { files = files_together first more }

pub returns : goal.returns
returns c =
    let table = c.args.table.now in
    let first = c.args.first.now in
    let more = map (λ process. process.now) c.args.more.now in
    let all : Joint = joint_after table (joint_of table first) more in
    let joint : joint_told c.joint_after-joint.result ≡ all
    = c.joint_after-joint.ensures ∙ ap (λ (joint : Joint). joint_after table joint more) c.of.ensures in
    let both : c.in_ok-one.one ≡ with_both first all.held = c.in_ok-one.ensures ∙ ap (λ (j : Joint). with_both first j.held) joint in
    let bare : c.open_together.new.one ≡ bare_of first all more =
    c.in_ok-open_together.ensures ∙ ap (λ (p : ProcessState). record p { files = files_together first more }) both in
    let given : c.confined_part-given.result ≡ confined_part all.locked (held_set (with_both first all.held)) all.given
    = c.confined_part-given.ensures ∙ (λ i. confined_part (joint i).locked ((c.held.ensures.state ∙ ap held_set bare) i) (joint i).given) in
    let done = pledged (c.pledge-given.new.self ≡ state_after (Pledged None c.confined_part-given.result) c.open_together.new.one)
    (pledge_fault Standard c.open_together.new.one None c.confined_part-given.result)
    (ap (λ p. pledge_fault Standard p None c.confined_part-given.result) bare ∙ none_refused (has_error (with_both first all.held)) c.confined_part-given.result)
    c.pledge-given.result c.pledge-given.ensures.state in
    c.lock.ensures.state ∙ ap (state_after Locked) (c.set_root.ensures.state ∙ ap (state_after (Moved (ToRoot 0)))
    (done ∙ (λ i. state_after (Pledged None (given i)) (bare i)) ∙
    ap (λ o. record (bare_of first all more) { execpromises = o }) (first_given _)))
