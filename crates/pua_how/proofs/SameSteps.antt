-- Steps that test alike are one.
use Rattle.std.proofs.Common.{◌≡◌, true, List, [], ◌∷◌, refl, ap, sym, ◌∙◌}
use Rattle.std.proofs.lemmas.Bool.{and_parts, eqb-true, false≢true}
use Rattle.std.specs.Cmp.Lexicographic.{bytes_decides, pointwise}
use Rattle.pua_tree.specs.Names.{same_bytes}
use Rattle.pua_calls.specs.contracts.call.CallPartialEq.TheImpl.{ghosts as call_ghosts}
use Rattle.pua_calls.specs.declared.call.Call.{Call}
use Rattle.pua_calls.specs.declared.call.Call.TheVariants as call
use Rattle.pua_how.specs.contracts.step.AtPartialEq.TheImpl.{ghosts as at_ghosts}
use Rattle.pua_how.specs.contracts.step.DirPartialEq.TheImpl.{ghosts as dir_ghosts}
use Rattle.pua_how.specs.contracts.step.StepPartialEq.TheImpl.{ghosts as step_ghosts}
use Rattle.pua_how.specs.declared.step.At.{At}
use Rattle.pua_how.specs.declared.step.At.TheVariants as at
use Rattle.pua_how.specs.declared.step.Dir.{Dir}
use Rattle.pua_how.specs.declared.step.Dir.TheVariants as dir
use Rattle.pua_how.specs.declared.step.Step.{Step}
use Rattle.pua_how.specs.declared.step.Step.TheVariants as step
use Rattle.pua_how.proofs.Outlooking.{is_call, same_number}

-- the derived test of calls is that of their numbers
call_is : (c d : Call) → call_ghosts.eq c d ≡ is_call d c
call_is call.Stat call.Stat = refl
call_is call.Stat _ = refl
call_is _ call.Stat = refl
call_is _ _ = refl

dir_is : (a b : Dir) → dir_ghosts.eq a b ≡ true → a ≡ b
dir_is (dir.Standing a) (dir.Standing b) e = ap dir.Standing (eqb-true a b e)
dir_is dir.Made dir.Made e = refl
dir_is (dir.Standing a) dir.Made e = absurd (false≢true e)
dir_is dir.Made (dir.Standing b) e = absurd (false≢true e)

at_is : (a b : At) → at_ghosts.eq a b ≡ true → a ≡ b
at_is (at.Directory a) (at.Directory b) e = ap at.Directory (eqb-true a b e)
at_is (at.Name a n) (at.Name b m) e =
    let parts = and_parts (dir_ghosts.eq a b) (same_bytes n m) e in
    λ i. at.Name (dir_is a b parts.0 i) ((bytes_decides n m).0 parts.1 i)
at_is (at.Directory a) (at.Name b m) e = absurd (false≢true e)
at_is (at.Name a n) (at.Directory b) e = absurd (false≢true e)

step_is : (a b : Step) → step_ghosts.eq a b ≡ true → a ≡ b
step_is (step.On c x) (step.On d y) e =
    let parts = and_parts (call_ghosts.eq c d) (at_ghosts.eq x y) e in
    λ i. step.On (same_number d c (sym (call_is c d) ∙ parts.0) i) (at_is x y parts.1 i)
step_is (step.Rename x u) (step.Rename y v) e =
    let parts = and_parts (at_ghosts.eq x y) (at_ghosts.eq u v) e in
    λ i. step.Rename (at_is x y parts.0 i) (at_is u v parts.1 i)
step_is (step.Link x u) (step.Link y v) e =
    let parts = and_parts (at_ghosts.eq x y) (at_ghosts.eq u v) e in
    λ i. step.Link (at_is x y parts.0 i) (at_is u v parts.1 i)
step_is (step.On c x) (step.Rename y v) e = absurd (false≢true e)
step_is (step.On c x) (step.Link y v) e = absurd (false≢true e)
step_is (step.Rename x u) (step.On d y) e = absurd (false≢true e)
step_is (step.Rename x u) (step.Link y v) e = absurd (false≢true e)
step_is (step.Link x u) (step.On d y) e = absurd (false≢true e)
step_is (step.Link x u) (step.Rename y v) e = absurd (false≢true e)

pub steps_are : (xs ys : List Step) → pointwise step_ghosts.eq xs ys ≡ true → xs ≡ ys
steps_are [] [] e = refl
steps_are (x ∷ xs) (y ∷ ys) e =
    let parts = and_parts (step_ghosts.eq x y) (pointwise step_ghosts.eq xs ys) e in
    λ i. step_is x y parts.0 i ∷ steps_are xs ys parts.1 i
steps_are [] (y ∷ ys) e = absurd (false≢true e)
steps_are (x ∷ xs) [] e = absurd (false≢true e)
