-- Since which line something is so, by one request more.
use Rattle.pua_since.proofs.Common.{◌≡◌, ℕ, suc, ◌+◌, List, [], ◌∷◌, ◌++◌, length, Bool, true, false, Some, None, Option, refl, ap, ◌∙◌}
use Rattle.pua_since.proofs.Common.{arith, not, ◌&&◌, if◌then◌else◌, CallTable, Asked, World, apply, world_after, Test, came_from, forebear}
use Rattle.pua_since.proofs.Common.{since}
use Rattle.pua_why.specs.Since.{later_or}

pub forebear_more : (table : CallTable) (w : World) (done : List Asked) (ask : Asked) (process : ℕ) →
    forebear table w (done ++ ask ∷ []) process ≡ forebear table w done (came_from table (world_after table w done) ask process)
forebear_more table w [] ask process = refl
forebear_more table w (first ∷ done) ask process =
    ap (came_from table w first) (forebear_more table (apply table w first).1 done ask process)

-- it was not so before a request, and is so after it
abbrev pub turns : Test → CallTable → World → Asked → ℕ → Bool
turns test table w ask process = not (test w (came_from table w ask process)) && test (apply table w ask).1 process

-- what a further request leaves of since which line it is so
abbrev pub turned_or : Bool → ℕ → Option ℕ → Option ℕ
turned_or b line before = if b then Some line else before

later_turned : (b c : Bool) (line n : ℕ) (o : Option ℕ) → later_or (turned_or b line o) c n ≡ turned_or b line (later_or o c n)
later_turned true c line n o = refl
later_turned false c line n o = refl

pub since_more : (test : Test) (table : CallTable) (w : World) (n : ℕ) (done : List Asked) (ask : Asked) (process : ℕ) →
    since test table w n (done ++ ask ∷ []) process
    ≡ turned_or (turns test table (world_after table w done) ask process) (n + length done)
    (since test table w n done (came_from table (world_after table w done) ask process))
since_more test table w n [] ask process = ap (λ line. turned_or (turns test table w ask process) line None) (omega arith)
since_more test table w n (first ∷ done) ask process =
    let next : World = (apply table w first).1 in
    let last : World = world_after table w (first ∷ done) in
    let before : ℕ = came_from table last ask process in
    let b : Bool = turns test table last ask process in
    let c : ℕ → ℕ → Bool = λ a d. not (test w (came_from table w first d)) && test next a in
    (λ i. later_or (since_more test table next (suc n) done ask process i)
    (c (forebear_more table next done ask process i) (forebear_more table next done ask process i)) n)
    ∙ later_turned b (c (forebear table next done before) (forebear table next done before)) (suc n + length done) n
    (since test table next (suc n) done before)
    ∙ ap (λ line. turned_or b line (since test table w n (first ∷ done) before)) (omega arith)
