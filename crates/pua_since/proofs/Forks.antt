-- Who a process was, by the forks that were done.
use Rattle.pua_since.proofs.Common.{◌≡◌, ℕ, zero, suc, List, [], ◌∷◌, length, drop, refl, ap, ◌∙◌, arith, CallTable, Asked, World}
use Rattle.pua_since.proofs.Common.{answers_to, apply, is_okay, if◌then◌else◌, Answer, Okay, Failed, Killed, Gone, Action, Fork, parent_by}
use Rattle.pua_since.proofs.Common.{came_from, forebear, forks_done, forebear_by}
use Rattle.std.proofs.Common.{min}
use Rattle.pua_since.specs.Watched.{forks_with, fork_told}

by_fork : (ask : Asked) (action : Action) (forks : List (ℕ × ℕ)) (process : ℕ) →
    forebear_by (forks_with ask action forks) process ≡ parent_by action ask.process (forebear_by forks process)
by_fork ask (Fork new) forks process = refl
by_fork ask _ forks process = refl

by_answer : (ask : Asked) (answer : Answer) (forks : List (ℕ × ℕ)) (process : ℕ) →
    forebear_by (fork_told ask answer forks) process
    ≡ (if is_okay answer then parent_by ask.action ask.process (forebear_by forks process) else forebear_by forks process)
by_answer ask Okay forks process = by_fork ask ask.action forks process
by_answer ask (Failed errno) forks process = refl
by_answer ask Killed forks process = refl
by_answer ask Gone forks process = refl

-- the forks of the answers tell who each process was
pub forebears_tell : (table : CallTable) (w : World) (asks : List Asked) (process : ℕ) →
    forebear_by (forks_done asks (answers_to table w asks)) process ≡ forebear table w asks process
forebears_tell table w [] process = refl
forebears_tell table w (ask ∷ asks) process =
    by_answer ask (apply table w ask).0 (forks_done asks (answers_to table (apply table w ask).1 asks)) process
    ∙ ap (came_from table w ask) (forebears_tell table (apply table w ask).1 asks process)

none_told : (asks : List Asked) → forks_done asks [] ≡ []
none_told [] = refl
none_told (ask ∷ asks) = refl

-- behind the last answer there is no fork
pub none_done : (asks : List Asked) (told : List Answer) (n : ℕ) → n ≡ min (length asks) (length told) →
    forks_done (drop n asks) (drop n told) ≡ []
none_done [] told zero ended = refl
none_done [] told (suc n) ended = refl
none_done (ask ∷ asks) [] zero ended = refl
none_done (ask ∷ asks) [] (suc n) ended = none_told (drop n asks)
none_done (ask ∷ asks) (answer ∷ told) zero ended = absurd (omega (arith, ended))
none_done (ask ∷ asks) (answer ∷ told) (suc n) ended = none_done asks told n (omega (arith, ended))
