use Rattle.pua_jointly.proofs.Common.{◌≡◌, ◌∷◌, ◌==◌, ◌∙◌, ◌||◌, [], ap, false, List, not, refl, sym, ℕ}
use Rattle.std.specs.Int.Bits.{and_zero_r}
use Rattle.pua_jointly.specs.JointWords.{some_meets, word_at}
use Rattle.pua_jointly.proofs.words.covers_some.Goals as goal

-- no cover is one of none
none_meets : (told : List ℕ) (columns agent : ℕ) (seats : List ℕ) → some_meets told columns agent 0 seats ≡ false
none_meets told columns agent [] = refl
none_meets told columns agent (seat ∷ seats) =
    ap (λ n. not (n == 0) || some_meets told columns agent 0 seats) (and_zero_r (word_at told columns seat agent))
    ∙ none_meets told columns agent seats

pub returns-then-covers-eq0 : goal.returns-then-covers-eq0
returns-then-covers-eq0 c =
    sym (ap (λ covers. some_meets c.args.told.now c.args.columns c.args.agent covers c.args.seats.now) c.if-covers-eq0.true
    ∙ none_meets c.args.told.now c.args.columns c.args.agent c.args.seats.now)
