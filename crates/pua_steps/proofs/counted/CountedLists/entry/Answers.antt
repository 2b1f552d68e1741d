use Rattle.pua_steps.proofs.Common.{◌≡◌, ◌<◌, ◌∙◌, zero, suc, ℕ, List, [], ◌∷◌, refl, arith, first_of, within, Entry}
use Rattle.std.specs.List.{slice_get}
use Rattle.pua_steps.proofs.counted.CountedLists.entry.Goals as goal

first_within : (es : List Entry) (place end : ℕ) → place < end → slice_get es place ≡ first_of (within es place end)
first_within es place zero low = absurd (omega (arith, low))
first_within [] zero (suc end) low = refl
first_within [] (suc place) (suc end) low = refl
first_within (e ∷ es) zero (suc end) low = refl
first_within (e ∷ es) (suc place) (suc end) low = first_within es place end (omega (arith, low))

pub returns-then-place-end-clause-entry : goal.returns-then-place-end-clause-entry
returns-then-place-end-clause-entry c =
    c.read.ensures.entry ∙ first_within c.args.self.now.lists.entries.items c.args.place c.args.end c.if-place-end.true
