use Rattle.pua_audit.proofs.Common.{◌≡◌, ◌<◌, ◌∙◌, ℕ, List, [], Option, Some, length, get_or, sym, ap, subst, bytes_eq, get_by}
use Rattle.pua_audit.specs.Placed.{ArePlaced}
use Rattle.std.proofs.Common.{IfSome}
use Rattle.pua_tree.proofs.ForCallers.{None≢Some}
use Rattle.pua_audit.proofs.Spotted.{letters_once}
use Rattle.pua_audit.proofs.table.placed.Places.place_of.Goals as goal

-- a letter stands at one place
pub returns-then-is_at-clause-each : goal.returns-then-is_at-clause-each
returns-then-is_at-clause-each c = λ letter low same.
    let letters : List (List ℕ) = c.self.inside.letters.now in
    let lent : letters ≡ c.args.self.now = c.self.view_is in
    let low_there : letter < length letters = subst (λ (ls : List (List ℕ)). letter < length ls) (sym lent) low in
    ap Some (letters_once letters c.is_at.ensures.rises c.args.first letter (c.is_at.ensures.within c.if-is_at.true) low_there
    (c.is_at.ensures.here c.if-is_at.true ∙ sym (ap (λ (ls : List (List ℕ)). get_or ls letter []) lent ∙ same)))

pub returns-in_err-place-clause-each : goal.returns-in_err-place-clause-each
returns-in_err-place-clause-each c = λ letter low same.
    let placed : ArePlaced c.args.self.now c.self.inside.places =
    subst (λ (letters : List (List ℕ)). ArePlaced letters c.self.inside.places) c.self.view_is c.self.invariant in
    absurd (None≢Some letter (c.in_err-place.ensures.value ∙ ap (λ (b : List ℕ). get_by (λ k. bytes_eq b k.now) c.self.inside.places)
    (sym same) ∙ placed.each letter low))

pub returns-clause-each : goal.returns-clause-each
returns-clause-each c = λ letter low same.
    let placed : ArePlaced c.args.self.now c.self.inside.places =
    subst (λ (letters : List (List ℕ)). ArePlaced letters c.self.inside.places) c.self.view_is c.self.invariant in
    c.in_ok-place.ensures.value ∙ ap (λ (b : List ℕ). get_by (λ k. bytes_eq b k.now) c.self.inside.places) (sym same) ∙
    placed.each letter low

pub returns-clause-within : goal.returns-clause-within
returns-clause-within c =
    let placed : ArePlaced c.args.self.now c.self.inside.places =
    subst (λ (letters : List (List ℕ)). ArePlaced letters c.self.inside.places) c.self.view_is c.self.invariant in
    subst (λ (o : Option ℕ). IfSome o (λ n. n < length c.args.self.now)) (sym c.in_ok-place.ensures.value) (placed.within c.args.bytes.now)
