-- What a request passed, as it is told one after another.
use Rattle.pua_why.proofs.Common.{◌≡◌, ℕ, false, List, [], ◌∷◌, ◌++◌, map, Some, None, refl, sym, ap, ◌∙◌, append_assoc, Result, Ok, Err}
use Rattle.pua_why.proofs.Common.{Option, if◌then◌else◌, is_some, option_map, Spot, Found, PathFault, PathTrace, ProcessState, Place, IsLocked}
use Rattle.pua_why.proofs.Common.{place_beyond, Promising, Holds, Outcome, Side, unless_refused, unless_failed, PathTextFault}
use Rattle.pua_why.proofs.Common.{fault_seen, refused_by, Fact, Needs, Follows, facts_promised, facts_named}
use Rattle.std.specs.Prelude.{bit_or, length}
use Rattle.pua_policy.specs.States.{veil_at}
use Rattle.pua_why.specs.Reasons.{unveil_beyond}
use Rattle.pua_why.specs.declared.told.Fault as told
use Rattle.pua_why.specs.Reasons as reasons
use Rattle.pua_why.specs.Facts.{needing, facts_found}

-- promises stand before what a path named
pub needing_named : (set : ℕ) (side : Side) (trace : PathTrace) (more : Found → List Fact) →
    needing set (facts_named side trace more) ≡ Needs set ∷ facts_named side trace more
needing_named set side trace more = by trace.links trace.outcome
  where
    by : (links : List Spot) (outcome : Result Found PathFault) →
        needing set (map (Follows side) links ++ facts_found side outcome more) ≡ Needs set ∷ map (Follows side) links
        ++ facts_found side outcome more
    by [] (Ok object) = refl
    by [] (Err fault) = refl
    by (spot ∷ links) outcome = refl

-- held promises, and then what a path named
pub promised_named : (old one final : List Fact) (set : ℕ) (side : Side) (trace : PathTrace) (more : Found → List Fact) (p : Promising) →
    Holds set ≡ p → one ≡ old ++ Needs set ∷ []
    → final ≡ one ++ facts_named side trace more → final ≡ old ++ facts_promised p (facts_named side trace more)
promised_named old one final set side trace more p held first rest =
    rest ∙ ap (λ facts. facts ++ facts_named side trace more) first
    ∙ append_assoc old (Needs set ∷ []) (facts_named side trace more)
    ∙ ap (λ facts. old ++ facts) (sym (needing_named set side trace more))
    ∙ ap (λ q. old ++ facts_promised q (facts_named side trace more)) held

-- of two names, both promises as one set
pub both_named : (old one final : List Fact) (set other : ℕ) (side : Side) (trace : PathTrace) (more : Found →
    List Fact) (p q : Promising) → Holds set ≡ p → Holds other ≡ q → one ≡ old ++ Needs (bit_or set other) ∷ []
    → final ≡ one ++ facts_named side trace more → final ≡ old ++ facts_promised p (facts_promised q (facts_named side trace more))
both_named old one final set other side trace more p q held held_too first rest =
    rest ∙ ap (λ facts. facts ++ facts_named side trace more) first
    ∙ append_assoc old (Needs (bit_or set other) ∷ []) (facts_named side trace more)
    ∙ ap (λ facts. old ++ needing set facts) (sym (needing_named other side trace more))
    ∙ (λ i. old ++ facts_promised (held i) (facts_promised (held_too i) (facts_named side trace more)))

-- what is kept at a place decides, where the veils are not locked
pub kept_beyond : (p : ProcessState) (place : Place) (perms given : ℕ) → false ≡ p.locked → Some given ≡ veil_at p.veils place →
    place_beyond place (Some given) (length p.veils) perms ≡ unveil_beyond p place perms
kept_beyond p place perms given unlocked at = λ i. if unlocked i then Some IsLocked else place_beyond place (at i) (length p.veils) perms

-- held promises let the further checks decide
pub promises_passed : (fault further : Option told.Fault) (p : Option reasons.Fault) (d : Outcome reasons.Fault) → is_some fault ≡ false →
    option_map fault_seen fault ≡ p
    → option_map fault_seen further ≡ refused_by d → option_map fault_seen further ≡ refused_by (unless_refused p d)
promises_passed None further p d none told rest = rest ∙ ap (λ q. refused_by (unless_refused q d)) told
promises_passed (Some fault) further p d none told rest = cc

-- and a target that is a path
pub target_passed : (further : Option told.Fault) (o : Option PathTextFault) (d : Outcome reasons.Fault) → None ≡ o
    → option_map fault_seen further ≡ refused_by d →
    option_map fault_seen further ≡ refused_by (unless_failed (λ fault. fault) (option_map reasons.BadTarget o) d)
target_passed further o d none rest = rest ∙ ap (λ q. refused_by (unless_failed (λ fault. fault) (option_map reasons.BadTarget q) d)) none
