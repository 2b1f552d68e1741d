-- What a request passed, as it is told piece by piece.
use Rattle.pua_why.proofs.Common.{◌≡◌, ℕ, Bool, true, false, List, [], ◌∷◌, ◌++◌, map, Some, None, sym, ap, ◌∙◌, append_assoc, append-nil}
use Rattle.pua_why.proofs.Common.{Ok, Option, if◌then◌else◌, Spot, Found, PathTrace, Promising, Holds, Side, Sole, Fact, Needs, Follows}
use Rattle.pua_why.proofs.Common.{facts_promised, facts_named}
use Rattle.pua_why.specs.Facts.{Names, Opened}
use Rattle.pua_why.specs.Seen.{on_named_fact}
use Rattle.pua_why.proofs.Adding.{then_more}
use Rattle.pua_why.proofs.Needing.{promised_named}

-- the links of a path, and what it names
pub name_told : (old one final : List Fact) (side : Side) (links : List Spot) (object : Found) (trace : PathTrace) (more : Found →
    List Fact) → ◌≡◌ {A = PathTrace} (record { links = links; outcome = Ok object }) trace
    → one ≡ old ++ map (Follows side) links → final ≡ one ++ Names side object ∷ [] →
    final ++ more object ≡ old ++ facts_named side trace more
name_told old one final side links object trace more traced begun went =
    ap (λ facts. facts ++ more object) (then_more old one final (map (Follows side) links) (Names side object ∷ []) begun went)
    ∙ append_assoc old (map (Follows side) links ++ Names side object ∷ []) (more object)
    ∙ ap (λ facts. old ++ facts) (append_assoc (map (Follows side) links) (Names side object ∷ []) (more object))
    ∙ ap (λ t. old ++ facts_named side t more) traced

-- the promise that opens a call, and then what its path named
pub opened_named : (old one final : List Fact) (promise : ℕ) (side : Side) (trace : PathTrace) (more : Found → List Fact) →
    one ≡ old ++ Opened promise ∷ [] → final ≡ one ++ facts_named side trace more →
    final ≡ old ++ Opened promise ∷ facts_named side trace more
opened_named old one final promise side trace more first rest =
    rest ∙ ap (λ facts. facts ++ facts_named side trace more) first ∙ append_assoc old (Opened promise ∷ []) (facts_named side trace more)

-- nothing comes after what a path named
pub nothing_named : (facts : List Fact) (named : Option Found) → facts ++ on_named_fact named (λ object. []) ≡ facts
nothing_named facts None = append-nil facts
nothing_named facts (Some object) = append-nil facts

-- an unveil of a process whose veils are not locked
pub unveil_named : (old one final : List Fact) (set : ℕ) (named : Option Found) (trace : PathTrace) (p : Promising) (locked : Bool) →
    Holds set ≡ p → false ≡ locked → one ≡ old ++ Needs set ∷ []
    → final ++ on_named_fact named (λ object. []) ≡ one ++ facts_named Sole trace (λ object. []) →
    final ≡ old ++ facts_promised p (if locked then [] else facts_named Sole trace (λ object. []))
unveil_named old one final set named trace p locked held unlocked first rest =
    promised_named old one final set Sole trace (λ object. []) p held first (sym (nothing_named final named) ∙ rest)
    ∙ ap (λ v. old ++ facts_promised p (if v then [] else facts_named Sole trace (λ object. []))) unlocked

-- what covers both objects, where what covers the old one lacks nothing
pub covers_told : (old one final second : List Fact) (covered : Bool) (first : List Fact → List Fact) → covered ≡ true →
    ((more : List Fact) → one ++ (if covered then more else []) ≡ old ++ first more)
    → final ≡ one ++ second → final ≡ old ++ first second
covers_told old one final second covered first is passed went = went ∙ ap (λ v. one ++ (if v then second else [])) (sym is) ∙ passed second
