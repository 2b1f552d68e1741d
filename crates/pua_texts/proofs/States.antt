-- What a list says of a state, against what the code has of it.
use Rattle.pua_texts.proofs.Common.{◌≡◌, ℕ, ◌+◌, ◌<◌, ◌≤◌, Bool, true, false, List, [], ◌∷◌, ◌++◌, length, map, drop, slice_index_or}
use Rattle.pua_texts.proofs.Common.{refl, sym, ap, ◌∙◌, append_assoc, codes, reverse, ◌==◌, if◌then◌else◌, drop_more}
use Rattle.pua_texts.proofs.Common.{drop_of_length-le, Bor, Tree, is_dir, perm_letters, Place, Word, or_equals, path_or_hyphen, place_dir}
use Rattle.pua_texts.proofs.Common.{place_names, veil_lines}
use Rattle.std.proofs.Common.{inl, inr, ◌⊎◌, true≢false}
use Rattle.std.specs.Prelude.{◌↔◌}
use Rattle.pua_calls.specs.Promises.{holds, keywords_of, unveil}
use Rattle.pua_objects.specs.Objects.{with_commas}
use Rattle.pua_policy.specs.States.{held_set, is_locked}
use Rattle.pua_texts.specs.States.{ConfinedIsPrinted, veil_place_text}
unfoldable use Rattle.pua_why.specs.Texts.{promises_text}
use Rattle.pua_why.specs.Texts.{joined_words}
use Rattle.pua_texts.proofs.ObjectLines.{line_parts}

-- the word by whether the process is locked and holds `unveil`
abbrev word_by : Bool → Bool → List ℕ
word_by locked holding = if locked then codes "locked" else (if holding then codes "open" else codes "given-up")

-- whether a word begins as `open` does
abbrev is_open : List ℕ → Bool
is_open [] = false
is_open (b ∷ more) = b == 111

told : (locked holding : Bool) →
    ((locked ≡ true) ⊎ (holding ≡ false)) ↔ ((word_by locked holding ≡ codes "locked") ⊎ (word_by locked holding ≡ codes "given-up"))
told true holding = (λ is. inl refl, λ is. inl refl)
told false false = (λ is. inr refl, λ is. inr refl)
told false true = (
  λ is. absurd (never is),
  λ is. absurd (unlike is),
)
  where
    never : ((false ≡ true) ⊎ (true ≡ false)) → ⊥
    never (inl is) = true≢false (sym is)
    never (inr is) = true≢false is

    unlike : ((codes "open" ≡ codes "locked") ⊎ (codes "open" ≡ codes "given-up")) → ⊥
    unlike (inl is) = true≢false (ap is_open is)
    unlike (inr is) = true≢false (ap is_open is)

pub confined_is_printed : ConfinedIsPrinted
confined_is_printed h = told (is_locked h) (holds (held_set h) unveil)

-- a veil as it is lent
abbrev pub shown : Bor Place × Bor ℕ → Place × ℕ
shown veil = (veil.0.now, veil.1.now)

-- the line of the next veil stands before those that are still to come
pub veil_next : (t : Tree) (lent : List (Bor Place × Bor ℕ)) (veil : Bor Place × Bor ℕ) (i : ℕ) (stands : Bool) (names : Word) →
    i < length lent → veil ≡ slice_index_or lent i veil
    → stands ≡ is_dir t (place_dir veil.0.now) → names ≡ reverse (place_names t veil.0.now)
    → veil_lines t (map shown (drop i lent))
    ≡ (codes "veil " ++ ((path_or_hyphen stands names ++ 32 ∷ []) ++ (or_equals (perm_letters veil.1.now) ++ 10 ∷ [])))
    ++ veil_lines t (map shown (drop (i + 1) lent))
veil_next t lent veil i stands names within is stood named =
    ap (λ vs. veil_lines t (map shown vs)) (drop_more lent i veil within ∙ ap (λ v. v ∷ drop (i + 1) lent) (sym is))
    ∙ ap (λ line. line ++ veil_lines t (map shown (drop (i + 1) lent)))
    (sym (line_parts (codes "veil") (veil_place_text t veil.0.now) (or_equals (perm_letters veil.1.now)))
    ∙ (λ j. codes "veil " ++ ((path_or_hyphen (sym stood j) (sym named j) ++ 32 ∷ []) ++ (or_equals (perm_letters veil.1.now) ++ 10 ∷ []))))

pub veils_done : (t : Tree) (lent : List (Bor Place × Bor ℕ)) (i : ℕ) → length lent ≤ i → veil_lines t (map shown (drop i lent)) ≡ []
veils_done t lent i past = ap (λ vs. veil_lines t (map shown vs)) (drop_of_length-le lent past)

-- words with commas between them, as reasons have them
alike : (names : List (List ℕ)) → joined_words (codes ",") names ≡ with_commas names
alike [] = refl
alike (name ∷ []) = refl
alike (name ∷ other ∷ more) = append_assoc name (44 ∷ []) (joined_words (codes ",") (other ∷ more)) ∙
    ap (λ t. name ++ 44 ∷ t) (alike (other ∷ more))

pub promises_are : (set : ℕ) → promises_text set ≡ or_equals (with_commas (keywords_of set))
unfolding promises_text
promises_are set = ap or_equals (alike (keywords_of set))

-- one more text behind others
pub text_more : (old a b text new : List ℕ) → text ≡ old ++ a → new ≡ text ++ b → new ≡ old ++ (a ++ b)
text_more old a b text new so_far next = next ∙ ap (λ t. t ++ b) so_far ∙ append_assoc old a b
