-- Since which lines the veils of a process have their letters.
use Rattle.pua_texts.proofs.Common.{◌≡◌, ℕ, ◌+◌, ◌<◌, List, [], ◌∷◌, ◌++◌, map, take, drop, length, get_or, refl, ap, ◌∙◌, arith}
use Rattle.pua_texts.proofs.Common.{Option, Some, None, flat_map, option_map_or, drop_more, length-map, map-append}
use Rattle.pua_texts.proofs.Common.{ProcessState, Place, kept_at, veil_date, veils_at, veil_dates}
use Rattle.pua_texts.proofs.Common.{ServedScript, world_left}
use Rattle.std.proofs.Common.{inl, inr, min}
use Rattle.std.proofs.lemmas.List.{length-append}
use Rattle.std.proofs.Math.Seq.{take-append_seam, drop-append_seam}
use Rattle.pua_policy.specs.States.{perms_kept, EachOnce}
use Rattle.pua_objects.proofs.ForCallers.{Among}
use Rattle.pua_ever.proofs.ForCallers.{among_kept_at}
use Rattle.pua_script.specs.Worlds.{WorldState, process_at}
use Rattle.pua_why.specs.Since.{since}
use Rattle.pua_why.specs.Texts.{has_veil_on}
use Rattle.pua_since.specs.Dates.{letters_date, veils_of}
use Rattle.pua_since.specs.Watched.{kept_in}

module _ (p : ServedScript) (process : ℕ) (h : ProcessState) (is : kept_at (world_left p) process ≡ Some h) (once : EachOnce h.veils) where
  at_place : (place : Place) → kept_in (world_left p) process place ≡ perms_kept h place
  at_place place = ap (λ o. option_map_or (λ h. perms_kept h place) o None) is

  each_dated : (us : List (Place × ℕ)) → ((u : Place × ℕ) → Among us u → Among h.veils u) →
      map (veil_date p.table p.world p.asks) (map (λ veil. (process, veil.0)) us) ≡ veil_dates p process us
  each_dated [] all = refl
  each_dated (u ∷ us) all = λ i.
      (ap (letters_date p.table p.world p.asks process u.0) (at_place u.0 ∙ among_kept_at h.veils once u.0 u.1 (all u (inl refl)))) i
      ∷ each_dated us (λ v a. all v (inr a)) i

  -- the dates of a process's veils are those of their letters
  pub dates_are : map (veil_date p.table p.world p.asks) (veils_of process (Some h)) ≡ veil_dates p process h.veils
  dates_are = each_dated h.veils (λ u a. a)

pub length_dates : (p : ServedScript) (process : ℕ) (vs : List (Place × ℕ)) → length (veil_dates p process vs) ≡ length vs
length_dates p process vs = length-map vs (λ veil. since (has_veil_on veil.0 veil.1) p.table p.world 1 p.asks process)

-- a front of a list, and the rest
module _ {A : Type 0} (left own rest : List A) (count : ℕ) (is : left ≡ own ++ rest) (many : count ≡ min (length own) (length left)) where
  count_is : count ≡ length own
  count_is = omega (arith, many, ap length is, length-append own rest)

  pub own_taken : take count left ≡ own
  own_taken = (λ i. take (count_is i) (is i)) ∙ take-append_seam own rest

  pub rest_dropped : drop count left ≡ rest
  rest_dropped = (λ i. drop (count_is i) (is i)) ∙ drop-append_seam own rest

-- the dates that are left, at the next of some numbers
module _ (p : ServedScript) (s : WorldState) (numbers : List ℕ) (i d : ℕ) (within : i < length numbers) (left : List (Option ℕ)) where
  abbrev dates : List ℕ → List (Option ℕ)
  dates ns = map (veil_date p.table p.world p.asks) (flat_map (veils_at s) ns)

  -- those of a process stand before those of the others
  pub some_dated : (h : ProcessState) → process_at s (get_or numbers i d) ≡ Some h → kept_at (world_left p) (get_or numbers i d) ≡ Some h →
      EachOnce h.veils → left ≡ map (veil_date p.table p.world p.asks) (flat_map (veils_at s) (drop i numbers))
      → left ≡ veil_dates p (get_or numbers i d) h.veils ++ map (veil_date p.table p.world p.asks)
      (flat_map (veils_at s) (drop (i + 1) numbers))
  some_dated h is made once dated =
      dated ∙ ap dates (drop_more numbers i d within)
      ∙ map-append (veil_date p.table p.world p.asks) (veils_at s (get_or numbers i d)) (flat_map (veils_at s) (drop (i + 1) numbers))
      ∙ (λ j. (ap (λ o. map (veil_date p.table p.world p.asks) (veils_of (get_or numbers i d) o)) is ∙
      dates_are p (get_or numbers i d) h made once) j ++ dates (drop (i + 1) numbers))
