use Rattle.pua_audit.proofs.Common.{◌≡◌, ◌≢◌, ◌<◌, ◌∙◌, ◌++◌, ℕ, List, map, sym, subst, AllByRecursion, IsUnmarked, LetterSpot, all_joined}
use Rattle.std.specs.List.{Contains}
use Rattle.std.specs.List.Sorted.{IsNonDecreasingBy}
use Rattle.std.proofs.lemmas.List.Elements.{Contains-append_left, Contains-append_right}
use Rattle.std.proofs.lemmas.List.Filters.{dedup_is}
use Rattle.std.proofs.lemmas.List.Kept.{Contains-dedup_nat, Contains-from_dedup}
use Rattle.std.proofs.lemmas.List.Sorted.{Contains-permutation, IsPermutation-sym}
use Rattle.std.proofs.lemmas.Map.Keys.{IsStrictlyIncreasing-dedup}
use Rattle.pua_audit.proofs.Lists.{all_among, all_mapped, all_unmapped}
use Rattle.pua_audit.proofs.table.spots.Spots.letters_in.Goals as goal

pub returns : goal.returns
returns c =
    let spots : List LetterSpot = c.args.self.now.names.items in
    let dots : List ℕ = c.args.self.now.dots.items in
    let here : List LetterSpot = c.spots_in.result.now in
    let at : List ℕ = map (λ (s : LetterSpot). s.letter) here in
    let all : List ℕ = c.dedup.new.self.items in
    let gathered : c.extend_from_slice.new.self.items ≡ at ++ dots = c.in_ok-extend_from_slice.ensures.items ∙
    (λ i. c.in_ok-letters.ensures i ++ c.as_slice-2.ensures.value i) in
    let is = dedup_is _ _ _ c.dedup.ensures.filtered in
    let rise : IsNonDecreasingBy (λ (s : LetterSpot). s.dir) c.as_slice.result.now =
    rw c.as_slice.ensures.value c.args.self.now.told.rise in
    let moved = c.sort_unstable.ensures.permutation in
    let kept : (x : ℕ) → Contains (at ++ dots) x → Contains all x =
    λ x h. rw is (Contains-dedup_nat _ x (Contains-permutation _ _ x moved (subst (λ (l : List ℕ). Contains l x) (sym gathered) h))) in
    let known : (x : ℕ) → Contains all x → Contains (at ++ dots) x =
    λ x h. subst (λ (l : List ℕ). Contains l x) gathered (Contains-permutation _ _ x (IsPermutation-sym _ _ moved)
    (Contains-from_dedup _ _ x (rw is at h))) in
    record {
      rise = rw is (IsStrictlyIncreasing-dedup _ c.sort_unstable.ensures.sorted);
      within = λ count few low.
          all_among (λ n. n < count) (at ++ dots) all known
          (all_joined (λ n. n < count) at dots
          (all_mapped (λ n. n < count) (λ s. s.letter) here
          (c.spots_in.ensures.within count (subst (λ (l : List LetterSpot). AllByRecursion (λ s. s.letter < count) l)
          (sym c.as_slice.ensures.value) low))) few);
      dotted = λ letter apart. all_among (λ n. n ≢ letter) all dots (λ x h. kept x (Contains-append_right at dots x h)) apart;
      spotted = λ letter apart.
          subst (IsUnmarked c.args.dir letter) c.as_slice.ensures.value
          (c.spots_in.ensures.all rise letter (all_unmapped (λ n. n ≢ letter) (λ (s : LetterSpot). s.letter) here
          (all_among (λ n. n ≢ letter) all at (λ x h. kept x (Contains-append_left at dots x h)) apart)));
    }
