use Rattle.pua_audit.proofs.Common.{◌≡◌, ◌≢◌, ◌<◌, ◌∙◌, ℕ, List, [], length, map, get_or, sym, ap, subst, rules, lent_entry, Spot}
use Rattle.pua_audit.proofs.Common.{Place, AreApartFrom, AreAtLetters, IsNowhere, IsUnmarked, LetterSpot}
use Rattle.std.proofs.lemmas.List.Sorted.{Contains-permutation, IsPermutation-sym, IsNonDecreasingBy-from_sort_by_key}
use Rattle.pua_policy.specs.declared.place.Place.TheVariants.{Slot}
use Rattle.pua_audit.proofs.Lists.{all_among}
use Rattle.pua_audit.proofs.Spotted.{nowhere_found, apart_kept}
use Rattle.pua_audit.proofs.terms.Terms.spots.Goals as goal

pub invariant_of-result : goal.invariant_of-result
invariant_of-result c =
    let a = c.args.self.now in
    let name = λ (letter : ℕ). get_or a.letters letter [] in
    let rows : map lent_entry c.args.rows.now ≡ a.seen.tree.rows = c.requires.rows in
    let places : map (λ place. place.now) c.as_slice-places.result.now ≡ map (λ veil. veil.0) a.process.veils =
    ap (map (λ place. place.now)) c.as_slice-places.ensures.value ∙ c.in_ok-places.ensures in
    let names : List LetterSpot = c.add_veils.new.spots.items in
    let sorted : List LetterSpot = c.sort_unstable_by_key.new.self.items in
    let lent : c.in_ok-letters.letters ≡ a.letters = c.in_ok-letters.ensures in
    let rowed : List LetterSpot = c.add_rows.new.spots.items in
    let rows_at : (dir letter : ℕ) → letter < length a.letters → IsUnmarked dir letter rowed →
    IsNowhere dir (name letter) (map lent_entry c.args.rows.now) =
    subst (λ (ls : List (List ℕ)). (dir letter : ℕ) → letter < length ls → IsUnmarked dir letter rowed →
    IsNowhere dir (get_or ls letter []) (map lent_entry c.args.rows.now)) lent c.in_ok-add_rows.ensures.rows in
    let veils_at : (dir letter : ℕ) → letter < length a.letters → IsUnmarked dir letter names →
    AreApartFrom (Slot dir (name letter)) (map (λ place. place.now) c.as_slice-places.result.now) =
    subst (λ (ls : List (List ℕ)). (dir letter : ℕ) → letter < length ls → IsUnmarked dir letter names →
    AreApartFrom (Slot dir (get_or ls letter [])) (map (λ place. place.now) c.as_slice-places.result.now)) lent
    c.in_ok-add_veils.ensures.places in
    let within : AreAtLetters a.letters names = subst (λ (ls : List (List ℕ)). AreAtLetters ls names) lent
    (c.in_ok-add_veils.ensures.within (c.in_ok-add_rows.ensures.within
    (subst (AreAtLetters c.in_ok-letters.letters) (sym c.new-names.ensures.items) tt))) in
    let moved = c.sort_unstable_by_key.ensures.permutation in
    let still : (dir letter : ℕ) → IsUnmarked dir letter sorted → IsUnmarked dir letter names =
    λ dir letter unmarked. all_among (λ (s : LetterSpot). s.dir ≡ dir →
    s.letter ≢ letter) sorted names (λ x h. Contains-permutation names sorted x moved h) unmarked in
    record {
      told = record {
        dotted = c.in_ok-dots.ensures.within;
        within = all_among (λ (s : LetterSpot). s.letter < length a.letters) names sorted
            (λ x h. Contains-permutation sorted names x (IsPermutation-sym names sorted moved) h) within;
        named = c.in_ok-dots.ensures.others;
        none = λ dir letter low unsorted.
            let unmarked = still dir letter unsorted in
            nowhere_found dir (name letter) a.seen.tree.rows (subst (λ (rs : List (Spot × ℕ)). IsNowhere dir (name letter) rs) rows
            (rows_at dir letter low (c.in_ok-add_veils.ensures.others dir letter unmarked)));
        unveiled = λ dir letter low unsorted.
            let unmarked = still dir letter unsorted in
            let place : Place = Slot dir (name letter) in
            apart_kept place a.process.veils (subst (λ (ps : List Place). AreApartFrom place ps) places
            (veils_at dir letter low unmarked));
        rise = IsNonDecreasingBy-from_sort_by_key (λ (s : LetterSpot). s.dir) sorted c.sort_unstable_by_key.ensures.sorted
            (λ a r q k. search rules);
      };
      unveiled = λ dir apart called.
          let place : Place = Slot dir called in
          apart_kept place a.process.veils (subst (λ (ps : List Place). AreApartFrom place ps) places
          (c.in_ok-veiled.ensures dir called apart));
    }
