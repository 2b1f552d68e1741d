-- Where each word of the table of a crew stands.
use Rattle.pua_jointly.proofs.Common.{◌≡◌, ◌<◌, ◌≤◌, ◌⊎◌, ◌∙◌, ◌∷◌, ◌++◌, [], ℕ, zero, suc, List, length, map, refl, sym, ap, subst, inl, inr, arith}
use Rattle.pua_jointly.proofs.Common.{Some, option_map, ProcessState, Spot}
use Rattle.std.specs.Prelude.{slice_get, ◌+◌}
use Rattle.std.proofs.lemmas.Bool.{cases_lt}
use Rattle.std.proofs.lemmas.List.{length-append, length-map}
use Rattle.std.proofs.lemmas.Option.{slice_get-map}
use Rattle.pua_jointly.specs.JointTable.{Entity, DirAt, MadeBy, LandingOf, DropsOf, NameAt, Column, ByAgent, Common, Watching, numbers}
use Rattle.pua_jointly.specs.JointTable.{entities, columns}
use Rattle.pua_jointly.specs.Jointly.{Hand}

pub left : {X : Type 0} (xs ys : List X) (i : ℕ) → i < length xs → slice_get (xs ++ ys) i ≡ slice_get xs i
left [] ys i low = absurd (omega (arith, low))
left (x ∷ xs) ys zero low = refl
left (x ∷ xs) ys (suc i) low = left xs ys i (omega (arith, low))

pub right : {X : Type 0} (xs ys : List X) (n i : ℕ) → n ≡ length xs + i → slice_get (xs ++ ys) n ≡ slice_get ys i
right [] ys n i e = let same : n ≡ i = omega (arith, e) in ap (slice_get ys) same
right (x ∷ xs) ys zero i e = absurd (omega (arith, e))
right (x ∷ xs) ys (suc n) i e = right xs ys n i (omega (arith, e))

pub length_numbers : (n : ℕ) → length (numbers n) ≡ n
length_numbers zero = refl
length_numbers (suc n) = let more = length_numbers n in length-append (numbers n) (n ∷ []) ∙ omega (arith, more)

pub number_at : (n i : ℕ) → i < n → slice_get (numbers n) i ≡ Some i
number_at zero i low = absurd (omega (arith, low))
number_at (suc n) i low = by (cases_lt i n) (number_at n i)
  where
    by : (i < n) ⊎ (n ≤ i) → (i < n → slice_get (numbers n) i ≡ Some i) → slice_get (numbers (suc n)) i ≡ Some i
    by (inl less) rest =
        left (numbers n) (n ∷ []) i (subst (λ m. i < m) (sym (length_numbers n)) less) ∙ rest less
    by (inr more) rest =
        let many = length_numbers n in
        let here : n ≡ i = omega (arith, low, more) in
        right (numbers n) (n ∷ []) i 0 (omega (arith, many, here)) ∙ ap Some here

module _ (hands : List Hand) (dirs : ℕ) (spots : List Spot) where
  abbrev n : ℕ
  n = length hands

  abbrev es : List Entity
  es = entities hands dirs spots

  abbrev after_drops : List Entity
  after_drops = map NameAt spots

  abbrev after_landings : List Entity
  after_landings = map DropsOf hands ++ after_drops

  abbrev after_made : List Entity
  after_made = map LandingOf hands ++ after_landings

  abbrev after_dirs : List Entity
  after_dirs = map MadeBy hands ++ after_made

  many_dirs : length (map DirAt (numbers dirs)) ≡ dirs
  many_dirs = length-map (numbers dirs) DirAt ∙ length_numbers dirs

  pub dir_row : (d : ℕ) → d < dirs → slice_get es d ≡ Some (DirAt d)
  dir_row d low = left (map DirAt (numbers dirs)) after_dirs d (subst (λ m. d < m) (sym many_dirs) low)
      ∙ slice_get-map DirAt (numbers dirs) d ∙ ap (option_map DirAt) (number_at dirs d low)

  from_dirs : (i : ℕ) → slice_get es (dirs + i) ≡ slice_get after_dirs i
  from_dirs i = let many = many_dirs in right (map DirAt (numbers dirs)) after_dirs (dirs + i) i (omega (arith, many))

  from_made : (i : ℕ) → slice_get after_dirs (n + i) ≡ slice_get after_made i
  from_made i = let many = length-map hands MadeBy in right (map MadeBy hands) after_made (n + i) i (omega (arith, many))

  from_landings : (i : ℕ) → slice_get after_made (n + i) ≡ slice_get after_landings i
  from_landings i = let many = length-map hands LandingOf in right (map LandingOf hands) after_landings (n + i) i (omega (arith, many))

  from_drops : (i : ℕ) → slice_get after_landings (n + i) ≡ slice_get after_drops i
  from_drops i = let many = length-map hands DropsOf in right (map DropsOf hands) after_drops (n + i) i (omega (arith, many))

  pub made_row : (i : ℕ) → i < n → slice_get es (dirs + i) ≡ option_map MadeBy (slice_get hands i)
  made_row i low = from_dirs i
      ∙ left (map MadeBy hands) after_made i (subst (λ m. i < m) (sym (length-map hands MadeBy)) low) ∙ slice_get-map MadeBy hands i

  pub landing_row : (i : ℕ) → i < n → slice_get es (dirs + (n + i)) ≡ option_map LandingOf (slice_get hands i)
  landing_row i low = from_dirs (n + i) ∙ from_made i
      ∙ left (map LandingOf hands) after_landings i (subst (λ m. i < m) (sym (length-map hands LandingOf)) low) ∙ slice_get-map LandingOf hands i

  pub drops_row : (i : ℕ) → i < n → slice_get es (dirs + (n + (n + i))) ≡ option_map DropsOf (slice_get hands i)
  drops_row i low = from_dirs (n + (n + i)) ∙ from_made (n + i) ∙ from_landings i
      ∙ left (map DropsOf hands) after_drops i (subst (λ m. i < m) (sym (length-map hands DropsOf)) low) ∙ slice_get-map DropsOf hands i

  pub name_row : (i : ℕ) → slice_get es (dirs + (n + (n + (n + i)))) ≡ option_map NameAt (slice_get spots i)
  name_row i = from_dirs (n + (n + (n + i))) ∙ from_made (n + (n + i)) ∙ from_landings (n + i) ∙ from_drops i ∙ slice_get-map NameAt spots i

module _ (crew : List ProcessState) (guarded : List ℕ) where
  abbrev cs : List Column
  cs = columns crew guarded

  abbrev after_agents : List Column
  after_agents = Common ∷ map Watching guarded

  from_agents : (i : ℕ) → slice_get cs (length crew + i) ≡ slice_get after_agents i
  from_agents i =
      let many = length-map crew ByAgent in right (map ByAgent crew) after_agents (length crew + i) i (omega (arith, many))

  pub agent_column : (i : ℕ) → i < length crew → slice_get cs i ≡ option_map ByAgent (slice_get crew i)
  agent_column i low = left (map ByAgent crew) after_agents i (subst (λ m. i < m) (sym (length-map crew ByAgent)) low)
      ∙ slice_get-map ByAgent crew i

  pub common_column : slice_get cs (length crew + 0) ≡ Some Common
  common_column = from_agents 0

  pub guarded_column : (i : ℕ) → slice_get cs (length crew + suc i) ≡ option_map Watching (slice_get guarded i)
  guarded_column i = from_agents (suc i) ∙ slice_get-map Watching guarded i
