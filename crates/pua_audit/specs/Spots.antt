-- The letters that directories tell apart from names that they lack.
use Rattle.std.specs.Prelude.{◌≡◌, ◌≢◌, ◌<◌, ℕ, List, [], length, get_or, None}
use Rattle.std.specs.List.{AllByRecursion}
use Rattle.std.specs.List.Sorted.{IsNonDecreasingBy, IsStrictlyIncreasing}
use Rattle.pua_tree.specs.Tree.{Tree, Spot, look}
use Rattle.pua_path.specs.Paths.{part_of}
use Rattle.pua_path.specs.declared.found.Part.TheVariants as part
use Rattle.pua_policy.specs.States.{ProcessState, perms_kept}
use Rattle.pua_policy.specs.declared.place.Place.{Place}
use Rattle.pua_policy.specs.declared.place.Place.TheVariants.{Slot}
use Rattle.pua_audit.specs.declared.table.spots.LetterSpot.{LetterSpot}

-- none of some spots is that of a letter in a directory
abbrev pub IsUnmarked : ℕ → ℕ → List LetterSpot → Type 0
IsUnmarked dir letter spots = AllByRecursion (λ s. s.dir ≡ dir → s.letter ≢ letter) spots

-- the spots are of letters
abbrev pub AreAtLetters : List (List ℕ) → List LetterSpot → Type 0
AreAtLetters letters spots = AllByRecursion (λ s. s.letter < length letters) spots

-- no row is at a name
abbrev pub IsNowhere : ℕ → List ℕ → List (Spot × ℕ) → Type 0
IsNowhere dir name rows = AllByRecursion (λ row. row.0.0 ≡ dir → row.0.1 ≢ name) rows

-- none of some places is this one
abbrev pub AreApartFrom : Place → List Place → Type 0
AreApartFrom place places = AllByRecursion (λ other. other ≢ place) places

-- a number is none of some others
abbrev pub IsApart : ℕ → List ℕ → Type 0
IsApart n others = AllByRecursion (λ other. other ≢ n) others

-- no veil is kept at a name in a directory
abbrev pub AreUnveiled : ProcessState → ℕ → Type 0
AreUnveiled h dir = (name : List ℕ) → perms_kept h (Slot dir name) ≡ None

-- a letter is a name
abbrev pub IsNamed : List ℕ → Type 0
IsNamed letter = part_of letter ≡ part.Name letter

-- letters that are no names, and spots of letters in the order of their directories: where a letter has none, nothing
-- stands at its name, and no veil is kept at it
pub record AreLetterSpots (t : Tree) (h : ProcessState) (letters : List (List ℕ)) (dots : List ℕ) (spots : List LetterSpot) : Type 0 where
  pub dotted : AllByRecursion (λ letter. letter < length letters) dots
  pub within : AreAtLetters letters spots
  pub named : (letter : ℕ) → letter < length letters → IsApart letter dots → IsNamed (get_or letters letter [])
  pub none : (dir letter : ℕ) → letter < length letters → IsUnmarked dir letter spots → look t dir (get_or letters letter []) ≡ None
  pub unveiled : (dir letter : ℕ) → letter < length letters → IsUnmarked dir letter spots →
      perms_kept h (Slot dir (get_or letters letter [])) ≡ None
  pub rise : IsNonDecreasingBy (λ spot. spot.dir) spots

-- letters that rise, among them all that are no names, and all with a spot in a directory
pub record AreLettersIn (dir : ℕ) (dots : List ℕ) (spots : List LetterSpot) (letters : List ℕ) : Type 0 where
  pub rise : IsStrictlyIncreasing letters
  pub within : (count : ℕ) → AllByRecursion (λ letter. letter < count) dots → AllByRecursion (λ spot. spot.letter < count) spots →
      AllByRecursion (λ letter. letter < count) letters
  pub dotted : (letter : ℕ) → IsApart letter letters → IsApart letter dots
  pub spotted : (letter : ℕ) → IsApart letter letters → IsUnmarked dir letter spots
