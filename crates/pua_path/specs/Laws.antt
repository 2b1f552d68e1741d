-- What is true of resolution.
use Rattle.std.specs.Prelude.{◌≡◌, ℕ, ◌+◌, ◌-◌, ◌<◌, ◌≤◌, ◌⊎◌, List, [], ◌∷◌, ◌++◌, Result, Ok, Err, IsTrue, is_some, if◌then◌else◌}
use Rattle.pua_tree.specs.Tree.{WellFormed, is_dir}
use Rattle.pua_tree.specs.Steps.{◌>>=◌}
use Rattle.pua_path.specs.Resolution.{Resolved, RootedTree, resolve_parts, resolution, most_links, step, last, follow}
use Rattle.pua_path.specs.Fits.{IsOf}
use Rattle.pua_path.specs.declared.errno.Errno.{Errno}
use Rattle.pua_path.specs.declared.errno.Errno.TheVariants.{ENOENT, ENOTDIR, ELOOP}
use Rattle.pua_path.specs.declared.text.Ending.{Ending}
use Rattle.pua_path.specs.declared.found.Part.{Part}
use Rattle.pua_path.specs.declared.found.Part.TheVariants as parts
use Rattle.pua_path.specs.declared.found.Start.{Start}
use Rattle.pua_path.specs.declared.found.Last.{Last}
use Rattle.pua_path.specs.declared.found.Last.TheVariants.{Followed, Kept}
use Rattle.pua_path.specs.declared.found.Way.{Way}
use Rattle.pua_path.specs.declared.found.Way.TheVariants.{Top}
use Rattle.pua_path.specs.declared.found.Found.{Found}
use Rattle.pua_path.specs.declared.found.Found.TheVariants.{Whole, Slot}

-- what further parts name from a directory that was found
abbrev pub onwards : RootedTree → Last → List Part → Found × ℕ → Resolved
onwards t mode rest (Whole dir way, links) = resolve_parts links t mode dir Top rest
onwards t mode rest (Slot dir name _, links) = Err ENOTDIR

-- resolution may be cut before any further part: the first parts lead to a directory, and the others go on from there with the links left
abbrev pub ResolutionComposes : Type 0
ResolutionComposes = (t : RootedTree) (mode : Last) (links dir : ℕ) (way : Way) (first : List Part) (next : Part) (rest : List Part) →
    resolve_parts links t mode dir way (first ++ next ∷ rest)
    ≡ (resolve_parts links t Followed dir way (first ++ parts.Dot ∷ []) >>= onwards t mode (next ∷ rest))

-- one step after another, from a directory with links used, up to the first that leads nowhere
abbrev pub steps : RootedTree → List Part → ℕ × ℕ → Result (ℕ × ℕ) Errno
steps t [] at = Ok at
steps t (part ∷ parts) at = step t at.0 at.1 part >>= steps t parts

-- steps along the first parts and then the last part are the resolution of them all
abbrev pub StepsCompose : Type 0
StepsCompose = (t : RootedTree) (mode : Last) (dir used : ℕ) (first : List Part) (part : Part) → used ≤ most_links →
    (resolve_parts (most_links - used) t mode dir Top (first ++ part ∷ []) >>= λ found. Ok found.0)
    ≡ (steps t first (dir, used) >>= λ at. last t at.0 at.1 part mode)

-- an answer that is got by following exactly so many links: the same with any more that may be followed, and ELOOP with any fewer
pub record FollowsLinks {A : Type 0} (answer : ℕ → Result (A × ℕ) Errno) (count : ℕ) (outcome : Result A Errno) : Type 0 where
  pub enough : (links : ℕ) → count ≤ links → answer links ≡ (outcome >>= λ found. Ok (found, links - count))
  pub too_few : (links : ℕ) → links < count → answer links ≡ Err ELOOP

-- with up to so many links an answer is ELOOP, or it is got by following a number of links that is its own
abbrev pub IsDecidedByLinks : {A : Type 0} → (ℕ → Result (A × ℕ) Errno) → ℕ → Type 0
IsDecidedByLinks {A} answer most =
    ((links : ℕ) → links ≤ most →
    answer links ≡ Err ELOOP) ⊎ ((count : ℕ) × ((outcome : Result A Errno) × ((count ≤ most) × FollowsLinks answer count outcome)))

-- what parts name, and how many links are followed, depends on the tree, its root, the directory and the parts alone
abbrev pub LinksDecide : Type 0
LinksDecide = (t : RootedTree) (mode : Last) (dir : ℕ) (way : Way) (parts : List Part) (most : ℕ) →
    IsDecidedByLinks (λ links. resolve_parts links t mode dir way parts) most

-- a step that follows exactly so many links, and leads to this directory or to this errno
pub record StepFollows (t : RootedTree) (dir : ℕ) (part : Part) (count : ℕ) (outcome : Result ℕ Errno) : Type 0 where
  pub enough : (used : ℕ) → used + count ≤ most_links → step t dir used part ≡ (outcome >>= λ reached. Ok (reached, used + count))
  pub too_few : (used : ℕ) → used ≤ most_links → most_links < used + count → step t dir used part ≡ Err ELOOP

-- where a step leads, and how many links it follows, depends on the directory and the part alone
abbrev pub StepsFollow : Type 0
StepsFollow = (t : RootedTree) (dir : ℕ) (part : Part) →
    ((used : ℕ) → used ≤ most_links → step t dir used part ≡ Err ELOOP) ⊎ ((count : ℕ) ×
    ((outcome : Result ℕ Errno) × StepFollows t dir part count outcome))

-- a last part that follows exactly so many links, and names this or fails with this errno
pub record LastFollows (t : RootedTree) (dir : ℕ) (part : Part) (mode : Last) (count : ℕ) (outcome : Result Found Errno) : Type 0 where
  pub enough : (used : ℕ) → used + count ≤ most_links → last t dir used part mode ≡ outcome
  pub too_few : (used : ℕ) → used ≤ most_links → most_links < used + count → last t dir used part mode ≡ Err ELOOP

-- what a last part names, and how many links it follows, depends on the directory and the part alone
abbrev pub LastsFollow : Type 0
LastsFollow = (t : RootedTree) (dir : ℕ) (part : Part) (mode : Last) →
    ((used : ℕ) → used ≤ most_links → last t dir used part mode ≡ Err ELOOP) ⊎ ((count : ℕ) ×
    ((outcome : Result Found Errno) × LastFollows t dir part mode count outcome))

-- a directory is entered, and nothing else
abbrev pub dir_entered : ℕ → Found → Result (ℕ × ℕ) Errno
dir_entered used (Whole dir way) = Ok (dir, used)
dir_entered used (Slot dir name node) = Err (if is_some node then ENOTDIR else ENOENT)

-- a part that follows so many links where none was used before: `last` names what it names, and `step` enters it, while
-- all links are within the limit
pub record IsFollowed (t : RootedTree) (dir used : ℕ) (part : Part) (found : Found) (count : ℕ) : Type 0 where
  pub within : count ≤ most_links
  pub last_within : used + count ≤ most_links → last t dir used part Followed ≡ Ok found
  pub step_within : used + count ≤ most_links → step t dir used part ≡ dir_entered (used + count) found
  pub last_beyond : most_links < used + count → last t dir used part Followed ≡ Err ELOOP
  pub step_beyond : most_links < used + count → step t dir used part ≡ Err ELOOP

-- a part that names nothing where no link was used before names nothing after any; the error may be another
pub record Fails (t : RootedTree) (dir used : ℕ) (part : Part) : Type 0 where
  pub errno : Errno
  pub last_fails : last t dir used part Followed ≡ Err errno
  pub step_fails : step t dir used part ≡ Err errno

abbrev pub IsToldBy : RootedTree → ℕ → ℕ → Part → Result (Found × ℕ) Errno → Type 0
IsToldBy t dir used part (Ok (found, count)) = IsFollowed t dir used part found count
IsToldBy t dir used part (Err errno) = Fails t dir used part

-- the answer where no link was used before tells the answer after any number of links
abbrev pub FollowDecides : Type 0
FollowDecides = (t : RootedTree) (dir used : ℕ) (part : Part) → used ≤ most_links → IsToldBy t dir used part (follow t dir part)

-- a last part that is kept follows no link
abbrev pub KeptFollowsNone : Type 0
KeptFollowsNone = (t : RootedTree) (dir used : ℕ) (part : Part) → last t dir used part Kept ≡ last t dir 0 part Kept

-- what parts name is of the tree, and no more links are left than there were
abbrev pub Lands : RootedTree → Last → ℕ → Resolved → Type 0
Lands t mode links (Ok found) = IsOf t.tree mode found.0 × (found.1 ≤ links)
Lands t mode links (Err errno) = Unit {0}

-- what a path names is of the tree, and so is what parts name from a living directory by a living root; a step leads to one, with no
-- more links used than may be followed
pub record ResolutionFits (t : RootedTree) : Type 0 where
  pub parts : (links dir : ℕ) (mode : Last) (parts : List Part) → IsTrue (is_dir t.tree dir) →
      Lands t mode links (resolve_parts links t mode dir Top parts)
  pub whole : (from : Start) (ending : Ending) (text : List ℕ) (mode : Last) (object : Found) →
      resolution t.tree from ending text mode ≡ Ok object → IsOf t.tree mode object
  pub last : (dir used : ℕ) (part : Part) (mode : Last) (object : Found) → IsTrue (is_dir t.tree dir) → last t dir used part mode ≡ Ok object →
      IsOf t.tree mode object
  pub used : (dir used : ℕ) (part : Part) (next : ℕ × ℕ) → step t dir used part ≡ Ok next → next.1 ≤ most_links
  pub step : (dir used : ℕ) (part : Part) (next : ℕ × ℕ) → IsTrue (is_dir t.tree dir) → step t dir used part ≡ Ok next → IsTrue (is_dir t.tree next.0)

abbrev pub ResolutionsFit : Type 0
ResolutionsFit = (t : RootedTree) → WellFormed t.tree → IsTrue (is_dir t.tree t.root) → ResolutionFits t
