-- How a path goes, one part after another, up to where it ends or stops.
use Rattle.std.specs.Prelude.{◌≡◌, ℕ, suc, true, false, List, [], ◌∷◌, ◌++◌, Option, Some, None, Result, Ok, Err}
use Rattle.pua_tree.specs.Tree.{Spot}
use Rattle.pua_path.specs.Paths.{parts_of}
use Rattle.pua_path.specs.Remaining.{has_no_part}
use Rattle.pua_path.specs.Resolution.{RootedTree, above_in, Standing, Directory, Linked, Plain, Nothing, standing_at, is_followed}
use Rattle.pua_path.specs.Resolution.{start_of, resolve_parts}
use Rattle.pua_path.specs.declared.text.Ending.TheVariants as ending
use Rattle.pua_path.specs.declared.found.Part.{Part}
use Rattle.pua_path.specs.declared.found.Part.TheVariants as parts
use Rattle.pua_path.specs.declared.found.Last.{Last}
use Rattle.pua_path.specs.declared.found.Way.{Way}
use Rattle.pua_path.specs.declared.found.Found.{Found}
use Rattle.pua_path.specs.declared.found.Found.TheVariants.{Whole, Slot}
use Rattle.pua_path.specs.declared.traced.Stop.{Stop}
use Rattle.pua_path.specs.declared.traced.Stop.TheVariants.{NoEntry, NoDirectory, LinkBeyond}
use Rattle.pua_path.specs.Traces.{stop_spot, Trace, trace_parts}

-- from a directory with parts left and links that may be followed, by these links, to a directory with parts and links left
pub data Comes (t : RootedTree) (mode : Last) : ℕ → ℕ → List Part → List Spot → ℕ → ℕ → List Part → Type 0 where
  there : {links dir : ℕ} {ps : List Part} → Comes t mode links dir ps [] links dir ps
  by_dot : {links dir : ℕ} {ps : List Part} {spots : List Spot} {left at : ℕ} {qs : List Part} →
      Comes t mode links dir ps spots left at qs → Comes t mode links dir (parts.Dot ∷ ps) spots left at qs
  by_dots : {links dir : ℕ} {ps : List Part} {spots : List Spot} {left at : ℕ} {qs : List Part} →
      Comes t mode links (above_in t dir) ps spots left at qs → Comes t mode links dir (parts.DotDot ∷ ps) spots left at qs
  by_directory : {links dir : ℕ} {name : List ℕ} {ps : List Part} {spots : List Spot} {left at : ℕ} {qs : List Part} (x : ℕ) →
      standing_at t.tree dir name ≡ Directory x →
      Comes t mode links x ps spots left at qs → Comes t mode links dir (parts.Name name ∷ ps) spots left at qs
  by_target : {links dir : ℕ} {name : List ℕ} {ps : List Part} {spots : List Spot} {left at : ℕ} {qs : List Part} (x : ℕ)
      (target : List ℕ) →
      standing_at t.tree dir name ≡ Linked x target → is_followed mode ps ≡ true →
      Comes t mode links (start_of t.root target dir) (parts_of ending.Dot target ++ ps) spots left at qs →
      Comes t mode (suc links) dir (parts.Name name ∷ ps) ((dir, name) ∷ spots) left at qs

-- why it goes no further: nothing stands at the next name, or no directory, though a part is left behind it; or a link
-- that may not be followed any more
abbrev pub StopsFor : RootedTree → Last → ℕ → List Part → Stop → Type 0
StopsFor t mode left rest (NoEntry spot) = (standing_at t.tree spot.0 spot.1 ≡ Nothing) × (has_no_part rest ≡ false)
StopsFor t mode left rest (NoDirectory spot) = ((x : ℕ) × (standing_at t.tree spot.0 spot.1 ≡ Plain x)) × (has_no_part rest ≡ false)
StopsFor t mode left rest (LinkBeyond spot) = (x : ℕ) × (target : List ℕ) × (standing_at t.tree spot.0 spot.1 ≡ Linked x target) ×
    (is_followed mode rest ≡ true) × (left ≡ 0)

pub record StopsAt (t : RootedTree) (mode : Last) (links dir : ℕ) (ps : List Part) (spots : List Spot) (stop : Stop) : Type 0 where
  pub left : ℕ
  pub rest : List Part
  pub comes : Comes t mode links dir ps spots left (stop_spot stop).0 (parts.Name (stop_spot stop).1 ∷ rest)
  pub why : StopsFor t mode left rest stop

-- what stands at a name is found by it, and is no directory
abbrev pub IsFoundBy : Standing → Option ℕ → Type 0
IsFoundBy (Directory y) x = ⊥
IsFoundBy (Linked y target) x = x ≡ Some y
IsFoundBy (Plain y) x = x ≡ Some y
IsFoundBy Nothing x = x ≡ None

-- where it ends: in a directory with no part left, or at a last name
abbrev pub EndsAt : RootedTree → Last → ℕ → ℕ → List Part → List Spot → Found → ℕ → Type 0
EndsAt t mode links dir ps spots (Whole at way) left = Comes t mode links dir ps spots left at []
EndsAt t mode links dir ps spots (Slot at name x) left = Comes t mode links dir ps spots left at (parts.Name name ∷ []) ×
    IsFoundBy (standing_at t.tree at name) x

abbrev pub Arrives : RootedTree → Last → ℕ → ℕ → List Part → Trace → Type 0
Arrives t mode links dir ps trace = by trace.outcome
  where
    by : Result (Found × ℕ) Stop → Type 0
    by (Ok found) = EndsAt t mode links dir ps trace.links found.0 found.1
    by (Err stop) = StopsAt t mode links dir ps trace.links stop

-- a trace says how the path goes
abbrev pub TracesArrive : Type 0
TracesArrive = (t : RootedTree) (mode : Last) (links dir : ℕ) (way : Way) (ps : List Part) →
    Arrives t mode links dir ps (trace_parts links t mode dir way ps)

-- and the resolution goes so: while a part is left, it goes on from there with the links left
abbrev pub ComingResolves : Type 0
ComingResolves = (t : RootedTree) (mode : Last) (links dir : ℕ) (ps : List Part) (spots : List Spot) (left at : ℕ) (part : Part)
    (qs : List Part) → Comes t mode links dir ps spots left at (part ∷ qs) →
    (way other : Way) → resolve_parts links t mode dir way ps ≡ resolve_parts left t mode at other (part ∷ qs)
