-- What each veil of a process lets come to be in a tree, one veil after another. All covers under which
-- something can come that is moved or made are found by the veils alone: what has `c` has it by a veil.
use Rattle.std.specs.Prelude.{◌≡◌, ℕ, Bool, false, not, ◌&&◌, ◌||◌, if◌then◌else◌, List, ◌++◌, filter_map, ◌==◌, Option, Some, None, is_some, option_map, min, length, IsFalse}
use Rattle.std.specs.BTreeSet.{BTreeSet, contains}
use Rattle.std.specs.List.{list_any, Contains}
use Rattle.std.specs.Option.{option_eq}
use Rattle.std.specs.Ordering.{nat_cmp}
use Rattle.pua_tree.specs.Tree.{Tree, Spot, is_dir, is_mount, look, above, climb, device}
use Rattle.pua_policy.specs.States.{ProcessState, perms_kept}
use Rattle.pua_policy.specs.declared.answer.Cover.{Cover}
use Rattle.pua_policy.specs.declared.answer.Cover.TheVariants.{Only}
use Rattle.pua_policy.specs.declared.place.Place.{Place}
use Rattle.pua_policy.specs.declared.place.Place.TheVariants as place
use Rattle.pua_script.specs.Confinement.{has_c}
use Rattle.pua_objects.specs.Objects.{cover_in}
use Rattle.pua_ever.specs.Ever.{is_free, is_below, is_device, goes_along, dir_covers, name_covers, open_covers}
use Rattle.pua_ever.specs.declared.destinations.Destinations.{Destinations}
use Rattle.pua_ever.specs.declared.destinations.OnDevice.{OnDevice}
use Rattle.pua_ever.specs.Laws.{dir_of_place}

-- what a place's own veil leaves, if it has `c`
abbrev pub if_c : Option ℕ → Option Cover
if_c None = None
if_c (Some perms) = if has_c (Only perms) then Some (Only perms) else None

abbrev pub destination : ProcessState → Place → Option Cover
destination h at = if_c (perms_kept h at)

-- a place has a veil of its own, without `c`
abbrev pub is_without_c : Option ℕ → Bool
is_without_c None = false
is_without_c (Some perms) = not (has_c (Only perms))

abbrev pub is_barred : ProcessState → Place → Bool
is_barred h at = is_without_c (perms_kept h at)

-- a cover, with the device of the directory
abbrev pub with_device : Tree → ℕ → Option Cover → Option (ℕ × Cover)
with_device t dir cover = option_map (λ left. (device t dir, left)) cover

-- those on a device, or on any
abbrev pub cover_on : Option ℕ → (ℕ × Cover) → Option Cover
cover_on on found = if is_device on found.0 then Some found.1 else None

abbrev pub covers_on : Option ℕ → List (ℕ × Cover) → List Cover
covers_on on found = filter_map (cover_on on) found

-- the device doesn't go along with another one
abbrev pub StaysPut : Tree → ProcessState → Option ℕ → Type 0
StaysPut t h on = (found : ℕ) → on ≡ Some found → IsFalse (goes_along t h found)

-- the cover of a directory that has `c` by its own veil
abbrev pub dir_destination : Tree → ProcessState → Place → Option (ℕ × Cover)
dir_destination t h (place.Dir dir) = if is_dir t dir then with_device t dir (destination h (place.Dir dir)) else None
dir_destination t h (place.Slot dir name) = None

-- the cover of a name that has `c` by its own veil, and can come to be free
abbrev pub name_destination : Tree → ProcessState → Place → Option (ℕ × Cover)
name_destination t h (place.Slot dir name) =
    if is_dir t dir && is_free t h (dir, name) then with_device t dir (destination h (place.Slot dir name)) else None
name_destination t h (place.Dir dir) = None

-- the directory that has `c` by this veil, or in which a name has
abbrev pub opened_dir : ProcessState → Place → Option ℕ
opened_dir h at = if is_some (destination h at) then Some (dir_of_place at) else None

-- the directory in which something stands that has no `c`, by this veil: so it can't come to be empty
abbrev pub is_no_dir : Tree → Option ℕ → Bool
is_no_dir t None = false
is_no_dir t (Some node) = not (is_dir t node)

abbrev pub held_dir : Tree → ProcessState → Place → Option ℕ
held_dir t h (place.Dir dir) =
    if is_dir t dir && (not (dir == 0) && is_barred h (place.Dir dir)) then Some (above t dir) else None
held_dir t h (place.Slot dir name) =
    if is_no_dir t (look t dir name) && is_barred h (place.Slot dir name) then Some dir else None

abbrev pub holds_dir : Tree → ProcessState → ℕ → Place → Bool
holds_dir t h dir at = option_eq ◌==◌ (held_dir t h at) (Some dir)

-- nor can one in which a mount point stands
abbrev pub is_mounted_in : Tree → ℕ → (Spot × ℕ) → Bool
is_mounted_in t dir row = row.0.0 == dir && is_mount t row.1

abbrev pub has_mount : Tree → ℕ → Bool
has_mount t dir = list_any (is_mounted_in t dir) t.rows

-- those directories are in a set
abbrev pub AreHeld : Tree → ProcessState → List Place → BTreeSet ℕ → Type 0
AreHeld t h places held = (dir : ℕ) → contains nat_cmp held dir ≡ (has_mount t dir || list_any (holds_dir t h dir) places)

-- the cover under which a directory can come by this veil: at a name that can come to be free, or in the
-- place of a directory that is no mount point and can come to be empty, if something has `c` that isn't in that
abbrev pub is_outside : Tree → ℕ → ℕ → Bool
is_outside t dir other = is_dir t other && not (is_below t dir other)

abbrev pub can_give_way : Tree → BTreeSet ℕ → List ℕ → ℕ → Bool
can_give_way t held opened dir =
    not (is_mount t dir) && (not (contains nat_cmp held dir) && list_any (is_outside t dir) opened)

abbrev pub entrance_cover : Tree → ProcessState → BTreeSet ℕ → List ℕ → Place → Option (ℕ × Cover)
entrance_cover t h held opened (place.Slot dir name) =
    if is_dir t dir && (is_free t h (dir, name) && is_some (destination h (place.Slot dir name)))
    then with_device t dir (Some (cover_in t h dir)) else None
entrance_cover t h held opened (place.Dir dir) =
    if is_dir t dir && (not (dir == 0) && (is_some (destination h (place.Dir dir)) && can_give_way t held opened dir))
    then with_device t (above t dir) (Some (cover_in t h (above t dir))) else None

-- how many directories a climb from a living one to the root meets, as far as a machine counts; what is no
-- living directory counts most
abbrev pub depth : Tree → ℕ → ℕ
depth t dir = if is_dir t dir then min (length (climb t dir)) 18446744073709551615 else 18446744073709551615

-- two lists with the same elements
pub record HaveSame {X : Type 0} (xs ys : List X) : Type 0 where
  pub within : (x : X) → Contains xs x → Contains ys x
  pub all : (x : X) → Contains ys x → Contains xs x

-- what was found of the veils is so: on any device, and on each that doesn't go along with another
pub record AreDestinations (t : Tree) (h : ProcessState) (found : Destinations) : Type 0 where
  pub dirs : (on : Option ℕ) → StaysPut t h on → HaveSame (covers_on on found.dirs.items ++ covers_on on found.entrances.items) (dir_covers t h on)
  pub names : (on : Option ℕ) → HaveSame (covers_on on found.names.items) (name_covers t h on)
  pub opens : (on : Option ℕ) → StaysPut t h on → HaveSame (covers_on on found.dirs.items) (open_covers t h on)

-- a directory's device, and whether that goes along
abbrev pub IsOnDevice : Tree → ProcessState → OnDevice → Type 0
IsOnDevice t h own = (device t own.dir ≡ own.device) × (goes_along t h own.device ≡ own.along)
