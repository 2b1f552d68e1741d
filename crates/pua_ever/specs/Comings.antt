-- By which veils things come to stand: the covers under which a thing can ever come, each by the place of the veil that leaves it.
-- A process without veils has none.
use Rattle.std.specs.Prelude.{◌≡◌, ℕ, Bool, true, not, ◌&&◌, if◌then◌else◌, List, [], ◌∷◌, ◌++◌, filter_map, map, ◌==◌, Option, Some, None}
use Rattle.std.specs.Prelude.{is_none, is_some, option_and_then, option_map}
use Rattle.std.specs.BTreeSet.{BTreeSet}
use Rattle.std.specs.List.{list_any}
use Rattle.pua_tree.specs.Tree.{Tree, above, device, is_dir, kind_at}
use Rattle.pua_tree.specs.declared.node.Kind.{Kind}
use Rattle.pua_path.specs.declared.found.Found.{Found}
use Rattle.pua_path.specs.declared.found.Found.TheVariants.{Whole, Slot}
use Rattle.pua_path.specs.declared.found.Way.TheVariants.{Top}
use Rattle.pua_calls.specs.Calls.{CallTable}
use Rattle.pua_policy.specs.Reasons.{covering}
use Rattle.pua_policy.specs.States.{ProcessState, perms_kept, same_place, veils}
use Rattle.pua_policy.specs.Verdict.{cover}
use Rattle.pua_policy.specs.declared.answer.Cover.{Cover}
use Rattle.pua_policy.specs.declared.place.Place.{Place}
use Rattle.pua_policy.specs.declared.place.Place.TheVariants as place
use Rattle.pua_policy.specs.declared.reason.Covering.{Covering}
use Rattle.pua_policy.specs.declared.reason.Covering.TheVariants.{By}
use Rattle.pua_objects.specs.Objects.{At, Others, cover_in}
use Rattle.pua_ever.specs.Ever.{NewDir, NewOthers, NewFile, NewLink, NewSock, NewFifo, Thing, Stands, Comes, can_link, can_move, can_yield}
use Rattle.pua_ever.specs.Ever.{is_device, is_free, some_dir_moves, stays_on}
use Rattle.pua_ever.specs.Destinations.{StaysPut, can_give_way, destination}
use Rattle.pua_ever.specs.declared.comings.Comings.{Comings}
use Rattle.pua_ever.specs.declared.comings.ComesUnder.{ComesUnder}
use Rattle.pua_ever.specs.declared.comings.ComesUnder.TheVariants.{AsDir, AsFile, Only}
use Rattle.pua_ever.specs.declared.comings.MovedTo.{MovedTo}
use Rattle.pua_ever.specs.declared.comings.Taking.{Taking}

-- where the veil stands that covers something, if one does
abbrev pub place_by : Covering → Option Place
place_by (By at perms) = Some at
place_by _ = None

abbrev pub as_list : Option Place → List Place
as_list None = []
as_list (Some at) = at ∷ []

abbrev pub place_over : Tree → ProcessState → Found → Option Place
place_over t h found = place_by (covering t h found)

-- the veil that is kept at a place has `c`
abbrev pub has_c_at : ProcessState → Place → Bool
has_c_at h at = is_some (destination h at)

-- a place, with the device of the directory into which things come by the veil there
abbrev pub placed_in : Tree → ℕ → Place → ℕ × Place
placed_in t dir at = (device t dir, at)

-- a veil with `c` on a directory covers what comes into that
abbrev pub inside : Tree → ProcessState → Place → Option (ℕ × Place)
inside t h (place.Dir dir) = if is_dir t dir && has_c_at h (place.Dir dir) then Some (placed_in t dir (place.Dir dir)) else None
inside t h (place.Slot dir name) = None

-- one on a name that can come to be free covers what comes there and is no directory
abbrev pub at_name : Tree → ProcessState → Place → Option (ℕ × Place)
at_name t h (place.Slot dir name) =
    if is_dir t dir && (is_free t h (dir, name) && has_c_at h (place.Slot dir name))
    then Some (placed_in t dir (place.Slot dir name)) else None
at_name t h (place.Dir dir) = None

-- the directory in which another one can come to stand by a veil with `c`, though that directory may lack it: at this name, or in
-- the place of one that gives way
abbrev pub entered : Tree → ProcessState → Place → Option ℕ
entered t h (place.Slot dir name) =
    if is_dir t dir && (is_free t h (dir, name) && has_c_at h (place.Slot dir name)) then Some dir else None
entered t h (place.Dir dir) =
    if is_dir t dir && (not (dir == 0) && (has_c_at h (place.Dir dir) && can_yield t h dir))
    then Some (above t dir) else None

-- and what covers that directory covers the one that comes
abbrev pub over_entered : Tree → ProcessState → ℕ → Option (ℕ × Place)
over_entered t h dir = option_map (placed_in t dir) (place_over t h (Whole dir Top))

abbrev pub around : Tree → ProcessState → Place → Option (ℕ × Place)
around t h at = option_and_then (over_entered t h) (entered t h at)

abbrev pub places_kept : ProcessState → List Place
places_kept h = map (λ veil. veil.0) (veils h)

-- the places that a veil each gives, on a device, or on any
abbrev pub place_on : Option ℕ → ℕ × Place → Option Place
place_on on found = if is_device on found.0 then Some found.1 else None

abbrev pub places_by : ProcessState → (Place → Option (ℕ × Place)) → Option ℕ → List Place
places_by h gives on = filter_map (place_on on) (filter_map gives (places_kept h))

abbrev pub at_names : Tree → ProcessState → Option ℕ → List Place
at_names t h on = places_by h (at_name t h) on

abbrev pub insides : Tree → ProcessState → Option ℕ → List Place
insides t h on = places_by h (inside t h) on

abbrev pub arounds : Tree → ProcessState → Option ℕ → List Place
arounds t h on = places_by h (around t h) on

-- the veils there under which a directory can come that is moved or made, and those under which anything else can, by whether some
-- directory with `c` moves
abbrev pub dir_places : Tree → ProcessState → Option ℕ → List Place
dir_places t h on = insides t h on ++ arounds t h on

abbrev pub files_by : Tree → ProcessState → Option ℕ → Bool → List Place
files_by t h on moves = at_names t h on ++ (insides t h on ++ (if moves then arounds t h on else []))

abbrev pub file_places : Tree → CallTable → ProcessState → Option ℕ → List Place
file_places t table h on = files_by t h on (some_dir_moves t table h on)

-- a directory with a veil of its own keeps that wherever it is; its further names are covered as it is
abbrev pub places_of_dir : Tree → CallTable → ProcessState → ℕ → List Place
places_of_dir t table h dir =
    if is_none (perms_kept h (place.Dir dir)) && can_move table h (cover_in t h dir)
    then dir_places t h (stays_on t h dir) else as_list (place_over t h (Whole dir Top))

-- a file, program or link can also come under another veil by a further name
abbrev pub places_named : Tree → CallTable → ProcessState → Option ℕ → Option Kind → Cover → Option Place → List Place
places_named t table h on kind now over =
    if can_move table h now then file_places t table h on
    else as_list over ++ (if can_link table h kind now then file_places t table h on else [])

-- the veils under which a thing can ever come to stand, on its device where that doesn't go along; that which covers it now is one where
-- it can stay
abbrev pub places_on : Tree → CallTable → ProcessState → Thing → List Place
places_on t table h (Stands (At (Whole dir way))) = places_of_dir t table h dir
places_on t table h (Stands (Others dir)) = places_of_dir t table h dir
places_on t table h (Stands (At (Slot dir name (Some node)))) =
    places_named t table h (stays_on t h dir) (kind_at t node)
    (cover t h (Slot dir name (Some node))) (place_over t h (Slot dir name (Some node)))
places_on t table h (Stands (At (Slot dir name None))) = as_list (place_over t h (Slot dir name None))
places_on t table h (Comes NewDir) = dir_places t h None
places_on t table h (Comes NewOthers) = dir_places t h None
places_on t table h (Comes NewFile) = file_places t table h None
places_on t table h (Comes NewLink) = file_places t table h None
places_on t table h (Comes NewSock) = file_places t table h None
places_on t table h (Comes NewFifo) = file_places t table h None

-- Notes: what the code gathers, what it asks of directories, and what it gives.

-- the device from which a directory with `c` moves
abbrev pub moved_from : CallTable → ProcessState → ℕ × Cover → Option ℕ
moved_from table h found = if can_move table h found.1 then Some found.0 else None

pub record AreComings (t : Tree) (table : CallTable) (h : ProcessState) (found : Comings) : Type 0 where
  pub names : found.names.items ≡ filter_map (at_name t h) (places_kept h)
  pub insides : found.insides.items ≡ filter_map (inside t h) (places_kept h)
  pub arounds : found.arounds.items ≡ filter_map (around t h) (places_kept h)
  pub moves : (on : Option ℕ) → StaysPut t h on → list_any (is_device on) found.moves.items ≡ some_dir_moves t table h on

-- by these directories it is told which give way
abbrev pub GivesWay : Tree → ProcessState → BTreeSet ℕ → List ℕ → Type 0
GivesWay t h held opened =
    (dir : ℕ) → is_dir t dir ≡ true → has_c_at h (place.Dir dir) ≡ true → can_give_way t held opened dir ≡ can_yield t h dir

-- the device, if the place is this one
abbrev pub device_at : Place → ℕ × Place → Option ℕ
device_at at found = if same_place at found.1 then Some found.0 else None

-- a place is among others on just these devices
abbrev pub IsOn : Place → (Option ℕ → List Place) → List ℕ → Type 0
IsOn at places devices = (on : Option ℕ) → list_any (is_device on) devices ≡ list_any (same_place at) (places on)

-- where a veil at a place takes what comes
pub record IsTaking (t : Tree) (h : ProcessState) (at : Place) (taking : Taking) : Type 0 where
  pub names : IsOn at (at_names t h) taking.names.items
  pub insides : IsOn at (insides t h) taking.insides.items
  pub arounds : IsOn at (arounds t h) taking.arounds.items

abbrev pub places_under : Tree → ProcessState → ComesUnder → List Place
places_under t h (Only over) = as_list over
places_under t h (AsDir on) = dir_places t h on
places_under t h (AsFile over to) = as_list over ++ files_by t h to.on to.moves

-- where things come that are moved from a directory
pub record IsMovedTo (t : Tree) (table : CallTable) (h : ProcessState) (dir : ℕ) (to : MovedTo) : Type 0 where
  pub on : to.on ≡ stays_on t h dir
  pub moves : to.moves ≡ some_dir_moves t table h (stays_on t h dir)
