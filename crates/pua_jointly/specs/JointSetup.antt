-- What has to be worked out of a crew and a tree before facts are found.
use Rattle.std.specs.Prelude.{◌≡◌, ◌<◌, ◌+◌, ◌-◌, ◌*◌, ◌==◌, ◌&&◌, map, suc, ℕ, Bool, List, length, Option, Some, None, false, get_or, slice_get, IsTrue}
use Rattle.std.specs.Prelude.{nat_le, nat_lt}
use Rattle.std.specs.List.{Contains, find}
use Rattle.pua_tree.specs.Tree.{Tree, WellFormed, Spot, device, is_dir, kind_at, look}
use Rattle.pua_calls.specs.Calls.{CallTable}
use Rattle.pua_policy.specs.States.{ProcessState, perms_kept}
use Rattle.pua_policy.specs.declared.place.Place.TheVariants as place
use Rattle.pua_jointly.specs.JointFacts.{watches}
use Rattle.pua_jointly.specs.Jointly.{Hand}
use Rattle.pua_jointly.specs.JointTable.{Layout, FollowsAt, TableFits, Entity, DirAt, MadeBy, LandingOf, DropsOf, NameAt, columns, entities}
use Rattle.pua_jointly.specs.JointTable.{hands_of, table_says}
use Rattle.pua_jointly.specs.JointPlace.{Once}
use Rattle.pua_jointly.specs.JointSetting.{AreColumns, AreDevices, AreInOrder}
use Rattle.pua_jointly.specs.JointShape.{entity_of}
use Rattle.pua_jointly.specs.JointWords.{AreAgents, AreMovers}
use Rattle.pua_jointly.specs.declared.crew.Crew.{Crew}
use Rattle.pua_jointly.specs.declared.crew.Entry.{Entry}
use Rattle.pua_jointly.specs.declared.crew.Mark.{Mark}
use Rattle.pua_jointly.specs.declared.crew.Side.{Side}
use Rattle.pua_jointly.specs.declared.crew.Watch.{Watch}
use Rattle.pua_jointly.specs.declared.shape.Row.{Row}
use Rattle.pua_jointly.specs.declared.shape.Row.TheVariants as rows

-- the row of a name at which something stands
abbrev pub name_row : ℕ → ℕ → ℕ → ℕ
name_row dirs many i = dirs + (many + (many + (many + i)))

-- what is asked of such a name
pub record IsEntry (t : Tree) (dirs many i : ℕ) (spot : Spot) (entry : Entry) : Type 0 where
  pub row : entry.row ≡ name_row dirs many i
  pub dir : entry.dir ≡ spot.0
  pub name : entry.name.now ≡ spot.1
  pub at : look t spot.0 spot.1 ≡ Some entry.node
  pub kind : kind_at t entry.node ≡ Some entry.kind

pub record AreEntries (t : Tree) (dirs many : ℕ) (spots : List Spot) (entries : List Entry) : Type 0 where
  pub each : (i : ℕ) (spot : Spot) → slice_get spots i ≡ Some spot →
      (entry : Entry) × (slice_get entries i ≡ Some entry) × IsEntry t dirs many i spot entry
  pub only : (i : ℕ) (entry : Entry) → slice_get entries i ≡ Some entry →
      (spot : Spot) × (slice_get spots i ≡ Some spot) × IsEntry t dirs many i spot entry

-- and of a name at which a veil is, in a directory that stands, on a device
abbrev pub IsRowOf : Tree → ℕ → ℕ → List Spot → Spot → Option ℕ → Type 0
IsRowOf t dirs many spots spot None = look t spot.0 spot.1 ≡ None
IsRowOf t dirs many spots spot (Some row) = (i : ℕ) × (slice_get spots i ≡ Some spot) × (row ≡ name_row dirs many i)

pub record IsMark (t : Tree) (dirs many : ℕ) (spots : List Spot) (on : ℕ) (mark : Mark) : Type 0 where
  pub stands : IsTrue (is_dir t mark.dir)
  pub low : mark.dir < dirs
  pub row : IsRowOf t dirs many spots (mark.dir, mark.name.now) mark.row
  pub near : device t mark.dir ≡ on

pub record AreMarks (t : Tree) (crew : List ProcessState) (dirs many : ℕ) (spots : List Spot) (on : ℕ) (marks : List Mark) : Type 0 where
  pub each : (a : ProcessState) (dir : ℕ) (name : List ℕ) (perms : ℕ) → Contains crew a → perms_kept a (place.Slot dir name) ≡ Some perms →
      IsTrue (is_dir t dir) → device t dir ≡ on → (mark : Mark) × Contains marks mark × (mark.dir ≡ dir) × (mark.name.now ≡ name)
  pub only : (mark : Mark) → Contains marks mark → IsMark t dirs many spots on mark

-- and of a watched directory
pub record IsWatch (dirs many i y : ℕ) (watch : Watch) : Type 0 where
  pub dir : watch.dir ≡ y
  pub low : y < dirs
  pub column : watch.column ≡ many + suc i

pub record AreWatches (dirs many : ℕ) (guarded : List ℕ) (watches : List Watch) : Type 0 where
  pub each : (i y : ℕ) → slice_get guarded i ≡ Some y → (watch : Watch) × (slice_get watches i ≡ Some watch) × IsWatch dirs many i y watch
  pub only : (i : ℕ) (watch : Watch) → slice_get watches i ≡ Some watch →
      (y : ℕ) × (slice_get guarded i ≡ Some y) × IsWatch dirs many i y watch

-- the row of a directory of a device, or of what a process makes there
pub data IsSeatOn (t : Tree) (hands : List Hand) (dirs on : ℕ) : ℕ → Type 0 where
  old_on : {d : ℕ} → d < dirs → device t d ≡ on → IsSeatOn t hands dirs on d
  made_on : (i : ℕ) {by : Hand} → slice_get hands i ≡ Some by → by.1 ≡ on → IsSeatOn t hands dirs on (dirs + i)

-- a device, with the hands before those on it
pub record IsSide (t : Tree) (table : CallTable) (crew : List ProcessState) (hands : List Hand) (dirs : ℕ) (spots : List Spot)
    (all_watches : List Watch) (on : ℕ) (side : Side) : Type 0 where
  pub hand : (i : ℕ) (a : ProcessState) → slice_get crew i ≡ Some a → slice_get hands (side.first + i) ≡ Some (a, on)
  pub movers : AreMovers table crew dirs (length hands) side.first side.movers.items
  pub seats : (seat : ℕ) → IsSeatOn t hands dirs on seat → Contains side.seats.items seat
  pub only_seats : (seat : ℕ) → Contains side.seats.items seat → IsSeatOn t hands dirs on seat
  pub marks : AreMarks t crew dirs (length hands) spots on side.marks.items
  pub watches : (watch : Watch) → Contains all_watches watch → device t watch.dir ≡ on → Contains side.watches.items watch
  pub only_watches : (watch : Watch) → Contains side.watches.items watch → Contains all_watches watch × (device t watch.dir ≡ on)

-- a row is on a device
abbrev pub IsOn : Tree → ℕ → Entity → Type 0
IsOn t on (DirAt d) = device t d ≡ on
IsOn t on (MadeBy by) = by.1 ≡ on
IsOn t on (LandingOf by) = by.1 ≡ on
IsOn t on (DropsOf by) = by.1 ≡ on
IsOn t on (NameAt spot) = device t spot.0 ≡ on

-- the device of a row
abbrev pub is_of_device : ℕ → Side → Bool
is_of_device device side = side.device == device

abbrev pub device_side : Crew → Option ℕ → Option Side
device_side c None = None
device_side c (Some device) = find (is_of_device device) c.sides.items

abbrev pub dir_side : Crew → ℕ → Option Side
dir_side c dir = device_side c (slice_get c.devices.items dir)

abbrev pub has_hand : Crew → ℕ → Side → Bool
has_hand c hand side = nat_le side.first hand && nat_lt (hand - side.first) c.shape.agents

abbrev pub hand_side : Crew → ℕ → Option Side
hand_side c hand = find (has_hand c hand) c.sides.items

abbrev pub entry_side : Crew → Option Entry → Option Side
entry_side c None = None
entry_side c (Some entry) = dir_side c entry.dir

abbrev pub side_of : Crew → Row → Option Side
side_of c (rows.Dir dir) = dir_side c dir
side_of c (rows.Made hand) = hand_side c hand
side_of c (rows.Landing hand) = hand_side c hand
side_of c (rows.Drops hand) = hand_side c hand
side_of c (rows.Name entry) = entry_side c (slice_get c.entries.items entry)

pub record HasSide (t : Tree) (table : CallTable) (crew : List ProcessState) (hands : List Hand) (dirs : ℕ) (spots : List Spot) (c : Crew)
    (about : Row) (e : Entity) : Type 0 where
  pub side : Side
  pub of : side_of c about ≡ Some side
  pub on : ℕ
  pub here : IsOn t on e
  pub is : IsSide t table crew hands dirs spots c.watches.items on side

-- all of it, for directories up to a number
abbrev pub dirs_of : Crew → ℕ
dirs_of c = c.shape.last + 1

pub record IsCrew (t : Tree) (table : CallTable) (crew : List ProcessState) (devices : List ℕ) (watched : ℕ → Bool) (spots : List Spot)
    (guarded : List ℕ) (c : Crew) : Type 0 where
  pub fits : TableFits t crew devices watched (dirs_of c) spots guarded
  pub each_agent : Once crew
  pub each_hand : Once (hands_of crew devices)
  pub each_name : Once spots
  pub each_watched : Once guarded
  pub only_watched : (y : ℕ) → Contains guarded y → IsTrue (watched y)
  pub many : c.shape.agents ≡ length crew
  pub hands : c.shape.hands ≡ length (hands_of crew devices)
  pub columns : c.columns ≡ length (columns crew guarded)
  pub agents : AreAgents table crew c.agents.items
  pub entries : AreEntries t (dirs_of c) (length (hands_of crew devices)) spots c.entries.items
  pub in_order : AreInOrder c.entries.items
  pub low_nodes : (entry : Entry) → Contains c.entries.items entry → entry.node < dirs_of c
  pub watches : AreWatches (dirs_of c) (length crew) guarded c.watches.items
  pub watch_columns : AreColumns c.watches.items c.watch_columns.items
  pub on_devices : AreDevices t (dirs_of c) c.devices.items
  pub rows : (row : ℕ) (about : Row) (e : Entity) → slice_get (entities (hands_of crew devices) (dirs_of c) spots) row ≡ Some e →
      entity_of (hands_of crew devices) spots about ≡ Some e → HasSide t table crew (hands_of crew devices) (dirs_of c) spots c about e
  pub only_rows : (about : Row) → entity_of (hands_of crew devices) spots about ≡ None → side_of c about ≡ None
  pub each_side : (side : Side) → Contains c.sides.items side →
      IsSide t table crew (hands_of crew devices) (dirs_of c) spots c.watches.items side.device side

-- of a crew and a tree by themselves
abbrev pub crew_told : Crew → List ProcessState
crew_told c = map (λ agent. agent.process.now) c.agents.items

abbrev pub spots_told : Crew → List Spot
spots_told c = map (λ entry. (entry.dir, entry.name.now)) c.entries.items

abbrev pub guarded_told : Crew → List ℕ
guarded_told c = map (λ watch. watch.dir) c.watches.items

-- the devices, in the order of their places
abbrev pub devices_told : Crew → List ℕ
devices_told c = map (λ side. side.device) c.sides.items

abbrev pub hands_told : Crew → List Hand
hands_told c = hands_of (crew_told c) (devices_told c)

abbrev pub layout_told : Crew → Layout
layout_told c = table_says (entities (hands_told c) (dirs_of c) (spots_told c)) (columns (crew_told c) (guarded_told c))

abbrev pub count_told : Crew → ℕ
count_told c = length (columns (crew_told c) (guarded_told c)) * length (entities (hands_told c) (dirs_of c) (spots_told c))

abbrev pub IsWorkedOut : Tree → CallTable → Crew → Type 0
IsWorkedOut t table c =
    WellFormed t × IsCrew t table (crew_told c) (devices_told c) (watches t (crew_told c)) (spots_told c) (guarded_told c) c

abbrev pub FollowsTold : Tree → CallTable → Crew → List ℕ → ℕ → ℕ → Type 0
FollowsTold t table c told at bit = FollowsAt t table (crew_told c) (watches t (crew_told c)) (layout_told c) told at bit

-- which numbers below a count are those of directories
abbrev pub AreStanding : Tree → ℕ → List Bool → Type 0
AreStanding t count standing = (n : ℕ) → n < count → get_or standing n false ≡ is_dir t n

-- what contracts see of the steps by which its table is filled
pub record RoundsState : Type 0 where
  pub tree : Tree
  pub table : CallTable
  pub crew : Crew
