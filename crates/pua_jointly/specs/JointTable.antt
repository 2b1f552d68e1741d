-- What is kept of the facts of a crew, in a table of words with a bit for each fact.
use Rattle.std.specs.Prelude.{◌≡◌, ◌<◌, ◌*◌, ◌/◌, ◌%◌, ◌++◌, flat_map, map, ℕ, zero, suc, Bool, List, length, Option, Some, None, slice_get, [], ◌∷◌, IsTrue}
use Rattle.std.specs.List.{Contains}
use Rattle.pua_tree.specs.Tree.{Tree, WellFormed, Spot, device, is_dir, look}
use Rattle.pua_calls.specs.Calls.{CallTable}
use Rattle.pua_policy.specs.States.{ProcessState, perms_kept}
use Rattle.pua_policy.specs.declared.answer.Cover.{Cover}
use Rattle.pua_policy.specs.declared.answer.Cover.TheVariants.{All, Nothing, Only}
use Rattle.pua_policy.specs.declared.place.Place.{Place}
use Rattle.pua_policy.specs.declared.place.Place.TheVariants as place
use Rattle.pua_ever.specs.Ever.{all_new}
use Rattle.pua_jointly.specs.Jointly.{Hand, Old, Made, Row, Maker, Fact, Can}
use Rattle.pua_jointly.specs.JointFacts.{Kept, Covers, Enters, Lands, Clear, LandsClear, Turns, Taken, Creates, Drops, Carries}
use Rattle.pua_jointly.specs.JointFacts.{Means, Follows, Tells, watches}
use Rattle.pua_jointly.specs.Closing.{knows, IsClosed, AreReached}

-- what a bit of a word says, if anything
abbrev pub Layout : Type 0
Layout = ℕ → ℕ → Option Kept

-- a kept fact is in the table
pub record IsTold (kept_at : Layout) (told : List ℕ) (x : Kept) : Type 0 where
  pub at : ℕ
  pub bit : ℕ
  pub says : kept_at at bit ≡ Some x
  pub known : knows told at bit

-- what a bit says follows from what is in the table
pub record FollowsAt (t : Tree) (table : CallTable) (crew : List ProcessState) (watched : ℕ → Bool) (kept_at : Layout)
    (told : List ℕ) (at bit : ℕ) : Type 0 where
  pub fact : Kept
  pub says : kept_at at bit ≡ Some fact
  pub follows : Follows t table crew watched (IsTold kept_at told) fact

-- each kept fact that follows has a bit in so many words
pub record HasBit (kept_at : Layout) (count : ℕ) (x : Kept) : Type 0 where
  pub at : ℕ
  pub bit : ℕ
  pub within : at < count
  pub says : kept_at at bit ≡ Some x

-- The table of a crew: a row for each directory number, for all that each process makes on each device, for where each can put
-- directories of a device, for where other things, and what it can make there, and for each name at which something stands; in it a word
-- for each process, one for all, and one for each watched directory
pub data Entity : Type 0 where
  DirAt : ℕ → Entity
  MadeBy : Hand → Entity
  LandingOf : Hand → Entity
  DropsOf : Hand → Entity
  NameAt : Spot → Entity

pub data Column : Type 0 where
  ByAgent : ProcessState → Column
  Common : Column
  Watching : ℕ → Column

abbrev pub numbers : ℕ → List ℕ
numbers zero = []
numbers (suc n) = numbers n ++ n ∷ []

abbrev pub all_covers : List Cover
all_covers = All ∷ Nothing ∷ map Only (numbers 16)

-- each process on each device, all of a device together
abbrev pub hands_of : List ProcessState → List ℕ → List Hand
hands_of crew devices = flat_map (λ at. map (λ a. (a, at)) crew) devices

abbrev pub entities : List Hand → ℕ → List Spot → List Entity
entities hands dirs spots =
    map DirAt (numbers dirs) ++ (map MadeBy hands ++ (map LandingOf hands ++ (map DropsOf hands ++ map NameAt spots)))

abbrev pub columns : List ProcessState → List ℕ → List Column
columns crew guarded = map ByAgent crew ++ (Common ∷ map Watching guarded)

-- what the bits of a word say
abbrev pub word : Entity → Column → List Kept
word (DirAt d) (ByAgent a) = map (Covers a (Old d)) all_covers ++ (Enters a (Old d) ∷ Turns a d ∷ [])
word (DirAt d) Common = []
word (DirAt d) (Watching y) = Clear y (Old d) ∷ []
word (MadeBy m) (ByAgent a) =
    map (Covers a (Made m)) all_covers ++ (Enters a (Made m) ∷ map (λ new. Carries (Maker new m) a) all_new)
word (MadeBy m) Common = []
word (MadeBy m) (Watching y) = Clear y (Made m) ∷ []
word (LandingOf b) (ByAgent a) = map (Lands b a) all_covers
word (LandingOf b) Common = []
word (LandingOf b) (Watching y) = LandsClear b y ∷ []
word (DropsOf b) (ByAgent a) = map (Drops b a) all_covers
word (DropsOf b) Common = map (Creates b) all_new
word (DropsOf b) (Watching y) = []
word (NameAt spot) (ByAgent a) = Carries (Row spot) a ∷ []
word (NameAt spot) Common = Taken spot.0 spot.1 ∷ []
word (NameAt spot) (Watching y) = []

abbrev pub bit_says : Option Entity → Option Column → ℕ → Option Kept
bit_says None column bit = None
bit_says (Some entity) None bit = None
bit_says (Some entity) (Some column) bit = slice_get (word entity column) bit

abbrev pub table_says : List Entity → List Column → Layout
table_says es cs at bit = bit_says (slice_get es (at / length cs)) (slice_get cs (at % length cs)) bit

-- the table has room for all that the crew's veils, the rows and the watched directories speak of
pub record TableFits (t : Tree) (crew : List ProcessState) (devices : List ℕ) (watched : ℕ → Bool) (dirs : ℕ) (spots : List Spot)
    (guarded : List ℕ) : Type 0 where
  pub root : 0 < dirs
  pub on_device : (d : ℕ) → d < dirs → Contains devices (device t d)
  pub perms : (a : ProcessState) (at : Place) (perms : ℕ) → Contains crew a → perms_kept a at ≡ Some perms → perms < 16
  pub veiled : (a : ProcessState) (d perms : ℕ) → Contains crew a → perms_kept a (place.Dir d) ≡ Some perms → d < dirs
  pub named : (a : ProcessState) (d : ℕ) (name : List ℕ) (perms : ℕ) → Contains crew a → perms_kept a (place.Slot d name) ≡ Some perms →
      d < dirs
  pub rows : (dir : ℕ) (name : List ℕ) (x : ℕ) → look t dir name ≡ Some x → Contains spots (dir, name)
  pub above : (dir : ℕ) (name : List ℕ) (x : ℕ) → look t dir name ≡ Some x → dir < dirs
  pub below : (dir : ℕ) (name : List ℕ) (x : ℕ) → look t dir name ≡ Some x → IsTrue (is_dir t x) → x < dirs
  pub watches : (y : ℕ) → IsTrue (watched y) → Contains guarded y

-- the table has all facts, and no others
pub record HasFacts (t : Tree) (table : CallTable) (crew : List ProcessState) (watched : ℕ → Bool) (kept_at : Layout)
    (told : List ℕ) : Type 0 where
  pub all : (fact : Fact) → Can t table crew fact → Tells t table crew watched (IsTold kept_at told) fact
  pub only : (x : Kept) → IsTold kept_at told x → Means t table crew x

-- What is proved of it: the least table that has room for all has all facts
abbrev pub TableLaw : Type 0
TableLaw =
    (t : Tree) → WellFormed t → (table : CallTable) (crew : List ProcessState) (devices : List ℕ) (dirs : ℕ) (spots : List Spot) (guarded : List ℕ) →
    TableFits t crew devices (watches t crew) dirs spots guarded → (told : List ℕ) →
    length told ≡ length (columns crew guarded) * length (entities (hands_of crew devices) dirs spots) →
    let says = table_says (entities (hands_of crew devices) dirs spots) (columns crew guarded) in
    let follows = FollowsAt t table crew (watches t crew) says in
    IsClosed follows told → AreReached follows told → HasFacts t table crew (watches t crew) says told
