-- What is kept of the facts of a crew while they are found: finitely many, which the others follow from. What can come to stand where
-- is asked by who can bring it: a process that can move something brings it wherever it can come in on the same device. That a directory can't come to
-- stand in itself is asked of some directories alone, the **watched** ones: where no veil is below another one, this changes nothing.
-- Names at which no veil is are as one.
use Rattle.std.specs.Prelude.{◌≡◌, ◌≢◌, ◌⊎◌, ⊤, ◌||◌, ◌==◌, false, ℕ, Bool, if◌then◌else◌, List, Some, None, IsTrue, IsFalse}
use Rattle.std.specs.List.{Contains, list_any}
use Rattle.pua_tree.specs.Tree.{Tree, device, is_dir, is_mount, is_within, look, empty_tree}
use Rattle.pua_calls.specs.Calls.{CallTable}
use Rattle.pua_policy.specs.States.{ProcessState, has_veil, perms_kept, veils}
use Rattle.pua_policy.specs.Verdict.{IsFile, IsMissing, covered_verdict, is_allowed}
use Rattle.pua_policy.specs.declared.answer.Cover.{Cover}
use Rattle.pua_policy.specs.declared.answer.Cover.TheVariants.{All, Nothing, Only}
use Rattle.pua_policy.specs.declared.place.Place.{Place}
use Rattle.pua_policy.specs.declared.place.Place.TheVariants as place
use Rattle.pua_script.specs.Confinement.{has_c}
use Rattle.pua_ever.specs.Ever.{New, NewDir, is_made_by, can_move, can_link}
use Rattle.pua_jointly.specs.Jointly.{Hand, seat_device, source_device, Seat, Old, Made, Source, Row, Maker, Fact, StandsIn, NotAbove, DirCover, NameCover, Free, WayIn, Writes}
use Rattle.pua_jointly.specs.Jointly.{Makes, StandsAt, may_take, is_standing, own_veil, name_veil, kind_of_source, Can, turning_by}

pub data Kept : Type 0 where
  -- a cover that can come over a directory by the veils of a process, and a directory into which it can come to put another
  Covers : ProcessState → Seat → Cover → Kept
  Enters : ProcessState → Seat → Kept
  -- it can put a directory of this device where it comes under this cover of another process's
  Lands : Hand → ProcessState → Cover → Kept
  -- a watched directory can come to be neither the other one nor above it, and where a process can put another one of this device
  Clear : ℕ → Seat → Kept
  LandsClear : Hand → ℕ → Kept
  -- a process can put another directory in the place of this one, wherever it stands on its own device
  Turns : ProcessState → ℕ → Kept
  -- what stands at a name can be taken away
  Taken : ℕ → List ℕ → Kept
  -- a process can come to make such a thing on this device
  Creates : Hand → New → Kept
  -- it can put what is no directory and on this device where it comes under this cover of another process's
  Drops : Hand → ProcessState → Cover → Kept
  -- it can come to move such a thing, or to give it a further name
  Carries : Source → ProcessState → Kept

-- a process can move a thing, or give it a further name
abbrev pub can_carry : Tree → CallTable → Source → ProcessState → Cover → Bool
can_carry t table r a k = can_move table a k || can_link table a (kind_of_source t table r) k

pub record CanDrop (t : Tree) (table : CallTable) (crew : List ProcessState) (by : Hand) (a : ProcessState) (k : Cover) : Type 0 where
  pub dir : Seat
  pub name : List ℕ
  pub near : seat_device t dir ≡ by.1
  pub writes : Can t table crew (Writes by.0 dir name)
  pub over : Can t table crew (NameCover a dir name k)

pub record CanCarry (t : Tree) (table : CallTable) (crew : List ProcessState) (r : Source) (a : ProcessState) : Type 0 where
  pub among : Contains crew a
  pub dir : Seat
  pub name : List ℕ
  pub cover : Cover
  pub stands : Can t table crew (StandsAt r dir name)
  pub over : Can t table crew (NameCover a dir name cover)
  pub can : IsTrue (can_carry t table r a cover)

-- a call of it that makes such a thing is allowed under a cover
abbrev pub makes_under : CallTable → ProcessState → New → Cover → Bool
makes_under table a new k = is_made_by (λ maker. is_allowed (covered_verdict empty_tree table a maker k IsMissing)) new

-- and one by which a file can come to be a program, by whether it can send what it has open
abbrev pub turns_under : CallTable → ProcessState → Bool → Cover → Bool
turns_under table a sends k = list_any (λ call. is_allowed (covered_verdict empty_tree table a call k IsFile)) (turning_by sends)

-- what is kept, as facts
abbrev pub Means : Tree → CallTable → List ProcessState → Kept → Type 0
Means t table crew (Covers a d k) = Can t table crew (DirCover a d k)
Means t table crew (Enters a d) = Can t table crew (WayIn a d)
Means t table crew (Lands by a k) =
    (d : Seat) × (seat_device t d ≡ by.1) × Can t table crew (WayIn by.0 d) × Can t table crew (DirCover a d k)
Means t table crew (Clear y d) = Can t table crew (NotAbove (Old y) d)
Means t table crew (LandsClear by y) =
    (d : Seat) × (seat_device t d ≡ by.1) × Can t table crew (WayIn by.0 d) × Can t table crew (NotAbove (Old y) d)
Means t table crew (Turns a y) =
    (d : Seat) → seat_device t d ≡ device t y → Can t table crew (StandsIn (Old y) d) → Can t table crew (WayIn a d)
Means t table crew (Taken dir name) = Can t table crew (Free (Old dir) name)
Means t table crew (Creates by new) = Can t table crew (Makes by new)
Means t table crew (Drops by a k) = CanDrop t table crew by a k
Means t table crew (Carries r a) = CanCarry t table crew r a

-- the processes that it speaks of are of the crew
abbrev pub IsOfCrew : List ProcessState → Kept → Type 0
IsOfCrew crew (Covers a d k) = Contains crew a
IsOfCrew crew (Enters a d) = Contains crew a
IsOfCrew crew (Lands by a k) = Contains crew by.0 × Contains crew a
IsOfCrew crew (Clear y d) = ⊤
IsOfCrew crew (LandsClear by y) = Contains crew by.0
IsOfCrew crew (Turns a y) = Contains crew a
IsOfCrew crew (Taken dir name) = ⊤
IsOfCrew crew (Creates by new) = Contains crew by.0
IsOfCrew crew (Drops by a k) = Contains crew by.0 × Contains crew a
IsOfCrew crew (Carries r a) = Contains crew a

-- the directories are watched that a veil of the crew is below, and those that another one can replace
pub record WatchesEnough (t : Tree) (table : CallTable) (crew : List ProcessState) (watched : ℕ → Bool) : Type 0 where
  pub plain : (d e : ℕ) (a : ProcessState) (perms : ℕ) → IsFalse (watched d) → Contains crew a → IsTrue (is_dir t e) →
      perms_kept a (place.Dir e) ≡ Some perms → e ≢ d → Can t table crew (NotAbove (Old d) (Old e))
  pub turned : (y : ℕ) (a : ProcessState) (perms : ℕ) → Contains crew a → perms_kept a (place.Dir y) ≡ Some perms →
      IsTrue (has_c (Only perms)) → IsTrue (watched y)

-- so these are: where a veil is below a directory, and where one with `c` is on it
abbrev pub watches_by : Tree → ℕ → (Place × ℕ) → Bool
watches_by t d (place.Slot dir name, perms) = false
watches_by t d (place.Dir e, perms) = if e == d then has_c (Only perms) else is_within t e d

abbrev pub watches : Tree → List ProcessState → ℕ → Bool
watches t crew d = list_any (λ a. list_any (watches_by t d) (veils a)) crew

module _ (t : Tree) (table : CallTable) (crew : List ProcessState) (watched : ℕ → Bool) (T : Kept → Type 0) where
  -- what follows at once from what is kept: a process can move a directory
  pub record Moves (a : ProcessState) (d : Seat) : Type 0 where
    pub among : Contains crew a
    pub cover : Cover
    pub covers : T (Covers a d cover)
    pub can : IsTrue (can_move table a cover)

  -- a directory can come to be neither another one nor above it, if that is asked
  abbrev pub IsClear : Seat → Seat → Type 0
  IsClear (Old y) d = IsTrue (watched y) → T (Clear y d)
  IsClear (Made maker) d = ⊤

  abbrev pub IsPlain : Seat → Type 0
  IsPlain (Old y) = IsFalse (watched y)
  IsPlain (Made maker) = ⊤

  -- a name can come to be free
  abbrev pub IsFreed : Seat → List ℕ → Type 0
  IsFreed (Old dir) name = (look t dir name ≡ None) ⊎ T (Taken dir name)
  IsFreed (Made maker) name = ⊤

  -- a cover can come over a name
  pub data IsOver (a : ProcessState) (d : Seat) (name : List ℕ) : Cover → Type 0 where
    over_own : {perms : ℕ} → IsTrue (is_standing t d) → name_veil a d name ≡ Some perms → IsOver a d name (Only perms)
    over_within : {k : Cover} → name_veil a d name ≡ None → T (Covers a d k) → IsOver a d name k

  -- a process can come to put what is no directory at a name
  pub record Puts (a : ProcessState) (d : Seat) (name : List ℕ) : Type 0 where
    pub cover : Cover
    pub over : IsOver a d name cover
    pub has : IsTrue (has_c cover)
    pub free : IsFreed d name

  -- a directory can come to stand in another, and what is no directory at a name
  pub data Sits : Seat → Seat → Type 0 where
    sits_now : {dir d : ℕ} (name : List ℕ) → look t dir name ≡ Some d → IsTrue (is_dir t d) → Sits (Old d) (Old dir)
    sits_moved : {d p : Seat} (a : ProcessState) → Moves a d → T (Enters a p) → IsClear d p → seat_device t d ≡ seat_device t p → Sits d p
    sits_born : {by : Hand} {p : Seat} → Contains crew by.0 → T (Creates by NewDir) → T (Enters by.0 p) → seat_device t p ≡ by.1 →
        Sits (Made by) p

  pub data Lies : Source → Seat → List ℕ → Type 0 where
    lies_now : {dir : ℕ} {name : List ℕ} (x : ℕ) → look t dir name ≡ Some x → IsFalse (is_dir t x) → Lies (Row (dir, name)) (Old dir) name
    lies_born : {by : Hand} {new : New} {p : Seat} {other : List ℕ} → Contains crew by.0 → T (Creates by new) → Puts by.0 p other →
        seat_device t p ≡ by.1 → Lies (Maker new by) p other
    lies_moved : {r : Source} {p : Seat} {other : List ℕ} (a : ProcessState) → Contains crew a → T (Carries r a) → Puts a p other →
        source_device t r ≡ seat_device t p → Lies r p other

  -- one more that follows
  pub data Follows : Kept → Type 0 where
    covers_own : {a : ProcessState} {d : Seat} {perms : ℕ} → IsTrue (is_standing t d) → own_veil a d ≡ Some perms →
        Follows (Covers a d (Only perms))
    covers_root : {a : ProcessState} → perms_kept a (place.Dir 0) ≡ None →
        Follows (Covers a (Old 0) (if has_veil a.veils then Nothing else All))
    covers_within : {a : ProcessState} {dir d : ℕ} {k : Cover} (name : List ℕ) → own_veil a (Old d) ≡ None → look t dir name ≡ Some d →
        IsTrue (is_dir t d) → T (Covers a (Old dir) k) → Follows (Covers a (Old d) k)
    covers_moved : {a : ProcessState} {d : Seat} {k : Cover} (b : ProcessState) → Contains crew a → own_veil a d ≡ None → IsPlain d →
        Moves b d → T (Lands (b, seat_device t d) a k) → Follows (Covers a d k)
    covers_apart : {a : ProcessState} {d : ℕ} {k : Cover} (b : ProcessState) (p : Seat) → own_veil a (Old d) ≡ None → IsTrue (watched d) →
        Moves b (Old d) → T (Enters b p) → T (Clear d p) → T (Covers a p k) → seat_device t p ≡ device t d → Follows (Covers a (Old d) k)
    covers_born : {a : ProcessState} {by : Hand} {k : Cover} → Contains crew by.0 → T (Creates by NewDir) → T (Lands by a k) →
        Follows (Covers a (Made by) k)
    lands_in : {a : ProcessState} {by : Hand} {k : Cover} (p : Seat) → seat_device t p ≡ by.1 → T (Enters by.0 p) → T (Covers a p k) →
        Follows (Lands by a k)
    clear_root : {y : ℕ} → IsTrue (watched y) → y ≢ 0 → Follows (Clear y (Old 0))
    clear_within : {y dir d : ℕ} (name : List ℕ) → IsTrue (watched y) → Old d ≢ Old y → look t dir name ≡ Some d → IsTrue (is_dir t d) →
        T (Clear y (Old dir)) → Follows (Clear y (Old d))
    clear_moved : {y : ℕ} {d : Seat} (b : ProcessState) → IsTrue (watched y) → d ≢ Old y → IsPlain d → Moves b d → T (LandsClear (b, seat_device t d) y) →
        Follows (Clear y d)
    clear_apart : {y d : ℕ} (b : ProcessState) (p : Seat) → IsTrue (watched y) → Old d ≢ Old y → IsTrue (watched d) → Moves b (Old d) →
        T (Enters b p) → T (Clear d p) → T (Clear y p) → seat_device t p ≡ device t d → Follows (Clear y (Old d))
    clear_born : {y : ℕ} {by : Hand} → IsTrue (watched y) → Contains crew by.0 → T (Creates by NewDir) → T (LandsClear by y) →
        Follows (Clear y (Made by))
    lands_clear : {by : Hand} {y : ℕ} (p : Seat) → IsTrue (watched y) → seat_device t p ≡ by.1 → T (Enters by.0 p) → T (Clear y p) →
        Follows (LandsClear by y)
    enters_by_c : {a : ProcessState} {d : Seat} (k : Cover) → T (Covers a d k) → IsTrue (has_c k) → Follows (Enters a d)
    enters_by_name : {a : ProcessState} {dir : ℕ} (name : List ℕ) → Puts a (Old dir) name → Follows (Enters a (Old dir))
    enters_by_turn : {a : ProcessState} {y dir : ℕ} (name : List ℕ) → IsTrue (watched y) → T (Turns a y) → look t dir name ≡ Some y → IsTrue (is_dir t y) →
        device t dir ≡ device t y → Follows (Enters a (Old dir))
    enters_by_moved : {a : ProcessState} {y : ℕ} {p : Seat} (b : ProcessState) → IsTrue (watched y) → T (Turns a y) → Moves b (Old y) →
        T (Enters b p) → T (Clear y p) → seat_device t p ≡ device t y → Follows (Enters a p)
    turns_by : {a : ProcessState} {y : ℕ} (perms : ℕ) (other : Seat) (k : Cover) → perms_kept a (place.Dir y) ≡ Some perms →
        IsTrue (has_c (Only perms)) → ((name : List ℕ) (x : ℕ) → look t y name ≡ Some x → IsFreed (Old y) name) → T (Covers a other k) →
        IsTrue (can_move table a k) → other ≢ Old y → T (Clear y other) → seat_device t other ≡ device t y →
        Follows (Turns a y)
    taken_dir : {dir : ℕ} {name : List ℕ} (a : ProcessState) (d : ℕ) (k : Cover) → Contains crew a → IsTrue (may_take table a) →
        look t dir name ≡ Some d → IsTrue (is_dir t d) → IsFalse (is_mount t d) → T (Covers a (Old d) k) → IsTrue (has_c k) → Follows (Taken dir name)
    taken_other : {dir : ℕ} {name : List ℕ} (a : ProcessState) (x : ℕ) (k : Cover) → Contains crew a → IsTrue (may_take table a) →
        look t dir name ≡ Some x → IsFalse (is_dir t x) → IsOver a (Old dir) name k → IsTrue (has_c k) → Follows (Taken dir name)
    creates_within : {by : Hand} {new : New} (d : Seat) (k : Cover) → seat_device t d ≡ by.1 → T (Covers by.0 d k) →
        IsTrue (makes_under table by.0 new k) → Follows (Creates by new)
    creates_at : {by : Hand} {new : New} (dir : ℕ) (name : List ℕ) (k : Cover) → device t dir ≡ by.1 → IsOver by.0 (Old dir) name k →
        IsFreed (Old dir) name → IsTrue (makes_under table by.0 new k) → Follows (Creates by new)
    drops_within : {a : ProcessState} {by : Hand} {k : Cover} (d : Seat) (j : Cover) → seat_device t d ≡ by.1 → T (Covers by.0 d j) →
        IsTrue (has_c j) → T (Covers a d k) → Follows (Drops by a k)
    drops_at : {a : ProcessState} {by : Hand} {k : Cover} (dir : ℕ) (name : List ℕ) → device t dir ≡ by.1 → Puts by.0 (Old dir) name →
        IsOver a (Old dir) name k → Follows (Drops by a k)
    carries_row : {a : ProcessState} {dir : ℕ} {name : List ℕ} (x : ℕ) (k : Cover) → Contains crew a → look t dir name ≡ Some x →
        IsFalse (is_dir t x) → IsOver a (Old dir) name k → IsTrue (can_carry t table (Row (dir, name)) a k) → Follows (Carries (Row (dir, name)) a)
    carries_born : {a : ProcessState} {by : Hand} {new : New} (k : Cover) → Contains crew a → Contains crew by.0 → T (Creates by new) →
        T (Drops by a k) → IsTrue (can_carry t table (Maker new by) a k) → Follows (Carries (Maker new by) a)
    carries_on : {a : ProcessState} {r : Source} (b : ProcessState) (k : Cover) → Contains crew a → Contains crew b → T (Carries r b) →
        T (Drops (b, source_device t r) a k) → IsTrue (can_carry t table r a k) → Follows (Carries r a)

  -- the facts that follow at once
  abbrev pub Tells : Fact → Type 0
  Tells (StandsIn d p) = Sits d p
  Tells (NotAbove y d) = IsClear y d
  Tells (DirCover a d k) = Contains crew a → T (Covers a d k)
  Tells (NameCover a d name k) = Contains crew a → IsOver a d name k
  Tells (Free d name) = IsFreed d name
  Tells (WayIn a d) = Contains crew a → T (Enters a d)
  Tells (Writes a d name) = Contains crew a → Puts a d name
  Tells (Makes by new) = Contains crew by.0 → T (Creates by new)
  Tells (StandsAt r d name) = Lies r d name
