-- What is closed under the rules of what can come has all of it: so facts that are gathered are all of them, once nothing more follows.
use Rattle.std.specs.Prelude.{◌≡◌, ◌≢◌, ◌||◌, ℕ, if◌then◌else◌, List, Some, None, IsTrue, IsFalse}
use Rattle.std.specs.List.{Contains}
use Rattle.pua_tree.specs.Tree.{Tree, device, is_dir, is_mount, look, empty_tree}
use Rattle.pua_calls.specs.Calls.{CallTable}
use Rattle.pua_policy.specs.States.{ProcessState, has_veil, perms_kept}
use Rattle.pua_policy.specs.Verdict.{IsMissing, covered_verdict, is_allowed}
use Rattle.pua_policy.specs.declared.answer.Cover.{Cover}
use Rattle.pua_policy.specs.declared.answer.Cover.TheVariants.{All, Nothing, Only}
use Rattle.pua_policy.specs.declared.place.Place.TheVariants as place
use Rattle.pua_script.specs.Confinement.{has_c}
use Rattle.pua_ever.specs.Ever.{New, NewDir, is_made_by, can_move, can_link}
use Rattle.pua_jointly.specs.Jointly.{Hand, seat_device, source_device, Seat, Old, Made, Source, Row, Maker, Fact, StandsIn, NotAbove, DirCover, NameCover, Free, WayIn, Writes}
use Rattle.pua_jointly.specs.Jointly.{Makes, StandsAt, may_take, is_standing, own_veil, name_veil, kind_of_source, Can, stays_in, moved_in, born_in}
use Rattle.pua_jointly.specs.Jointly.{not_above_root, not_above_up, not_above_made, dir_own, dir_root, dir_within, name_own, name_within}
use Rattle.pua_jointly.specs.Jointly.{free_none, free_made, free_dir, free_other, way_in_by_c, way_in_by_name, way_in_by_turn, writes_at}
use Rattle.pua_jointly.specs.Jointly.{makes_at, stays_at, moved_at, born_at}

pub record Closed (t : Tree) (table : CallTable) (crew : List ProcessState) (P : Fact → Type 0) : Type 0 where
  pub stays_in : {dir d : ℕ} (name : List ℕ) → look t dir name ≡ Some d → IsTrue (is_dir t d) → P (StandsIn (Old d) (Old dir))
  pub moved_in : {d p : Seat} (a : ProcessState) (k : Cover) → Contains crew a → P (DirCover a d k) → IsTrue (can_move table a k) →
      P (WayIn a p) → P (NotAbove d p) → seat_device t d ≡ seat_device t p → P (StandsIn d p)
  pub born_in : {by : Hand} {p : Seat} → Contains crew by.0 → P (Makes by NewDir) → P (WayIn by.0 p) → seat_device t p ≡ by.1 →
      P (StandsIn (Made by) p)
  pub not_above_root : {y : ℕ} → y ≢ 0 → P (NotAbove (Old y) (Old 0))
  pub not_above_up : {y : ℕ} {d : Seat} (p : Seat) → d ≢ Old y → P (StandsIn d p) → P (NotAbove (Old y) p) →
      P (NotAbove (Old y) d)
  pub not_above_made : {maker : Hand} {d : Seat} → P (NotAbove (Made maker) d)
  pub dir_own : {a : ProcessState} {d : Seat} {perms : ℕ} → IsTrue (is_standing t d) → own_veil a d ≡ Some perms → P (DirCover a d (Only perms))
  pub dir_root : {a : ProcessState} → perms_kept a (place.Dir 0) ≡ None →
      P (DirCover a (Old 0) (if has_veil a.veils then Nothing else All))
  pub dir_within : {a : ProcessState} {d : Seat} {k : Cover} (p : Seat) → own_veil a d ≡ None → P (StandsIn d p) →
      P (DirCover a p k) → P (DirCover a d k)
  pub name_own : {a : ProcessState} {d : Seat} {name : List ℕ} {perms : ℕ} → IsTrue (is_standing t d) → name_veil a d name ≡ Some perms →
      P (NameCover a d name (Only perms))
  pub name_within : {a : ProcessState} {d : Seat} {name : List ℕ} {k : Cover} → name_veil a d name ≡ None → P (DirCover a d k) →
      P (NameCover a d name k)
  pub free_none : {dir : ℕ} {name : List ℕ} → look t dir name ≡ None → P (Free (Old dir) name)
  pub free_made : {maker : Hand} {name : List ℕ} → P (Free (Made maker) name)
  pub free_dir : {dir : ℕ} {name : List ℕ} (a : ProcessState) (d : ℕ) (k : Cover) → Contains crew a → IsTrue (may_take table a) →
      look t dir name ≡ Some d → IsTrue (is_dir t d) → IsFalse (is_mount t d) → P (DirCover a (Old d) k) → IsTrue (has_c k) →
      P (Free (Old dir) name)
  pub free_other : {dir : ℕ} {name : List ℕ} (a : ProcessState) (x : ℕ) (k : Cover) → Contains crew a → IsTrue (may_take table a) →
      look t dir name ≡ Some x → IsFalse (is_dir t x) → P (NameCover a (Old dir) name k) → IsTrue (has_c k) →
      P (Free (Old dir) name)
  pub way_in_by_c : {a : ProcessState} {d : Seat} (k : Cover) → P (DirCover a d k) → IsTrue (has_c k) → P (WayIn a d)
  pub way_in_by_name : {a : ProcessState} {d : Seat} (name : List ℕ) (perms : ℕ) → IsTrue (is_standing t d) → name_veil a d name ≡ Some perms →
      IsTrue (has_c (Only perms)) → P (Free d name) → P (WayIn a d)
  pub way_in_by_turn : {a : ProcessState} {d : Seat} (y perms : ℕ) (other : Seat) (k : Cover) → P (StandsIn (Old y) d) →
      perms_kept a (place.Dir y) ≡ Some perms → IsTrue (has_c (Only perms)) →
      ((name : List ℕ) (x : ℕ) → look t y name ≡ Some x → P (Free (Old y) name)) →
      P (DirCover a other k) → IsTrue (can_move table a k) → other ≢ Old y → P (NotAbove (Old y) other) →
      seat_device t d ≡ device t y → seat_device t other ≡ device t y → P (WayIn a d)
  pub writes_at : {a : ProcessState} {d : Seat} {name : List ℕ} (k : Cover) → P (NameCover a d name k) → IsTrue (has_c k) →
      P (Free d name) → P (Writes a d name)
  pub makes_at : {by : Hand} {new : New} (d : Seat) (name : List ℕ) (k : Cover) → P (NameCover by.0 d name k) →
      P (Free d name) →
      IsTrue (is_made_by (λ maker. is_allowed (covered_verdict empty_tree table by.0 maker k IsMissing)) new) →
      seat_device t d ≡ by.1 → P (Makes by new)
  pub stays_at : {dir : ℕ} {name : List ℕ} (x : ℕ) → look t dir name ≡ Some x → IsFalse (is_dir t x) →
      P (StandsAt (Row (dir, name)) (Old dir) name)
  pub moved_at : {r : Source} {p : Seat} {other : List ℕ} (a : ProcessState) (d : Seat) (name : List ℕ) (k : Cover) → Contains crew a →
      P (StandsAt r d name) → P (NameCover a d name k) →
      IsTrue (can_move table a k || can_link table a (kind_of_source t table r) k) → P (Writes a p other) →
      source_device t r ≡ seat_device t p → P (StandsAt r p other)
  pub born_at : {by : Hand} {new : New} {d : Seat} {name : List ℕ} → Contains crew by.0 → P (Makes by new) →
      P (Writes by.0 d name) → seat_device t d ≡ by.1 → P (StandsAt (Maker new by) d name)

module _ (t : Tree) (table : CallTable) (crew : List ProcessState) (P : Fact → Type 0) (closed : Closed t table crew P) where
  pub least : {fact : Fact} → Can t table crew fact → P fact
  least (stays_in name h1 h2) = closed.stays_in name h1 h2
  least (moved_in a k h1 h2 h3 h4 h5 h6) = closed.moved_in a k h1 (least h2) h3 (least h4) (least h5) h6
  least (born_in h1 h2 h3 h4) = closed.born_in h1 (least h2) (least h3) h4
  least (not_above_root h1) = closed.not_above_root h1
  least (not_above_up p h1 h2 h3) = closed.not_above_up p h1 (least h2) (least h3)
  least (not_above_made) = closed.not_above_made
  least (dir_own h1 h2) = closed.dir_own h1 h2
  least (dir_root h1) = closed.dir_root h1
  least (dir_within p h1 h2 h3) = closed.dir_within p h1 (least h2) (least h3)
  least (name_own h1 h2) = closed.name_own h1 h2
  least (name_within h1 h2) = closed.name_within h1 (least h2)
  least (free_none h1) = closed.free_none h1
  least (free_made) = closed.free_made
  least (free_dir a d k h1 h2 h3 h4 none h5 h6) = closed.free_dir a d k h1 h2 h3 h4 none (least h5) h6
  least (free_other a x k h1 h2 h3 h4 h5 h6) = closed.free_other a x k h1 h2 h3 h4 (least h5) h6
  least (way_in_by_c k h1 h2) = closed.way_in_by_c k (least h1) h2
  least (way_in_by_name name perms h1 h2 h3 h4) = closed.way_in_by_name name perms h1 h2 h3 (least h4)
  least (way_in_by_turn y perms other k h1 h2 h3 h4 h5 h6 h7 h8 h9 h10) =
      closed.way_in_by_turn y perms other k (least h1) h2 h3 (λ name x at. least (h4 name x at)) (least h5) h6 h7 (least h8) h9 h10
  least (writes_at k h1 h2 h3) = closed.writes_at k (least h1) h2 (least h3)
  least (makes_at d name k h1 h2 h3 h4) = closed.makes_at d name k (least h1) (least h2) h3 h4
  least (stays_at x h1 h2) = closed.stays_at x h1 h2
  least (moved_at a d name k h1 h2 h3 h4 h5 h6) = closed.moved_at a d name k h1 (least h2) (least h3) h4 (least h5) h6
  least (born_at h1 h2 h3 h4) = closed.born_at h1 (least h2) (least h3) h4
