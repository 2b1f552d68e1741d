-- What a crew can come to do, another one can each of whose processes has all that one of the first has: fact by fact.
use Rattle.std.proofs.Common.{◌≡◌, ◌≢◌, ℕ, List, refl, sym, ap, ◌∙◌, true}
use Rattle.std.specs.List.{Contains}
use Rattle.std.specs.Prelude.{Option, Some, None, IsTrue, if◌then◌else◌}
use Rattle.pua_tree.specs.Tree.{Tree, Spot, empty_tree}
use Rattle.pua_calls.specs.Calls.{CallTable}
use Rattle.pua_calls.specs.Promises.{holds}
use Rattle.pua_calls.specs.declared.call.Call.TheVariants as call
use Rattle.pua_policy.specs.States.{ProcessState, has_veil}
use Rattle.pua_policy.specs.Verdict.{Object, IsMissing, covered_verdict, is_allowed}
use Rattle.pua_policy.specs.declared.answer.Cover.{Cover}
use Rattle.pua_policy.specs.declared.answer.Cover.TheVariants.{All, Nothing, Only}
use Rattle.pua_policy.specs.declared.place.Place.{Place}
use Rattle.pua_policy.specs.declared.place.Place.TheVariants as place
use Rattle.pua_ever.specs.Ever.{New, NewFile, NewLink, NewSock, NewFifo, Thing, can_link, can_move}
use Rattle.pua_jointly.specs.Jointly.{Hand, Seat, Old, Made, Source, Row, Maker, Fact, StandsIn, NotAbove, DirCover, NameCover, Free, WayIn, Writes}
use Rattle.pua_jointly.specs.Jointly.{Makes, StandsAt, Can, stays_in, moved_in, born_in, not_above_root, not_above_up, not_above_made, dir_own}
use Rattle.pua_jointly.specs.Jointly.{dir_root, dir_within, name_own, name_within, free_none, free_made, free_dir, free_other, way_in_by_c}
use Rattle.pua_jointly.specs.Jointly.{way_in_by_name, way_in_by_turn, writes_at, makes_at, stays_at, moved_at, born_at, Shows, shows_dir}
use Rattle.pua_jointly.specs.Jointly.{shows_emptied, shows_others, shows_row, shows_name, shows_new_dir, shows_new_others, shows_new_file}
use Rattle.pua_jointly.specs.Jointly.{shows_new_link, shows_new_sock, shows_new_fifo, own_veil, name_veil, is_standing, kind_of_source, may_take}
use Rattle.pua_jointly.specs.Jointly.{seat_device, source_device}
use Rattle.pua_tight.specs.Narrower.{SetWithin, unset, within, VeilsWithin, no_veils, veils_too, StateWithin}
use Rattle.pua_tight.specs.JointLaws.{CrewWithin, HasOuter}
use Rattle.pua_tight.proofs.Sets.{or_more}
use Rattle.pua_tight.proofs.Within.{CoverWithin, all, nothing, only, kept_within}
use Rattle.pua_tight.proofs.Eases.{c_within, eases, allowed_more, linked_more, made_by_more, moves_more, yes_more}

-- what is given, and what is not
pub given_more : {p q : Option ℕ} → SetWithin p q → {a : ℕ} → p ≡ Some a → (b : ℕ) × (q ≡ Some b) × IsTrue (holds b a)
given_more unset e = cc
given_more (within {a = x} {b = b} less) {a = a} e = let same : x ≡ a = cc in (b, refl, ap (holds b) (sym same) ∙ less)

pub none_more : {p q : Option ℕ} → SetWithin p q → p ≡ None → q ≡ None
none_more unset e = refl
none_more (within less) e = cc

-- the first veil is on all or on nothing in both
root_within : {vs ws : List (Place × ℕ)} → VeilsWithin vs ws →
    CoverWithin (if has_veil vs then Nothing else All) (if has_veil ws then Nothing else All)
root_within no_veils = all
root_within (veils_too less rest) = nothing

-- a directory of the one crew's facts, and one of the other's: made on the same device by one that has all of who
-- made it
data SeatWithin (others : List ProcessState) : Seat → Seat → Type 0 where
  old : {dir : ℕ} → SeatWithin others (Old dir) (Old dir)
  made : {by : Hand} {b : ProcessState} → Contains others b → StateWithin by.0 b → SeatWithin others (Made by) (Made (b, by.1))

data SourceWithin (others : List ProcessState) : Source → Source → Type 0 where
  row : {spot : Spot} → SourceWithin others (Row spot) (Row spot)
  maker : {new : New} {by : Hand} {b : ProcessState} → Contains others b → StateWithin by.0 b →
      SourceWithin others (Maker new by) (Maker new (b, by.1))

record HasSeat (others : List ProcessState) (d : Seat) : Type 0 where
  other : Seat
  seat : SeatWithin others d other

record HasSource (others : List ProcessState) (r : Source) : Type 0 where
  other : Source
  source : SourceWithin others r other

-- a process that has all of another one
pub record HasWider (a : ProcessState) : Type 0 where
  pub outer : ProcessState
  pub within : StateWithin a outer

module _ (others : List ProcessState) where
  abbrev old_seat : (dir : ℕ) → HasSeat others (Old dir)
  old_seat dir = record { other = Old dir; seat = old }

  -- what holds where a directory of the beginning stands holds where its own stands, and so of one that is made
  at_old : (P : Seat → Type 0) {dir : ℕ} (at : HasSeat others (Old dir)) → P (Old dir) → P at.other
  at_old P {dir = dir} at here = by at.seat here
    where
      by : {e : Seat} → SeatWithin others (Old dir) e → P (Old dir) → P e
      by old here = here

  at_made : (P : Seat → Type 0) {hand : Hand} (at : HasSeat others (Made hand)) →
      ((one : HasOuter others hand.0) → P (Made (one.outer, hand.1))) → P at.other
  at_made P {hand = hand} at here = by at.seat here
    where
      by : {e : Seat} → SeatWithin others (Made hand) e → ((one : HasOuter others hand.0) → P (Made (one.outer, hand.1))) → P e
      by (made {b = b} among less) here = here (record { outer = b; among = among; within = less })

  from_row : (P : Source → Type 0) {spot : Spot} (from : HasSource others (Row spot)) → P (Row spot) → P from.other
  from_row P {spot = spot} from here = by from.source here
    where
      by : {s : Source} → SourceWithin others (Row spot) s → P (Row spot) → P s
      by row here = here

  from_maker : (P : Source → Type 0) {new : New} {hand : Hand} (from : HasSource others (Maker new hand)) →
      ((one : HasOuter others hand.0) → P (Maker new (one.outer, hand.1))) → P from.other
  from_maker P {new = new} {hand = hand} from here = by from.source here
    where
      by : {s : Source} → SourceWithin others (Maker new hand) s → ((one : HasOuter others hand.0) → P (Maker new (one.outer, hand.1))) → P s
      by (maker {b = b} among less) here = here (record { outer = b; among = among; within = less })

  apart : {d e : Seat} {y : ℕ} → SeatWithin others d e → d ≢ Old y → e ≢ Old y
  apart old other = other
  apart (made among less) other = λ same. cc

  own_more : {a b : ProcessState} {d e : Seat} → StateWithin a b → SeatWithin others d e → SetWithin (own_veil a d) (own_veil b e)
  own_more less (old {dir = dir}) = kept_within less.veils (place.Dir dir)
  own_more less (made among made_less) = unset

  name_more : {a b : ProcessState} {d e : Seat} → StateWithin a b → SeatWithin others d e → (name : List ℕ) →
      SetWithin (name_veil a d name) (name_veil b e name)
  name_more less (old {dir = dir}) name = kept_within less.veils (place.Slot dir name)
  name_more less (made among made_less) name = unset

  standing_more : (t : Tree) {d e : Seat} → SeatWithin others d e → IsTrue (is_standing t d) → IsTrue (is_standing t e)
  standing_more t old e = e
  standing_more t (made among less) e = refl

  kind_alike : (t : Tree) (table : CallTable) {r s : Source} → SourceWithin others r s →
      kind_of_source t table r ≡ kind_of_source t table s
  kind_alike t table row = refl
  kind_alike t table (maker among less) = refl

  -- it is on the same device
  seat_alike : (t : Tree) {d e : Seat} → SeatWithin others d e → seat_device t d ≡ seat_device t e
  seat_alike t old = refl
  seat_alike t (made among less) = refl

  source_alike : (t : Tree) {r s : Source} → SourceWithin others r s → source_device t r ≡ source_device t s
  source_alike t row = refl
  source_alike t (maker among less) = refl

  maker_of : {hand : Hand} {e : Seat} → SeatWithin others (Made hand) e → HasOuter others hand.0
  maker_of (made {b = b} among less) = record { outer = b; among = among; within = less }

  source_maker_of : {new : New} {hand : Hand} {s : Source} → SourceWithin others (Maker new hand) s → HasOuter others hand.0
  source_maker_of (maker {b = b} among less) = record { outer = b; among = among; within = less }

  abbrev made_by : (hand : Hand) → HasOuter others hand.0 → HasSeat others (Made hand)
  made_by hand one = record { other = Made (one.outer, hand.1); seat = made one.among one.within }

  abbrev source_by : (new : New) (hand : Hand) → HasOuter others hand.0 → HasSource others (Maker new hand)
  source_by new hand one = record { other = Maker new (one.outer, hand.1); source = maker one.among one.within }

  abbrev row_source : (spot : Spot) → HasSource others (Row spot)
  row_source spot = record { other = Row spot; source = row }

  abbrev wide : {a : ProcessState} → HasOuter others a → HasWider a
  wide one = record { outer = one.outer; within = one.within }

takes_more : (table : CallTable) (h k : ProcessState) → StateWithin h k → may_take table h ≡ true → may_take table k ≡ true
takes_more table h k less e =
    let w = eases table h k less in
    or_more _ _ _ _ (yes_more _ _ w.rename_new)
    (or_more _ _ _ _ (yes_more _ _ (w.calls call.Rmdir)) (yes_more _ _ (w.calls call.Unlink))) e

module _ (t : Tree) (table : CallTable) (crew others : List ProcessState) (each : CrewWithin crew others) where
  -- whoever made a directory or something else of which there is a fact has its counterpart
  abbrev Seated : Fact → Type 0
  Seated (StandsIn d p) = HasSeat others d × HasSeat others p
  Seated (NotAbove d p) = Unit {0}
  Seated (DirCover a d k) = HasSeat others d
  Seated (NameCover a d name k) = HasSeat others d
  Seated (Free d name) = Unit {0}
  Seated (WayIn a d) = HasSeat others d
  Seated (Writes a d name) = HasSeat others d
  Seated (Makes by new) = Unit {0}
  Seated (StandsAt r d name) = HasSource others r × HasSeat others d

  veiled_seat : (a : ProcessState) (d : Seat) {perms : ℕ} → own_veil a d ≡ Some perms → HasSeat others d
  veiled_seat a (Old dir) e = old_seat others dir
  veiled_seat a (Made m) e = cc

  named_seat : (a : ProcessState) (d : Seat) (name : List ℕ) {perms : ℕ} → name_veil a d name ≡ Some perms → HasSeat others d
  named_seat a (Old dir) name e = old_seat others dir
  named_seat a (Made m) name e = cc

  seated : {fact : Fact} → Can t table crew fact → Seated fact
  seated (stays_in {dir = dir} {d = d} name h1 h2) = (old_seat others d, old_seat others dir)
  seated (moved_in a k h1 h2 h3 h4 h5 h6) = (seated h2, seated h4)
  seated (born_in {by = by} h1 h2 h3 h4) = (made_by others by (each by.0 h1), seated h3)
  seated (not_above_root h1) = tt
  seated (not_above_up p h1 h2 h3) = tt
  seated not_above_made = tt
  seated (dir_own {a = a} {d = d} h1 h2) = veiled_seat a d h2
  seated (dir_root h1) = old_seat others 0
  seated (dir_within p h1 h2 h3) = (seated h2).0
  seated (name_own {a = a} {d = d} {name = name} h1 h2) = named_seat a d name h2
  seated (name_within h1 h2) = seated h2
  seated (free_none h1) = tt
  seated free_made = tt
  seated (free_dir a d k h1 h2 h3 h4 none h5 h6) = tt
  seated (free_other a x k h1 h2 h3 h4 h5 h6) = tt
  seated (way_in_by_c k h1 h2) = seated h1
  seated (way_in_by_name {a = a} {d = d} name perms h1 h2 h3 h4) = named_seat a d name h2
  seated (way_in_by_turn y perms other k h1 h2 h3 h4 h5 h6 h7 h8 h9 h10) = (seated h1).1
  seated (writes_at k h1 h2 h3) = seated h1
  seated (makes_at d name k h1 h2 h3 h4) = tt
  seated (stays_at {dir = dir} {name = name} x h1 h2) = (row_source others (dir, name), old_seat others dir)
  seated (moved_at a d name k h1 h2 h3 h4 h5 h6) = ((seated h2).0, seated h5)
  seated (born_at {by = by} {new = new} h1 h2 h3 h4) = (source_by others new by (each by.0 h1), seated h3)

  -- a fact under some cover that has its letters
  record IsUnder (fact : Cover → Fact) (k : Cover) : Type 0 where
    cover : Cover
    wider : CoverWithin k cover
    can : Can t table others (fact cover)

  -- what is so by the other crew's facts, of each that has all of a process
  abbrev Too : Fact → Type 0
  Too (StandsIn d p) = (at : HasSeat others d) (into : HasSeat others p) → Can t table others (StandsIn at.other into.other)
  Too (NotAbove d p) = (at : HasSeat others d) (into : HasSeat others p) → Can t table others (NotAbove at.other into.other)
  Too (DirCover a d k) = (one : HasWider a) (at : HasSeat others d) → IsUnder (DirCover one.outer at.other) k
  Too (NameCover a d name k) = (one : HasWider a) (at : HasSeat others d) → IsUnder (NameCover one.outer at.other name) k
  Too (Free d name) = (at : HasSeat others d) → Can t table others (Free at.other name)
  Too (WayIn a d) = (one : HasWider a) (at : HasSeat others d) → Can t table others (WayIn one.outer at.other)
  Too (Writes a d name) = (one : HasWider a) (at : HasSeat others d) → Can t table others (Writes one.outer at.other name)
  Too (Makes by new) = (one : HasWider by.0) → Can t table others (Makes (one.outer, by.1) new)
  Too (StandsAt r d name) = (from : HasSource others r) (at : HasSeat others d) → Can t table others (StandsAt from.other at.other name)

  too : {fact : Fact} → Can t table crew fact → Too fact
  too (stays_in {d = d} name h1 h2) = λ at into.
      at_old others (λ e. Can t table others (StandsIn e into.other)) at
      (at_old others (λ e. Can t table others (StandsIn (Old d) e)) into (stays_in name h1 h2))
  too (moved_in a k h1 h2 h3 h4 h5 h6) = λ at into.
      let one = each a h1 in
      let over = too h2 (wide others one) at in
      moved_in one.outer over.cover one.among over.can (moves_more table a one.outer (eases table a one.outer one.within) over.wider h3)
      (too h4 (wide others one) into) (too h5 at into) (sym (seat_alike others t at.seat) ∙ h6 ∙ seat_alike others t into.seat)
  too (born_in h1 h2 h3 h4) = λ at into.
      at_made others (λ e. Can t table others (StandsIn e into.other)) at
      (λ one. born_in one.among (too h2 (wide others one)) (too h3 (wide others one) into) (sym (seat_alike others t into.seat) ∙ h4))
  too (not_above_root {y = y} h1) = λ at into.
      at_old others (λ e. Can t table others (NotAbove e into.other)) at
      (at_old others (λ e. Can t table others (NotAbove (Old y) e)) into (not_above_root h1))
  too (not_above_up {y = y} p h1 h2 h3) = λ at into.
      let up = (seated h2).1 in
      at_old others (λ e. Can t table others (NotAbove e into.other)) at
      (not_above_up up.other (apart others into.seat h1) (too h2 into up) (too h3 (old_seat others y) up))
  too not_above_made = λ at into. at_made others (λ e. Can t table others (NotAbove e into.other)) at (λ one. not_above_made)
  too (dir_own h1 h2) = λ one at.
      let there = given_more (own_more others one.within at.seat) h2 in
      record { cover = Only there.0; wider = only there.2; can = dir_own (standing_more others t at.seat h1) there.1 }
  too (dir_root {a = a} h1) = λ one at.
      at_old others (λ e. IsUnder (DirCover one.outer e) (if has_veil a.veils then Nothing else All)) at (record {
        cover = if has_veil one.outer.veils then Nothing else All;
        wider = root_within one.within.veils;
        can = dir_root (none_more (kept_within one.within.veils (place.Dir 0)) h1);
      })
  too (dir_within p h1 h2 h3) = λ one at.
      let up = (seated h2).1 in
      let over = too h3 one up in
      record {
        cover = over.cover;
        wider = over.wider;
        can = dir_within up.other (none_more (own_more others one.within at.seat) h1) (too h2 at up) over.can;
      }
  too (name_own {name = name} h1 h2) = λ one at.
      let there = given_more (name_more others one.within at.seat name) h2 in
      record { cover = Only there.0; wider = only there.2; can = name_own (standing_more others t at.seat h1) there.1 }
  too (name_within {name = name} h1 h2) = λ one at.
      let over = too h2 one at in
      record {
        cover = over.cover;
        wider = over.wider;
        can = name_within (none_more (name_more others one.within at.seat name) h1) over.can;
      }
  too (free_none {name = name} h1) = λ at. at_old others (λ e. Can t table others (Free e name)) at (free_none h1)
  too (free_made {name = name}) = λ at. at_made others (λ e. Can t table others (Free e name)) at (λ one. free_made)
  too (free_dir {name = name} a d k h1 h2 h3 h4 none h5 h6) = λ at.
      let one = each a h1 in
      let over = too h5 (wide others one) (old_seat others d) in
      at_old others (λ e. Can t table others (Free e name)) at
      (free_dir one.outer d over.cover one.among (takes_more table a one.outer one.within h2) h3 h4 none over.can (c_within over.wider h6))
  too (free_other {dir = dir} {name = name} a x k h1 h2 h3 h4 h5 h6) = λ at.
      let one = each a h1 in
      let over = too h5 (wide others one) (old_seat others dir) in
      at_old others (λ e. Can t table others (Free e name)) at
      (free_other one.outer x over.cover one.among (takes_more table a one.outer one.within h2) h3 h4 over.can (c_within over.wider h6))
  too (way_in_by_c k h1 h2) = λ one at. let over = too h1 one at in way_in_by_c over.cover over.can (c_within over.wider h2)
  too (way_in_by_name name perms h1 h2 h3 h4) = λ one at.
      let there = given_more (name_more others one.within at.seat name) h2 in
      way_in_by_name name there.0 (standing_more others t at.seat h1) there.1 (c_within (only there.2) h3) (too h4 at)
  too (way_in_by_turn {a = a} y perms other k h1 h2 h3 h4 h5 h6 h7 h8 h9 h10) = λ one at.
      let there = given_more (kept_within one.within.veils (place.Dir y)) h2 in
      let from = seated h5 in
      let over = too h5 one from in
      let here = old_seat others y in
      way_in_by_turn y there.0 from.other over.cover (too h1 here at) there.1 (c_within (only there.2) h3)
      (λ name x lies. too (h4 name x lies) here) over.can (moves_more table a one.outer (eases table a one.outer one.within) over.wider h6)
      (apart others from.seat h7) (too h8 here from) (sym (seat_alike others t at.seat) ∙ h9) (sym (seat_alike others t from.seat) ∙ h10)
  too (writes_at k h1 h2 h3) = λ one at.
      let over = too h1 one at in writes_at over.cover over.can (c_within over.wider h2) (too h3 at)
  too (makes_at {by = by} {new = new} d name k h1 h2 h3 h4) = λ one.
      let up = seated h1 in
      let over = too h1 one up in
      makes_at up.other name over.cover over.can (too h2 up) (made_by_more
      (λ c. is_allowed (covered_verdict empty_tree table by.0 c k IsMissing))
      (λ c. is_allowed (covered_verdict empty_tree table one.outer c over.cover IsMissing))
      (λ c. allowed_more table by.0 one.outer (eases table by.0 one.outer one.within) over.wider IsMissing c) new h3)
      (sym (seat_alike others t up.seat) ∙ h4)
  too (stays_at {dir = dir} {name = name} x h1 h2) = λ from at.
      from_row others (λ r. Can t table others (StandsAt r at.other name)) from
      (at_old others (λ e. Can t table others (StandsAt (Row (dir, name)) e name)) at (stays_at x h1 h2))
  too (moved_at {r = r} a d name k h1 h2 h3 h4 h5 h6) = λ from at.
      let one = each a h1 in
      let w = eases table a one.outer one.within in
      let up = (seated h2).1 in
      let over = too h3 (wide others one) up in
      moved_at one.outer up.other name over.cover one.among (too h2 from up) over.can
      (or_more (can_move table a k) (can_link table a (kind_of_source t table r) k) (can_move table one.outer over.cover)
      (can_link table one.outer (kind_of_source t table from.other) over.cover) (moves_more table a one.outer w over.wider)
      (λ link. ap (λ kind. can_link table one.outer kind over.cover) (sym (kind_alike others t table from.source))
      ∙ linked_more table a one.outer w (kind_of_source t table r) over.wider link) h4)
      (too h5 (wide others one) at) (sym (source_alike others t from.source) ∙ h6 ∙ seat_alike others t at.seat)
  too (born_at {new = new} {name = name} h1 h2 h3 h4) = λ from at.
      from_maker others (λ r. Can t table others (StandsAt r at.other name)) from
      (λ one. born_at one.among (too h2 (wide others one)) (too h3 (wide others one) at) (sym (seat_alike others t at.seat) ∙ h4))

  -- where a thing can come under a cover
  pub record ShowsUnder (b : ProcessState) (thing : Thing) (k : Cover) (o : Object) : Type 0 where
    pub cover : Cover
    pub wider : CoverWithin k cover
    pub shows : Shows t table others b thing cover o

  pub shows_too : {a : ProcessState} (b : ProcessState) → StateWithin a b → {thing : Thing} {k : Cover} {o : Object} →
      Shows t table crew a thing k o → ShowsUnder b thing k o
  shows_too b less (shows_dir {d = d} can) =
      let over = too can (record { outer = b; within = less }) (old_seat others d) in
      record { cover = over.cover; wider = over.wider; shows = shows_dir over.can }
  shows_too b less (shows_emptied {d = d} other none can free) =
      let here = old_seat others d in
      let over = too can (record { outer = b; within = less }) here in
      record { cover = over.cover; wider = over.wider; shows = shows_emptied other none over.can (λ name x lies. too (free name x lies) here) }
  shows_too b less (shows_others {d = d} can) =
      let over = too can (record { outer = b; within = less }) (old_seat others d) in
      record { cover = over.cover; wider = over.wider; shows = shows_others over.can }
  shows_too b less (shows_row {dir = dir} {name = name} d other here lies covered) =
      let at = (seated lies).1 in
      let over = too covered (record { outer = b; within = less }) at in
      record {
        cover = over.cover;
        wider = over.wider;
        shows = shows_row at.other other here (too lies (row_source others (dir, name)) at) over.can;
      }
  shows_too b less (shows_name {d = d} {name = name} is own free) =
      let there = given_more (kept_within less.veils (place.Slot d name)) own in
      record { cover = Only there.0; wider = only there.2; shows = shows_name is there.1 (too free (old_seat others d)) }
  shows_too b less (shows_new_dir m can) =
      let one = maker_of others (seated can).seat in
      let over = too can (record { outer = b; within = less }) (made_by others m one) in
      record { cover = over.cover; wider = over.wider; shows = shows_new_dir (one.outer, m.1) over.can }
  shows_too b less (shows_new_others m can) =
      let one = maker_of others (seated can).seat in
      let over = too can (record { outer = b; within = less }) (made_by others m one) in
      record { cover = over.cover; wider = over.wider; shows = shows_new_others (one.outer, m.1) over.can }
  shows_too b less (shows_new_file m d name lies covered) =
      let one = source_maker_of others (seated lies).0.source in
      let at = (seated lies).1 in
      let over = too covered (record { outer = b; within = less }) at in
      record {
        cover = over.cover;
        wider = over.wider;
        shows = shows_new_file (one.outer, m.1) at.other name (too lies (source_by others NewFile m one) at) over.can;
      }
  shows_too b less (shows_new_link m d name lies covered) =
      let one = source_maker_of others (seated lies).0.source in
      let at = (seated lies).1 in
      let over = too covered (record { outer = b; within = less }) at in
      record {
        cover = over.cover;
        wider = over.wider;
        shows = shows_new_link (one.outer, m.1) at.other name (too lies (source_by others NewLink m one) at) over.can;
      }
  shows_too b less (shows_new_sock m d name lies covered) =
      let one = source_maker_of others (seated lies).0.source in
      let at = (seated lies).1 in
      let over = too covered (record { outer = b; within = less }) at in
      record {
        cover = over.cover;
        wider = over.wider;
        shows = shows_new_sock (one.outer, m.1) at.other name (too lies (source_by others NewSock m one) at) over.can;
      }
  shows_too b less (shows_new_fifo m d name lies covered) =
      let one = source_maker_of others (seated lies).0.source in
      let at = (seated lies).1 in
      let over = too covered (record { outer = b; within = less }) at in
      record {
        cover = over.cover;
        wider = over.wider;
        shows = shows_new_fifo (one.outer, m.1) at.other name (too lies (source_by others NewFifo m one) at) over.can;
      }
