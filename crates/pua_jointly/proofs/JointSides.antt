-- What is gathered of each device is what its rows are worked out by.
use Rattle.pua_jointly.proofs.Common.{◌≡◌, ◌<◌, ◌≤◌, ◌⊎◌, ◌∙◌, ◌&&◌, ◌∷◌, ◌++◌, [], ℕ, zero, suc, Bool, true, false, List, length, map, refl, sym, ap, subst}
use Rattle.pua_jointly.proofs.Common.{inl, inr, arith, Option, Some, None, same_Some, None≢Some, option_map, false≢true, eqb-true, eq-eqb, and_from, and_parts}
use Rattle.pua_jointly.proofs.Common.{Among, among_contained, contained, map_among, ProcessState, Tree, WellFormed, CallTable, Spot, perms_kept, look, is_dir}
use Rattle.pua_jointly.proofs.Common.{can_move}
use Rattle.std.specs.Prelude.{slice_get, ◌+◌, ◌-◌, ◌*◌, filter, nat_le, nat_lt, if◌then◌else◌, IsTrue}
use Rattle.std.specs.List.{Contains, find}
use Rattle.std.proofs.lemmas.Bool.{cases_lt, leb-true, le-leb, ltb-true, lt-ltb}
use Rattle.std.proofs.lemmas.List.{length-append, length-map}
use Rattle.std.proofs.lemmas.Option.{slice_get-map, slice_get_within}
use Rattle.std.proofs.Math.Nat.{suc-mul}
use Rattle.pua_tree.specs.Tree.{device}
use Rattle.pua_policy.specs.declared.place.Place.TheVariants as place
use Rattle.pua_objects.proofs.ForCallers.{among_filter, filter_among}
use Rattle.pua_jointly.specs.Jointly.{Hand}
use Rattle.pua_jointly.specs.JointMembers.{Each}
use Rattle.pua_jointly.specs.JointPlace.{Once}
use Rattle.pua_jointly.specs.JointSetting.{AreDevices}
use Rattle.pua_jointly.specs.JointSetup.{AreEntries, AreMarks, IsOn, IsRowOf, IsSeatOn, IsSide, HasSide, crew_told, devices_told, dirs_of, device_side, dir_side}
use Rattle.pua_jointly.specs.JointSetup.{entry_side, hand_side, hands_told, has_hand, is_of_device, made_on, old_on, side_of, spots_told}
use Rattle.pua_jointly.specs.JointShape.{entity_of}
use Rattle.pua_jointly.specs.JointSides.{IsPart, IsPartOn, is_on_device, is_seat_on, is_there}
use Rattle.pua_jointly.specs.JointTable.{Entity, DirAt, MadeBy, LandingOf, DropsOf, NameAt, entities, hands_of, numbers}
use Rattle.pua_jointly.specs.JointWords.{AreCovers, AreMovers, IsAgent, IsMover}
use Rattle.pua_jointly.specs.declared.agent.Agent.{Agent}
use Rattle.pua_jointly.specs.declared.crew.Crew.{Crew}
use Rattle.pua_jointly.specs.declared.crew.Entry.{Entry}
use Rattle.pua_jointly.specs.declared.crew.Mark.{Mark}
use Rattle.pua_jointly.specs.declared.crew.Side.{Side}
use Rattle.pua_jointly.specs.declared.crew.Watch.{Watch}
use Rattle.pua_jointly.specs.declared.mover.Mover.{Mover}
use Rattle.pua_jointly.specs.declared.parts.Parts.{Parts}
use Rattle.pua_jointly.specs.declared.shape.Row.{Row}
use Rattle.pua_jointly.specs.declared.shape.Row.TheVariants as rows
use Rattle.pua_jointly.proofs.Common.{take}
use Rattle.std.specs.Prelude.{slice_index_or}
use Rattle.pua_jointly.proofs.JointMembers.{no_more, taken_more}
use Rattle.pua_jointly.proofs.JointPlaced.{among_got, among_numbers, got_among}
use Rattle.pua_jointly.proofs.JointRows.{left, right}
use Rattle.pua_jointly.proofs.JointWords.{got_at}
use Rattle.pua_jointly.proofs.Once.{mapped, side as joined}

pub map_same : (xs : List ℕ) → map (λ (x : ℕ). x) xs ≡ xs
map_same [] = refl
map_same (x ∷ xs) = ap (λ ys. x ∷ ys) (map_same xs)

-- what is gone through, and passes
filter_step : {X : Type 0} (p : X → Bool) (x : X) (end : List X) → filter p (x ∷ []) ≡ end → (xs : List X) →
    filter p (xs ++ x ∷ []) ≡ filter p xs ++ end
filter_step p x end e [] = e
filter_step p x end e (y ∷ ys) = by (p y) (filter_step p x end e ys)
  where
    by : (b : Bool) → filter p (ys ++ x ∷ []) ≡ filter p ys ++ end →
        (if b then y ∷ filter p (ys ++ x ∷ []) else filter p (ys ++ x ∷ [])) ≡ (if b then y ∷ filter p ys else filter p ys) ++ end
    by true rest = ap (λ zs. y ∷ zs) rest
    by false rest = rest

module _ {X : Type 0} (p : X → Bool) (xs : List X) (i : ℕ) (x : X) (low : i < length xs) (is : x ≡ slice_index_or xs i x) where
  pub kept_more : p x ≡ true → filter p (take (i + 1) xs) ≡ filter p (take i xs) ++ x ∷ []
  kept_more e = ap (filter p) (taken_more xs i x low is) ∙ filter_step p x (x ∷ []) (ap (λ b. if b then x ∷ [] else []) e) (take i xs)

  pub kept_still : p x ≡ false → filter p (take (i + 1) xs) ≡ filter p (take i xs)
  kept_still e =
      ap (filter p) (taken_more xs i x low is) ∙ filter_step p x [] (ap (λ b. if b then x ∷ [] else []) e) (take i xs) ∙ no_more (filter p (take i xs))

-- what is at the place that was reached
pub slice_at : {X : Type 0} (xs : List X) (i : ℕ) (x : X) → i < length xs → x ≡ slice_index_or xs i x → slice_get xs i ≡ Some x
slice_at [] i x low is = absurd (omega (arith, low))
slice_at (y ∷ xs) zero x low is = ap Some (sym is)
slice_at (y ∷ xs) (suc i) x low is = slice_at xs i x (omega (arith, low)) is

-- the devices of so many directories, and of one more
pub devices_more : (t : Tree) (n : ℕ) (xs : List ℕ) (x : ℕ) → AreDevices t n xs → x ≡ device t n → AreDevices t (n + 1) (xs ++ x ∷ [])
devices_more t n xs x so_far here = record {
  each = λ d low. by d (cases_lt d n) low;
  full = let more = length-append xs (x ∷ []) in let full = so_far.full in omega (arith, more, full);
}
  where
    by : (d : ℕ) → (d < n) ⊎ (n ≤ d) → d < n + 1 → slice_get (xs ++ x ∷ []) d ≡ Some (device t d)
    by d (inl less) low = let full = so_far.full in left xs (x ∷ []) d (omega (arith, less, full)) ∙ so_far.each d less
    by d (inr more) low =
        let full = so_far.full in
        let same : n ≡ d = omega (arith, low, more) in
        right xs (x ∷ []) d 0 (omega (arith, full, same)) ∙ ap Some (here ∙ ap (device t) same)

-- the first one that passes
pub find_some : {X : Type 0} (p : X → Bool) (xs : List X) (x : X) → Among xs x → p x ≡ true → (y : X) × (find p xs ≡ Some y)
find_some p [] x a e = absurd a
find_some {X = X} p (z ∷ xs) x a e = by (p z) refl a (λ more. find_some p xs x more e)
  where
    by : (b : Bool) → p z ≡ b → Among (z ∷ xs) x → (Among xs x → (y : X) × (find p xs ≡ Some y)) → (y : X) × (find p (z ∷ xs) ≡ Some y)
    by true is here later = (z, ap (λ b. if b then Some z else find p xs) is)
    by false is (inl same) later = absurd (false≢true (sym is ∙ ap p same ∙ e))
    by false is (inr more) later = let rest = later more in (rest.0, ap (λ b. if b then Some z else find p xs) is ∙ rest.1)

pub find_is : {X : Type 0} (p : X → Bool) (xs : List X) (y : X) → find p xs ≡ Some y → Among xs y × (p y ≡ true)
find_is p [] y e = absurd (None≢Some y e)
find_is p (z ∷ xs) y e = by (p z) refl (find_is p xs y)
  where
    by : (b : Bool) → p z ≡ b → (find p xs ≡ Some y → Among xs y × (p y ≡ true)) → Among (z ∷ xs) y × (p y ≡ true)
    by true is later =
        let same = same_Some z y (sym (ap (λ b. if b then Some z else find p xs) is) ∙ e) in (inl same, ap p (sym same) ∙ is)
    by false is later = let rest = later (sym (ap (λ b. if b then Some z else find p xs) is) ∙ e) in (inr rest.0, rest.1)

pub find_none : {X : Type 0} (p : X → Bool) (xs : List X) → ((y : X) → Among xs y → p y ≡ true → ⊥) → find p xs ≡ None
find_none {X = X} p xs never = by (find p xs) refl
  where
    by : (o : Option X) → find p xs ≡ o → find p xs ≡ None
    by None e = e
    by (Some y) e = let is = find_is p xs y e in absurd (never y is.0 is.1)

-- the places of hands
module _ (crew : List ProcessState) where
  abbrev n : ℕ
  n = length crew

  abbrev there : ℕ → List Hand
  there at = map (λ a. (a, at)) crew

  many_there : (at : ℕ) → length (there at) ≡ n
  many_there at = length-map crew (λ a. (a, at))

  pub hands_length : (ds : List ℕ) → length (hands_of crew ds) ≡ length ds * n
  hands_length [] = omega arith
  hands_length (d ∷ ds) =
      let both = length-append (there d) (hands_of crew ds) in
      let one = many_there d in
      let rest = hands_length ds in
      let more = suc-mul (length ds) n in
      omega (arith, both, one, rest, more)

  pub hand_at : (ds : List ℕ) (j v i : ℕ) (a : ProcessState) → slice_get ds j ≡ Some v → slice_get crew i ≡ Some a →
      slice_get (hands_of crew ds) (j * n + i) ≡ Some (a, v)
  hand_at [] j v i a at of = absurd (None≢Some v at)
  hand_at (d ∷ ds) zero v i a at of =
      let low = slice_get_within crew i a of in
      let many = many_there d in
      let start : 0 * n + i ≡ i = omega arith in
      ap (slice_get (there d ++ hands_of crew ds)) start
      ∙ left (there d) (hands_of crew ds) i (omega (arith, low, many))
      ∙ slice_get-map (λ a. (a, d)) crew i ∙ ap (option_map (λ a. (a, d))) of ∙ ap (λ w. Some (a, w)) (same_Some d v at)
  hand_at (d ∷ ds) (suc j) v i a at of =
      let many = many_there d in
      let more = suc-mul j n in
      right (there d) (hands_of crew ds) (suc j * n + i) (j * n + i) (omega (arith, many, more)) ∙ hand_at ds j v i a at of

  pub record HandAt (ds : List ℕ) (k : ℕ) (by : Hand) : Type 0 where
    pub device : ℕ
    pub agent : ℕ
    pub place : k ≡ device * n + agent
    pub of_device : slice_get ds device ≡ Some by.1
    pub of_agent : slice_get crew agent ≡ Some by.0

  pub at_hand : (ds : List ℕ) (k : ℕ) (by : Hand) → slice_get (hands_of crew ds) k ≡ Some by → HandAt ds k by
  at_hand [] k by e = absurd (None≢Some by e)
  at_hand (d ∷ ds) k by e = elim (joined (there d) (hands_of crew ds) k by e) [
    | inl first ↦
        (let m = mapped (λ a. (a, d)) crew k by first in
        record {
          device = 0;
          agent = k;
          place = omega arith;
          of_device = ap (λ (h : Hand). Some h.1) m.gives;
          of_agent = m.is ∙ ap (λ (h : Hand). Some h.0) m.gives;
        })
    | inr later ↦
        (let rest = at_hand ds later.at by later.is in
        let here = later.place in
        let many = many_there d in
        let place = rest.place in
        let more = suc-mul rest.device n in
        record {
          device = suc rest.device;
          agent = rest.agent;
          place = omega (arith, here, many, place, more);
          of_device = rest.of_device;
          of_agent = rest.of_agent;
        })
  ]

  pub hands_once : (ds : List ℕ) → Once crew → Once ds → Once (hands_of crew ds)
  hands_once ds each_agent each_device i j by at_i at_j =
      let a = at_hand ds i by at_i in
      let b = at_hand ds j by at_j in
      let device = each_device a.device b.device by.1 a.of_device b.of_device in
      let agent = each_agent a.agent b.agent by.0 a.of_agent b.of_agent in
      a.place ∙ (λ z. device z * n + agent z) ∙ sym b.place

-- of a test that fails
not_below : (a b : ℕ) → a < b → nat_lt b a ≡ false
not_below a b less = by (nat_lt b a) refl
  where
    by : (c : Bool) → nat_lt b a ≡ c → nat_lt b a ≡ false
    by false e = e
    by true e = let more = ltb-true b a e in absurd (omega (arith, less, more))

at_least : (a b : ℕ) → a ≤ b → nat_lt b a ≡ false
at_least a b more = by (nat_lt b a) refl
  where
    by : (c : Bool) → nat_lt b a ≡ c → nat_lt b a ≡ false
    by false e = e
    by true e = let less = ltb-true b a e in absurd (omega (arith, less, more))

module _ (t : Tree) (well : WellFormed t) (table : CallTable) (c : Crew) (parts : Parts) (marks : List Mark)
    (once : Once (crew_told c)) (kinds_once : Once (devices_told c))
    (kinds_all : (on : ℕ) → Contains c.devices.items on → Contains (devices_told c) on)
    (devices : AreDevices t (dirs_of c) c.devices.items) (many : c.shape.agents ≡ length (crew_told c))
    (agents_are : (i : ℕ) (a : ProcessState) (agent : Agent) → slice_get c.agents.items i ≡ Some agent → agent.process.now ≡ a →
    IsAgent table (crew_told c) i a agent)
    (hands_are : c.shape.hands ≡ length (hands_told c)) (shape_is : parts.size.shape ≡ c.shape)
    (agents_is : parts.agents.now ≡ c.agents.items) (devices_is : parts.devices.now ≡ c.devices.items)
    (seats_is : parts.seats.now ≡ numbers (dirs_of c + length (hands_told c))) (marks_is : parts.marks.now ≡ marks)
    (watches_is : parts.watches.now ≡ c.watches.items) (sides : Each (IsPart parts) c.sides.items)
    (all_marks : (a : ProcessState) (dir : ℕ) (name : List ℕ) (perms : ℕ) → Contains (crew_told c) a →
    perms_kept a (place.Slot dir name) ≡ Some perms → IsTrue (is_dir t dir) →
    (mark : Mark) × Contains marks mark × (mark.dir ≡ dir) × (mark.name.now ≡ name))
    (only_marks : (mark : Mark) → Contains marks mark → IsTrue (is_dir t mark.dir) × (mark.dir < dirs_of c) ×
    IsRowOf t (dirs_of c) (length (hands_told c)) (spots_told c) (mark.dir, mark.name.now) mark.row)
    (low_watches : (watch : Watch) → Contains c.watches.items watch → watch.dir < dirs_of c) where
  abbrev crew : List ProcessState
  crew = crew_told c

  abbrev kinds : List ℕ
  kinds = devices_told c

  abbrev hands : List Hand
  hands = hands_told c

  abbrev dirs : ℕ
  dirs = dirs_of c

  pub each_hand : Once (hands_told c)
  each_hand = hands_once crew kinds once kinds_once

  as_many : length parts.agents.now ≡ length crew
  as_many = ap length agents_is ∙ sym (length-map c.agents.items (λ (agent : Agent). agent.process.now))

  -- a directory is on its device, and on no other
  on_is : (on d : ℕ) → d < dirs → device t d ≡ on → is_on_device parts.devices.now on d ≡ true
  on_is on d low near =
      (λ z. is_there on (slice_get (devices_is z) d)) ∙ ap (is_there on) (devices.each d low) ∙ eq-eqb (device t d) on near

  is_on : (on d : ℕ) → d < dirs → is_on_device parts.devices.now on d ≡ true → device t d ≡ on
  is_on on d low e =
      eqb-true (device t d) on (sym ((λ z. is_there on (slice_get (devices_is z) d)) ∙ ap (is_there on) (devices.each d low)) ∙ e)

  module _ (j : ℕ) (side : Side) (at : slice_get c.sides.items j ≡ Some side) where
    abbrev on : ℕ
    on = side.device

    abbrev first : ℕ
    first = side.first

    abbrev part : IsPartOn parts side
    part = (sides j side at).part

    first_is : first ≡ j * length crew
    first_is = (sides j side at).first ∙ ap (λ k. j * k) as_many

    kind_at : slice_get kinds j ≡ Some on
    kind_at = slice_get-map (λ (s : Side). s.device) c.sides.items j ∙ ap (option_map (λ (s : Side). s.device)) at

    pub hand : (i : ℕ) (a : ProcessState) → slice_get crew i ≡ Some a → slice_get hands (first + i) ≡ Some (a, on)
    hand i a of = (λ z. slice_get hands (first_is z + i)) ∙ hand_at crew kinds j on i a kind_at of

    mover_is : (i : ℕ) (mover : Mover) → slice_get side.movers.items i ≡ Some mover →
        (b : ProcessState) × (slice_get crew i ≡ Some b) × IsMover table dirs (length hands) first i b mover
    mover_is i mover got =
        let one = part.movers i mover got in
        let in_crew : slice_get c.agents.items i ≡ Some one.agent = (λ z. slice_get (sym agents_is z) i) ∙ one.at in
        let agent = agents_are i one.agent.process.now one.agent in_crew refl in (
          one.agent.process.now,
          slice_get-map (λ (agent : Agent). agent.process.now) c.agents.items i ∙ ap (option_map (λ (agent : Agent). agent.process.now)) in_crew,
          record {
            place = one.place ∙ agent.place;
            moving = subst (λ covers. AreCovers covers (can_move table one.agent.process.now)) (sym one.moving) agent.moving;
            made = one.made ∙ ap (λ s. s.last + 1 + (first + i)) shape_is;
            landing = one.landing ∙ (λ z. (shape_is z).last + 1 + ((shape_is z).hands + (first + i))) ∙ ap (λ h. dirs + (h + (first + i))) hands_are;
            drops = one.drops ∙ (λ z. (shape_is z).last + 1 + ((shape_is z).hands + ((shape_is z).hands + (first + i)))) ∙
                ap (λ h. dirs + (h + (h + (first + i)))) hands_are;
          },
        )

    are_movers : AreMovers table crew dirs (length hands) first side.movers.items
    are_movers = record {
      each = λ i b of.
          let low = slice_get_within crew i b of in
          let count = part.many ∙ as_many in
          let got = got_at side.movers.items i (omega (arith, low, count)) in
          let one = mover_is i got.0 got.1 in
          (got.0, got.1, subst (λ a. IsMover table dirs (length hands) first i a got.0) (same_Some one.0 b (sym one.1 ∙ of)) one.2);
      only = mover_is;
    }

    abbrev test : ℕ → Bool
    test seat = is_seat_on (parts.size.shape.last + 1) parts.devices.now on first (length parts.agents.now) seat

    test_is : (seat : ℕ) → test seat ≡ is_seat_on dirs parts.devices.now on first (length crew) seat
    test_is seat = λ z. is_seat_on ((shape_is z).last + 1) parts.devices.now on first (as_many z) seat

    of_dir : (seat : ℕ) → seat < dirs → is_seat_on dirs parts.devices.now on first (length crew) seat ≡ is_on_device parts.devices.now on seat
    of_dir seat low =
        ap (λ b. if b then is_on_device parts.devices.now on seat else nat_le first (seat - dirs) && nat_lt (seat - dirs - first) (length crew))
        (lt-ltb seat dirs low)

    of_hand : (i : ℕ) → is_seat_on dirs parts.devices.now on first (length crew) (dirs + i) ≡ (nat_le first i && nat_lt (i - first) (length crew))
    of_hand i =
        let back : dirs + i - dirs ≡ i = omega arith in
        ap (λ b. if b then is_on_device parts.devices.now on (dirs + i)
        else nat_le first (dirs + i - dirs) && nat_lt (dirs + i - dirs - first) (length crew)) (at_least dirs (dirs + i) (omega arith))
        ∙ (λ z. nat_le first (back z) && nat_lt (back z - first) (length crew))

    -- whose number is that of a hand on the device
    hand_here : (i : ℕ) (by : Hand) → slice_get hands i ≡ Some by → by.1 ≡ on → (nat_le first i && nat_lt (i - first) (length crew)) ≡ true
    hand_here i by got near =
        let g = at_hand crew kinds i by got in
        let same = kinds_once g.device j by.1 g.of_device (kind_at ∙ ap Some (sym near)) in
        let place : i ≡ first + g.agent = g.place ∙ (λ z. same z * length crew + g.agent) ∙ ap (λ f. f + g.agent) (sym first_is) in
        let low = slice_get_within crew g.agent by.0 g.of_agent in
        and_from (nat_le first i) _ (le-leb first i (omega (arith, place))) (lt-ltb (i - first) (length crew) (omega (arith, place, low)))

    here_hand : (i : ℕ) → (nat_le first i && nat_lt (i - first) (length crew)) ≡ true →
        (a : ProcessState) × (slice_get hands i ≡ Some (a, on))
    here_hand i e =
        let both = and_parts (nat_le first i) _ e in
        let more = leb-true first i both.0 in
        let low = ltb-true (i - first) (length crew) both.1 in
        let got = got_at crew (i - first) low in
        let back : first + (i - first) ≡ i = omega (arith, more) in
        (got.0, ap (slice_get hands) (sym back) ∙ hand (i - first) got.0 got.1)

    seats_have : (seat : ℕ) → IsSeatOn t hands dirs on seat → Contains side.seats.items seat
    seats_have seat (old_on low near) =
        contained side.seats.items seat (subst (λ xs. Among xs seat) (sym part.seats)
        (among_filter test parts.seats.now seat (test_is seat ∙ of_dir seat low ∙ on_is on seat low near)
        (subst (λ xs. Among xs seat) (sym seats_is) (among_numbers (dirs + length hands) seat (omega (arith, low))))))
    seats_have seat (made_on i {by = by} got near) =
        let low = slice_get_within hands i by got in
        contained side.seats.items (dirs + i) (subst (λ xs. Among xs (dirs + i)) (sym part.seats)
        (among_filter test parts.seats.now (dirs + i) (test_is (dirs + i) ∙ of_hand i ∙ hand_here i by got near)
        (subst (λ xs. Among xs (dirs + i)) (sym seats_is) (among_numbers (dirs + length hands) (dirs + i) (omega (arith, low))))))

    seats_only : (seat : ℕ) → Contains side.seats.items seat → IsSeatOn t hands dirs on seat
    seats_only seat has =
        let found = filter_among test parts.seats.now seat (subst (λ xs. Among xs seat) part.seats (among_contained side.seats.items seat has)) in
        by (sym (test_is seat) ∙ found.1) (cases_lt seat dirs)
      where
        by : is_seat_on dirs parts.devices.now on first (length crew) seat ≡ true → (seat < dirs) ⊎ (dirs ≤ seat) → IsSeatOn t hands dirs on seat
        by e (inl low) = old_on low (is_on on seat low (sym (of_dir seat low) ∙ e))
        by e (inr more) =
            let i : ℕ = seat - dirs in
            let back : dirs + (seat - dirs) ≡ seat = omega (arith, more) in
            let one = here_hand (seat - dirs) (sym (of_hand (seat - dirs)) ∙ ap (is_seat_on dirs parts.devices.now on first (length crew)) back ∙ e) in
            subst (IsSeatOn t hands dirs on) back (made_on (seat - dirs) one.1 refl)

    abbrev mark_test : Mark → Bool
    mark_test mark = is_on_device parts.devices.now on mark.dir

    are_marks : AreMarks t crew dirs (length hands) (spots_told c) on side.marks.items
    are_marks = record {
      each = λ a dir name perms among own stands near.
          let m = all_marks a dir name perms among own stands in
          let low = (only_marks m.0 m.1).1 in (
            m.0,
            contained side.marks.items m.0 (subst (λ xs. Among xs m.0) (sym part.marks)
                (among_filter mark_test parts.marks.now m.0 (on_is on m.0.dir low (ap (device t) m.2 ∙ near))
                (subst (λ xs. Among xs m.0) (sym marks_is) (among_contained marks m.0 m.1)))),
            m.2,
            m.3,
          );
      only = λ mark has.
          let found = filter_among mark_test parts.marks.now mark (subst (λ xs. Among xs mark) part.marks (among_contained side.marks.items mark has)) in
          let is = only_marks mark (contained marks mark (subst (λ xs. Among xs mark) marks_is found.0)) in
          record { stands = is.0; low = is.1; row = is.2; near = is_on on mark.dir is.1 found.1 };
    }

    abbrev watch_test : Watch → Bool
    watch_test watch = is_on_device parts.devices.now on watch.dir

    pub is_side : IsSide t table crew hands dirs (spots_told c) c.watches.items on side
    is_side = record {
      hand = hand;
      movers = are_movers;
      seats = seats_have;
      only_seats = seats_only;
      marks = are_marks;
      watches = λ watch has near.
          contained side.watches.items watch (subst (λ xs. Among xs watch) (sym part.watches)
          (among_filter watch_test parts.watches.now watch (on_is on watch.dir (low_watches watch has) near)
          (subst (λ xs. Among xs watch) (sym watches_is) (among_contained c.watches.items watch has))));
      only_watches = λ watch has.
          let found = filter_among watch_test parts.watches.now watch
          (subst (λ xs. Among xs watch) part.watches (among_contained side.watches.items watch has)) in
          let there = contained c.watches.items watch (subst (λ xs. Among xs watch) watches_is found.0) in
          (there, is_on on watch.dir (low_watches watch there) found.1);
    }

    pub has_hand_here : (i : ℕ) (by : Hand) → slice_get hands i ≡ Some by → by.1 ≡ on → has_hand c i side ≡ true
    has_hand_here i by got near = ap (λ n. nat_le first i && nat_lt (i - first) n) many ∙ hand_here i by got near

    pub here_has_hand : (i : ℕ) → has_hand c i side ≡ true → (a : ProcessState) × (slice_get hands i ≡ Some (a, on))
    here_has_hand i e = here_hand i (sym (ap (λ n. nat_le first i && nat_lt (i - first) n) many) ∙ e)

  -- the device of each row
  pub side_among : (side : Side) → Among c.sides.items side → IsSide t table crew hands dirs (spots_told c) c.watches.items side.device side
  side_among side among = let g = among_got c.sides.items side among in is_side g.at side g.is

  side_with : (on : ℕ) → Among kinds on → (side : Side) × Among c.sides.items side × (side.device ≡ on)
  side_with on among = let m = map_among (λ (s : Side). s.device) c.sides.items on among in (m.0, m.1, m.2)

  abbrev Has : Row → Entity → Type 0
  Has about e = HasSide t table crew hands dirs (spots_told c) c about e

  dir_found : (d : ℕ) → d < dirs → (side : Side) × (dir_side c d ≡ Some side) × Among c.sides.items side × (side.device ≡ device t d)
  dir_found d low =
      let there = kinds_all (device t d) (contained c.devices.items (device t d) (got_among c.devices.items d (device t d) (devices.each d low))) in
      let one = side_with (device t d) (among_contained kinds (device t d) there) in
      let found = find_some (is_of_device (device t d)) c.sides.items one.0 one.1 (eq-eqb one.0.device (device t d) one.2) in
      let is = find_is (is_of_device (device t d)) c.sides.items found.0 found.1 in
      (found.0, ap (device_side c) (devices.each d low) ∙ found.1, is.0, eqb-true found.0.device (device t d) is.1)

  hand_found : (k : ℕ) (by : Hand) → slice_get hands k ≡ Some by →
      (side : Side) × (hand_side c k ≡ Some side) × Among c.sides.items side × (by.1 ≡ side.device)
  hand_found k by got =
      let g = at_hand crew kinds k by got in
      let one = side_with by.1 (got_among kinds g.device by.1 g.of_device) in
      let at = among_got c.sides.items one.0 one.1 in
      let found = find_some (has_hand c k) c.sides.items one.0 one.1 (has_hand_here at.at one.0 at.is k by got (sym one.2)) in
      let is = find_is (has_hand c k) c.sides.items found.0 found.1 in
      let there = among_got c.sides.items found.0 is.0 in
      let a = here_has_hand there.at found.0 there.is k is.1 in
      (found.0, found.1, is.0, ap (λ (h : Hand). h.1) (same_Some by (a.0, found.0.device) (sym got ∙ a.1)))

  none_found : (k : ℕ) → slice_get hands k ≡ None → hand_side c k ≡ None
  none_found k none = find_none (has_hand c k) c.sides.items (λ side among e.
      let at = among_got c.sides.items side among in
      let a = here_has_hand at.at side at.is k e in
      None≢Some (a.0, side.device) (sym none ∙ a.1))

  module _ (entries : AreEntries t dirs (length hands) (spots_told c) c.entries.items)
      (low : (row d : ℕ) → slice_get (entities hands dirs (spots_told c)) row ≡ Some (DirAt d) → d < dirs)
      (low_spots : (dir : ℕ) (name : List ℕ) (x : ℕ) → look t dir name ≡ Some x → dir < dirs) where
    by_hand : (f : Hand → Entity) → ((m : Hand) → IsOn t m.1 (f m)) → (about : Row) (k : ℕ) → side_of c about ≡ hand_side c k → (e : Entity) →
        (o : Option Hand) → slice_get hands k ≡ o → option_map f o ≡ Some e → Has about e
    by_hand f lands about k is e None got same = absurd (None≢Some e same)
    by_hand f lands about k is e (Some m) got same =
        let found = hand_found k m got in
        record {
          side = found.0;
          of = is ∙ found.1;
          on = found.0.device;
          here = subst (IsOn t found.0.device) (same_Some (f m) e same) (subst (λ v. IsOn t v (f m)) found.3 (lands m));
          is = side_among found.0 found.2;
        }

    by_name : (about : Row) (i : ℕ) → side_of c about ≡ entry_side c (slice_get c.entries.items i) → (e : Entity) (o : Option Spot) →
        slice_get (spots_told c) i ≡ o → option_map NameAt o ≡ Some e → Has about e
    by_name about i is e None got same = absurd (None≢Some e same)
    by_name about i is e (Some s) got same =
        let one = entries.each i s got in
        let found = dir_found s.0 (low_spots s.0 s.1 one.0.node one.2.at) in
        record {
          side = found.0;
          of = is ∙ ap (entry_side c) one.1 ∙ ap (dir_side c) one.2.dir ∙ found.1;
          on = found.0.device;
          here = subst (IsOn t found.0.device) (same_Some (NameAt s) e same) (sym found.3);
          is = side_among found.0 found.2;
        }

    pub rows_have : (row : ℕ) (about : Row) (e : Entity) → slice_get (entities hands dirs (spots_told c)) row ≡ Some e →
        entity_of hands (spots_told c) about ≡ Some e → Has about e
    rows_have row (rows.Dir d) e in_rows same =
        let here = same_Some (DirAt d) e same in
        let found = dir_found d (low row d (in_rows ∙ ap Some (sym here))) in
        record {
          side = found.0;
          of = found.1;
          on = found.0.device;
          here = subst (IsOn t found.0.device) here (sym found.3);
          is = side_among found.0 found.2;
        }
    rows_have row (rows.Made k) e in_rows same = by_hand MadeBy (λ m. refl) (rows.Made k) k refl e (slice_get hands k) refl same
    rows_have row (rows.Landing k) e in_rows same = by_hand LandingOf (λ m. refl) (rows.Landing k) k refl e (slice_get hands k) refl same
    rows_have row (rows.Drops k) e in_rows same = by_hand DropsOf (λ m. refl) (rows.Drops k) k refl e (slice_get hands k) refl same
    rows_have row (rows.Name i) e in_rows same = by_name (rows.Name i) i refl e (slice_get (spots_told c) i) refl same

    none_mapped : {X : Type 0} (f : X → Entity) (o : Option X) → option_map f o ≡ None → o ≡ None
    none_mapped f None e = refl
    none_mapped f (Some x) e = absurd (None≢Some (f x) (sym e))

    no_entry : (i : ℕ) → slice_get (spots_told c) i ≡ None → (o : Option Entry) → slice_get c.entries.items i ≡ o → entry_side c o ≡ None
    no_entry i none None e = refl
    no_entry i none (Some entry) e = let one = entries.only i entry e in absurd (None≢Some one.0 (sym none ∙ one.1))

    pub no_rows : (about : Row) → entity_of hands (spots_told c) about ≡ None → side_of c about ≡ None
    no_rows (rows.Dir d) none = absurd (None≢Some (DirAt d) (sym none))
    no_rows (rows.Made k) none = none_found k (none_mapped MadeBy (slice_get hands k) none)
    no_rows (rows.Landing k) none = none_found k (none_mapped LandingOf (slice_get hands k) none)
    no_rows (rows.Drops k) none = none_found k (none_mapped DropsOf (slice_get hands k) none)
    no_rows (rows.Name i) none =
        no_entry i (none_mapped NameAt (slice_get (spots_told c) i) none) (slice_get c.entries.items i) refl
