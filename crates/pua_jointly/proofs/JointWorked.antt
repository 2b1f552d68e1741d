-- What was worked out of a crew and a tree is all that its facts are found by.
use Rattle.pua_jointly.proofs.Common.{◌≡◌, ◌≢◌, ◌<◌, ◌≤◌, ◌⊎◌, ◌∙◌, ◌||◌, ◌==◌, ◌∷◌, ◌++◌, [], ℕ, zero, suc, Bool, true, false, List, length, map}
use Rattle.pua_jointly.proofs.Common.{refl, sym, ap, subst, inl, inr, arith, Option, Some, None, same_Some, None≢Some, ProcessState, Spot, Tree, WellFormed}
use Rattle.pua_jointly.proofs.Common.{CallTable, Only, has_c, if◌then◌else◌, false≢true, eqb-true, eq-eqb, and_parts, list_any, Among, among_contained}
use Rattle.pua_jointly.proofs.Common.{contained, among_map, map_among, is_dir, look, above, flat_map, option_map, perms_kept, veils, row_of, row_says, sound_from}
use Rattle.pua_jointly.proofs.Common.{Reaches, is_below, exact_spots, spot_cmp, spots_total}
use Rattle.std.specs.Prelude.{slice_get, ◌+◌, ◌*◌}
use Rattle.std.specs.List.{AllByRecursion, Contains}
use Rattle.std.proofs.lemmas.List.{length-append, length-map}
use Rattle.std.proofs.lemmas.Option.{slice_get-map}
use Rattle.std.specs.FinMap.{is_sorted}
use Rattle.std.specs.FinMap.Entries.{below_all}
use Rattle.std.specs.Ordering.{is_lt, ordering_reverse}
use Rattle.std.specs.declared.cmp.Ordering.{Ordering}
use Rattle.std.specs.declared.cmp.Ordering.TheVariants.{Equal, Greater, Less}
use Rattle.pua_tree.proofs.ForCallers.{all_from_found}
use Rattle.pua_tree.specs.Tree.{device, is_within}
use Rattle.pua_policy.proofs.ForCallers.{climb_root}
use Rattle.pua_policy.specs.declared.place.Place.{Place}
use Rattle.pua_policy.specs.declared.place.Place.TheVariants as place
use Rattle.pua_objects.proofs.ForCallers.{among_flat, flat_among, found_among}
use Rattle.pua_ever.specs.Laws.{dir_of_place}
use Rattle.pua_jointly.specs.JointFacts.{watches, watches_by}
use Rattle.pua_jointly.specs.JointMembers.{AreSmall, Each}
use Rattle.pua_jointly.specs.JointPlace.{Once}
use Rattle.pua_jointly.specs.JointSetting.{AreColumns, AreDevices, AreInOrder, AreMarksOf, AreWatched, IsEntryAt, IsMarkOf, IsRowIn, IsShape, IsSize, entry_of}
use Rattle.pua_jointly.specs.JointSetting.{is_watched}
use Rattle.pua_jointly.specs.JointSides.{IsPart}
use Rattle.pua_jointly.specs.declared.parts.Parts.{Parts}
use Rattle.pua_jointly.proofs.JointSides.{hands_length, hands_once, no_rows, rows_have, side_among}
use Rattle.std.proofs.Math.Nat.{mul_comm}
use Rattle.pua_jointly.specs.JointSetup.{AreEntries, AreWatches, IsEntry, IsRowOf, IsWatch, IsWorkedOut, count_told, crew_told, devices_told, dirs_of, hands_told}
use Rattle.pua_jointly.specs.JointSetup.{guarded_told, spots_told}
use Rattle.pua_jointly.specs.JointTable.{TableFits, columns, entities, numbers, ByAgent, Common, Watching, DirAt, MadeBy, LandingOf, DropsOf, NameAt}
use Rattle.pua_jointly.specs.JointWords.{AreAgents, IsAgent}
use Rattle.pua_jointly.specs.declared.agent.Agent.{Agent}
use Rattle.pua_jointly.specs.declared.crew.Crew.{Crew}
use Rattle.pua_jointly.specs.declared.crew.Entry.{Entry}
use Rattle.pua_jointly.specs.declared.crew.Mark.{Mark}
use Rattle.pua_jointly.specs.declared.crew.Watch.{Watch}
use Rattle.pua_jointly.specs.declared.shape.Shape.{Shape}
use Rattle.pua_jointly.specs.declared.size.Size.{Size}
use Rattle.pua_jointly.proofs.JointOlds.{if_some}
use Rattle.pua_jointly.proofs.JointPlaced.{among_got, entity_fits, got_among}
use Rattle.pua_jointly.proofs.JointWatched.{kept_among}
use Rattle.pua_jointly.proofs.Once.{mapped}
use Rattle.pua_ever.proofs.ForCallers.{below_up, way_up}
use Rattle.pua_ever.proofs.ForCallers.{all_among, any_among, any_found}

-- rows in order have each name once
no_less : (o : Ordering) → o ≡ ordering_reverse o → is_lt o ≡ true → ⊥
no_less Less same less = cc
no_less Equal same less = absurd (false≢true less)
no_less Greater same less = absurd (false≢true less)

below_among : (x : Spot) (es : List (Spot × ℕ)) → below_all spot_cmp x es ≡ true → Among (map (λ row. row.0) es) x → ⊥
below_among x [] below a = a
below_among x (e ∷ es) below (inl same) =
    no_less (spot_cmp x x) (spots_total.antisymm x x)
    (subst (λ y. is_lt (spot_cmp x y) ≡ true) same (and_parts (is_lt (spot_cmp x e.0)) _ below).0)
below_among x (e ∷ es) below (inr a) = below_among x es (and_parts (is_lt (spot_cmp x e.0)) _ below).1 a

pub each_row_once : (es : List (Spot × ℕ)) → is_sorted spot_cmp es ≡ true → Once (map (λ row. row.0) es)
each_row_once [] sorted i j x at_i at_j = absurd (None≢Some x at_i)
each_row_once (e ∷ es) sorted zero zero x at_i at_j = refl
each_row_once (e ∷ es) sorted zero (suc j) x at_i at_j =
    absurd (below_among e.0 es (and_parts (below_all spot_cmp e.0 es) _ sorted).0
    (subst (Among (map (λ row. row.0) es)) (sym (same_Some e.0 x at_i)) (got_among (map (λ row. row.0) es) j x at_j)))
each_row_once (e ∷ es) sorted (suc i) zero x at_i at_j =
    absurd (below_among e.0 es (and_parts (below_all spot_cmp e.0 es) _ sorted).0
    (subst (Among (map (λ row. row.0) es)) (sym (same_Some e.0 x at_j)) (got_among (map (λ row. row.0) es) i x at_i)))
each_row_once (e ∷ es) sorted (suc i) (suc j) x at_i at_j =
    ap suc (each_row_once es (and_parts (below_all spot_cmp e.0 es) _ sorted).1 i j x at_i at_j)

-- and each row is found
abbrev same_node : Option ℕ → ℕ → Bool
same_node None x = false
same_node (Some y) x = y == x

is_found : (o : Option ℕ) (x : ℕ) → same_node o x ≡ true → o ≡ Some x
is_found None x e = absurd (false≢true e)
is_found (Some y) x e = ap Some (eqb-true y x e)

pub row_found : (t : Tree) → WellFormed t → (row : Spot × ℕ) → Among t.rows row → look t row.0.0 row.0.1 ≡ Some row.1
row_found t well row a =
    is_found (look t row.0.0 row.0.1) row.1
    (all_among (λ row. same_node (look t row.0.0 row.0.1) row.1) t.rows row
    (all_from_found spot_cmp spots_total exact_spots (λ row. same_node (look t row.0.0 row.0.1) row.1) t.rows (sound_from t well).rows_sorted
    (λ k v e. ap (λ o. same_node o v) e ∙ eq-eqb v v refl)) a)

-- what another one is below stands
module _ (t : Tree) (well : WellFormed t) (y : ℕ) where
  stands_from : (steps d : ℕ) → Reaches t steps d → is_dir t d ≡ true → is_below t y d ≡ true → is_dir t y ≡ true
  stands_from zero d root is below = by (0 == y) refl (sym (ap (list_any (λ e. e == y)) (climb_root t)) ∙ sym (ap (is_below t y) root) ∙ below)
    where
      by : (b : Bool) → (0 == y) ≡ b → (b || false) ≡ true → is_dir t y ≡ true
      by true same e = ap (is_dir t) (sym (eqb-true 0 y same)) ∙ (sound_from t well).root
      by false other e = absurd (false≢true e)
  stands_from (suc steps) d up is below = by (d == y) refl (stands_from steps (above t d) up.1)
    where
      row : (s : Spot) × (look t s.0 s.1 ≡ Some d) × (above t d ≡ s.0)
      row = row_of t (sound_from t well) d is up.0

      by : (b : Bool) → (d == y) ≡ b → (is_dir t (above t d) ≡ true → is_below t y (above t d) ≡ true → is_dir t y ≡ true) → is_dir t y ≡ true
      by true same rest = ap (is_dir t) (sym (eqb-true d y same)) ∙ is
      by false other rest =
          rest (ap (is_dir t) row.2 ∙ (row_says t (sound_from t well) row.0 d row.1).0)
          (sym (below_up t well y d other up.0 is) ∙ below)

  pub stands_over : (d : ℕ) → is_within t d y ≡ true → is_dir t y ≡ true
  stands_over d e =
      let both = and_parts (is_dir t d) _ e in
      let way = way_up t well y d both.0 in
      stands_from way.0 d way.1 both.0 both.1

-- all veils together are those of each
any_flat : {X Y : Type 0} (p : Y → Bool) (f : X → List Y) (xs : List X) → list_any (λ x. list_any p (f x)) xs ≡ true →
    list_any p (flat_map f xs) ≡ true
any_flat p f xs e =
    let x = any_found (λ x. list_any p (f x)) xs e in
    let y = any_found p (f x.0) x.2 in
    any_among p (flat_map f xs) y.0 (among_flat f xs x.0 y.0 x.1 y.1) y.2

flat_any : {X Y : Type 0} (p : Y → Bool) (f : X → List Y) (xs : List X) → list_any p (flat_map f xs) ≡ true →
    list_any (λ x. list_any p (f x)) xs ≡ true
flat_any p f xs e =
    let y = any_found p (flat_map f xs) e in
    let x = flat_among f xs y.0 y.1 in
    any_among (λ x. list_any p (f x)) xs x.0 x.1 (any_among p (f x.0) y.0 x.2 y.2)

all_of : {X : Type 0} (P : X → Type 0) (xs : List X) (x : X) → AllByRecursion P xs → Among xs x → P x
all_of P [] x all a = absurd a
all_of P (y ∷ xs) x all (inl e) = subst P e all.0
all_of P (y ∷ xs) x all (inr a) = all_of P xs x all.1 a

module _ (t : Tree) (well : WellFormed t) (table : CallTable) (c : Crew) (all : List (Place × ℕ)) (size : Size) (parts : Parts)
    (all_marks : List Mark) (once : Once (crew_told c)) (all_are : all ≡ flat_map veils (crew_told c)) (small : AreSmall all)
    (rows_low : (row : Spot × ℕ) → Among t.rows row → (row.0.0 ≤ c.shape.last) × (row.1 ≤ c.shape.last))
    (veils_low : (veil : Place × ℕ) → Among all veil → dir_of_place veil.0 ≤ c.shape.last)
    (many : c.shape.agents ≡ length (crew_told c)) (shaped : IsShape (length (crew_told c)) (length (devices_told c)) c.shape.last c.shape)
    (sized : IsSize c.shape (length t.rows) (length c.watches.items) size) (columns_are : c.columns ≡ size.columns)
    (agents : Each (λ i agent. IsAgent table (crew_told c) i agent.process.now agent) c.agents.items)
    (rows_are : spots_told c ≡ map (λ row. row.0) t.rows) (rows_once : Once (spots_told c))
    (entries : Each (IsEntryAt t size.names) c.entries.items)
    (marks : AreMarksOf t c.entries.items all all_marks)
    (guards : AreWatched t c.shape.agents (dirs_of c) all c.watches.items)
    (watch_columns : AreColumns c.watches.items c.watch_columns.items) (devices : AreDevices t (dirs_of c) c.devices.items)
    (kinds_once : Once (devices_told c)) (kinds_all : (on : ℕ) → Contains c.devices.items on → Contains (devices_told c) on)
    (size_is : parts.size ≡ size) (agents_is : parts.agents.now ≡ c.agents.items) (devices_is : parts.devices.now ≡ c.devices.items)
    (seats_is : parts.seats.now ≡ numbers size.seats) (marks_is : parts.marks.now ≡ all_marks)
    (watches_is : parts.watches.now ≡ c.watches.items) (sides : Each (IsPart parts) c.sides.items)
    (ordered : AreInOrder c.entries.items) where
  abbrev crew : List ProcessState
  crew = crew_told c

  abbrev spots : List Spot
  spots = spots_told c

  abbrev guarded : List ℕ
  guarded = guarded_told c

  abbrev n : ℕ
  n = length crew

  abbrev h : ℕ
  h = length (hands_told c)

  hands_are : c.shape.hands ≡ h
  hands_are =
      shaped.hands_are ∙ mul_comm (length crew) (length (devices_told c)) ∙ sym (hands_length crew (devices_told c))

  -- where rows are
  after_made : size.seats ≡ dirs_of c + c.shape.hands
  after_made = subst (λ (s : Shape). size.seats ≡ (s.last + 1) + s.hands) sized.same size.after_made

  after_drops : size.names ≡ size.seats + (c.shape.hands + c.shape.hands)
  after_drops = subst (λ (s : Shape). size.names ≡ size.seats + (s.hands + s.hands)) sized.same size.after_drops

  kept_in : (a : ProcessState) (at : Place) (perms : ℕ) → Contains crew a → perms_kept a at ≡ Some perms → Among all (at, perms)
  kept_in a at perms among own =
      subst (λ vs. Among vs (at, perms)) (sym all_are)
      (among_flat veils crew a (at, perms) (among_contained crew a among) (kept_among (veils a) at perms own))

  low_veil : (a : ProcessState) (at : Place) (perms : ℕ) → Contains crew a → perms_kept a at ≡ Some perms → dir_of_place at < dirs_of c
  low_veil a at perms among own = let low = veils_low (at, perms) (kept_in a at perms among own) in omega (arith, low)

  in_rows : (dir : ℕ) (name : List ℕ) (x : ℕ) → look t dir name ≡ Some x → Among t.rows ((dir, name), x)
  in_rows dir name x e = found_among (dir, name) x t.rows e

  -- a watched directory has a number of the table
  low_watched : (y : ℕ) → is_watched t all y ≡ true → y < dirs_of c
  low_watched y e = let v = any_found (watches_by t y) all e in by v.0 v.1 v.2
    where
      by : (veil : Place × ℕ) → Among all veil → watches_by t y veil ≡ true → y < dirs_of c
      by (place.Slot dir name, perms) among e = absurd (false≢true e)
      by (place.Dir d, perms) among e = own (d == y) refl e
        where
          low : d ≤ c.shape.last
          low = veils_low (place.Dir d, perms) among

          lived : is_dir t y ≡ true → (y ≡ 0) ⊎ (y ≢ 0) → y < dirs_of c
          lived is (inl root) = omega (arith, root)
          lived is (inr other) =
              let row = row_of t (sound_from t well) y is other in
              let low = (rows_low (row.0, y) (in_rows row.0.0 row.0.1 y row.1)).1 in
              omega (arith, low)

          root_or : (b : Bool) → (y == 0) ≡ b → (y ≡ 0) ⊎ (y ≢ 0)
          root_or true e = inl (eqb-true y 0 e)
          root_or false e = inr (λ same. false≢true (sym e ∙ eq-eqb y 0 same))

          own : (b : Bool) → (d == y) ≡ b → (if b then has_c (Only perms) else is_within t d y) ≡ true → y < dirs_of c
          own true same e = let here = eqb-true d y same in omega (arith, low, here)
          own false other e = lived (stands_over t well y d e) (root_or (y == 0) refl)

  watched_is : (y : ℕ) → watches t crew y ≡ true → is_watched t all y ≡ true
  watched_is y e = subst (λ vs. list_any (watches_by t y) vs ≡ true) (sym all_are) (any_flat (watches_by t y) veils crew e)

  is_watches : (y : ℕ) → is_watched t all y ≡ true → watches t crew y ≡ true
  is_watches y e = flat_any (watches_by t y) veils crew (subst (λ vs. list_any (watches_by t y) vs ≡ true) all_are e)

  in_guarded : (w : Watch) → Among c.watches.items w → Among guarded w.dir
  in_guarded w among = among_map (λ w. w.dir) c.watches.items w among

  fits : TableFits t crew (devices_told c) (watches t crew) (dirs_of c) spots guarded
  fits = record {
    root = omega arith;
    on_device = λ d low.
        kinds_all (device t d) (contained c.devices.items (device t d) (got_among c.devices.items d (device t d) (devices.each d low)));
    perms = λ a at perms among own. all_of (λ veil. veil.1 < 16) all (at, perms) small (kept_in a at perms among own);
    veiled = λ a d perms among own. low_veil a (place.Dir d) perms among own;
    named = λ a d name perms among own. low_veil a (place.Slot d name) perms among own;
    rows = λ dir name x e.
        contained spots (dir, name) (subst (λ xs. Among xs (dir, name)) (sym rows_are)
        (among_map (λ row. row.0) t.rows ((dir, name), x) (in_rows dir name x e)));
    above = λ dir name x e. let low = (rows_low ((dir, name), x) (in_rows dir name x e)).0 in omega (arith, low);
    below = λ dir name x e is. let low = (rows_low ((dir, name), x) (in_rows dir name x e)).1 in omega (arith, low);
    watches = λ y e.
        let is = watched_is y e in
        let w = guards.all y (low_watched y is) is in
        contained guarded y (subst (Among guarded) w.2 (in_guarded w.0 (among_contained c.watches.items w.0 w.1)));
  }

  -- each piece
  each_row : (i : ℕ) (spot : Spot) → slice_get spots i ≡ Some spot → (entry : Entry) × (slice_get c.entries.items i ≡ Some entry)
      × IsEntry t (dirs_of c) h i spot entry
  each_row i spot e = let m = mapped entry_of c.entries.items i spot e in (m.at, m.is, is_entry i spot m.at m.is m.gives)
    where
      is_entry : (i : ℕ) (spot : Spot) (entry : Entry) → slice_get c.entries.items i ≡ Some entry → entry_of entry ≡ spot →
          IsEntry t (dirs_of c) h i spot entry
      is_entry i spot entry is gives =
          let at = entries i entry is in
          let one = at.row in
          let two = after_made in
          let three = after_drops in
          record {
            row = omega (arith, one, two, three, hands_are);
            dir = ap (λ s. s.0) gives;
            name = ap (λ s. s.1) gives;
            at = subst (λ (s : Spot). look t s.0 s.1 ≡ Some entry.node) gives at.at;
            kind = at.kind;
          }

  at_spot : (i : ℕ) (entry : Entry) → slice_get c.entries.items i ≡ Some entry → slice_get spots i ≡ Some (entry_of entry)
  at_spot i entry e = slice_get-map entry_of c.entries.items i ∙ ap (option_map entry_of) e

  only_row : (i : ℕ) (entry : Entry) → slice_get c.entries.items i ≡ Some entry → (spot : Spot) × (slice_get spots i ≡ Some spot)
      × IsEntry t (dirs_of c) h i spot entry
  only_row i entry e =
      let one = each_row i (entry_of entry) (at_spot i entry e) in (
        entry_of entry,
        at_spot i entry e,
        subst (IsEntry t (dirs_of c) h i (entry_of entry)) (same_Some one.0 entry (sym one.1 ∙ e)) one.2,
      )

  is_agent : (i : ℕ) (a : ProcessState) (agent : Agent) → slice_get c.agents.items i ≡ Some agent → agent.process.now ≡ a →
      IsAgent table crew i a agent
  is_agent i a agent is gives = subst (λ b. IsAgent table crew i b agent) gives (agents i agent is)

  are_agents : AreAgents table crew c.agents.items
  are_agents = record {
    each = λ i a e.
        let m = mapped (λ (agent : Agent). agent.process.now) c.agents.items i a e in
        (m.at, m.is, is_agent i a m.at m.is m.gives);
    only = λ i agent e. (
      agent.process.now,
      slice_get-map (λ (agent : Agent). agent.process.now) c.agents.items i
          ∙ ap (option_map (λ (agent : Agent). agent.process.now)) e,
      is_agent i agent.process.now agent e refl,
    );
  }

  low_nodes : (entry : Entry) → Contains c.entries.items entry → entry.node < dirs_of c
  low_nodes entry among =
      let g = among_got c.entries.items entry (among_contained c.entries.items entry among) in
      let low = (rows_low ((entry.dir, entry.name.now), entry.node) (in_rows entry.dir entry.name.now entry.node (entries g.at entry g.is).at)).1 in
      omega (arith, low)

  -- the row of a name
  no_row : (spot : Spot) → ((entry : Entry) → Contains c.entries.items entry → entry_of entry ≡ spot → ⊥) → (o : Option ℕ) →
      look t spot.0 spot.1 ≡ o → look t spot.0 spot.1 ≡ None
  no_row spot never None e = e
  no_row spot never (Some x) e =
      let in_spots = subst (λ xs. Among xs spot) (sym rows_are)
      (among_map (λ row. row.0) t.rows (spot, x) (in_rows spot.0 spot.1 x e)) in
      let m = map_among entry_of c.entries.items spot in_spots in
      absurd (never m.0 (contained c.entries.items m.0 m.1) m.2)

  row_is : (spot : Spot) (row : Option ℕ) → IsRowIn c.entries.items spot row → IsRowOf t (dirs_of c) h spots spot row
  row_is spot None never = no_row spot never (look t spot.0 spot.1) refl
  row_is spot (Some row) found =
      let g = among_got c.entries.items found.0 (among_contained c.entries.items found.0 found.1) in
      let one = only_row g.at found.0 g.is in
      let here : entry_of found.0 ≡ one.0 = same_Some (entry_of found.0) one.0 (sym (at_spot g.at found.0 g.is) ∙ one.1) in
      (g.at, one.1 ∙ ap Some (sym here ∙ found.2), sym found.3 ∙ one.2.row)

  abbrev Marked : Mark → Type 0
  Marked mark = (is_dir t mark.dir ≡ true) × (mark.dir < dirs_of c) × IsRowOf t (dirs_of c) h spots (mark.dir, mark.name.now) mark.row

  is_mark : (mark : Mark) (at : Place) (perms : ℕ) → Among all (at, perms) → IsMarkOf t c.entries.items at mark → Marked mark
  is_mark mark (place.Dir d) perms among is = absurd (None≢Some (mark.dir, mark.name.now) is.spot)
  is_mark mark (place.Slot d name) perms among is =
      let two = if_some (is_dir t d) (d, name) (mark.dir, mark.name.now) is.spot in
      let here : d ≡ mark.dir = ap (λ s. s.0) two.1 in
      let low = veils_low (place.Slot d name, perms) among in
      (ap (is_dir t) (sym here) ∙ two.0, omega (arith, here, low), row_is (mark.dir, mark.name.now) mark.row is.row)

  each_mark : (a : ProcessState) (dir : ℕ) (name : List ℕ) (perms : ℕ) → Contains crew a → perms_kept a (place.Slot dir name) ≡ Some perms →
      is_dir t dir ≡ true → (mark : Mark) × Contains all_marks mark × (mark.dir ≡ dir) × (mark.name.now ≡ name)
  each_mark a dir name perms among own stands =
      let m = marks.each (place.Slot dir name, perms) (dir, name)
      (contained all (place.Slot dir name, perms) (kept_in a (place.Slot dir name) perms among own))
      (ap (λ b. if b then Some (dir, name) else None) stands) in
      (m.0, m.1, ap (λ s. s.0) m.2, ap (λ s. s.1) m.2)

  only_marks : (mark : Mark) → Contains all_marks mark → Marked mark
  only_marks mark among = let m = marks.only mark among in is_mark mark m.0.0 m.0.1 (among_contained all m.0 m.1) m.2

  is_watch : (i y : ℕ) (watch : Watch) → slice_get c.watches.items i ≡ Some watch → watch.dir ≡ y → IsWatch (dirs_of c) n i y watch
  is_watch i y watch is gives =
      let at = guards.each i watch is in
      let low = at.0 in
      let column = at.1 in
      record { dir = gives; low = omega (arith, low, gives); column = omega (arith, column, many) }

  are_watches : AreWatches (dirs_of c) n guarded c.watches.items
  are_watches = record {
    each = λ i y e.
        let m = mapped (λ (w : Watch). w.dir) c.watches.items i y e in (m.at, m.is, is_watch i y m.at m.is m.gives);
    only = λ i watch e. (
      watch.dir,
      slice_get-map (λ (w : Watch). w.dir) c.watches.items i ∙ ap (option_map (λ (w : Watch). w.dir)) e,
      is_watch i watch.dir watch e refl,
    );
  }

  only_watched : (y : ℕ) → Contains guarded y → watches t crew y ≡ true
  only_watched y among =
      let m = map_among (λ (w : Watch). w.dir) c.watches.items y (among_contained guarded y among) in
      let g = among_got c.watches.items m.0 m.1 in
      subst (λ d. watches t crew d ≡ true) m.2 (is_watches m.0.dir (guards.each g.at m.0 g.is).2)

  many_columns : length (columns crew guarded) ≡ n + suc (length c.watches.items)
  many_columns =
      let one = length-append (map ByAgent crew) (Common ∷ map Watching guarded) in
      let two = length-map crew ByAgent in
      let three = length-map guarded Watching in
      let four = length-map c.watches.items (λ (w : Watch). w.dir) in
      let five : length (Common ∷ map Watching guarded) ≡ suc (length (map Watching guarded)) = refl in
      omega (arith, one, two, three, four, five)

  low_watches : (watch : Watch) → Contains c.watches.items watch → watch.dir < dirs_of c
  low_watches watch has = let g = among_got c.watches.items watch (among_contained c.watches.items watch has) in (guards.each g.at watch g.is).0

  shape_is : parts.size.shape ≡ c.shape
  shape_is = ap (λ (s : Size). s.shape) size_is ∙ sized.same

  all_seats : parts.seats.now ≡ numbers (dirs_of c + h)
  all_seats = seats_is ∙ ap numbers (after_made ∙ ap (λ k. dirs_of c + k) hands_are)

  are_entries : AreEntries t (dirs_of c) h spots c.entries.items
  are_entries = record { each = each_row; only = only_row }

  pub worked_out : IsWorkedOut t table c
  worked_out = (
    well,
    record {
      fits = fits;
      each_agent = once;
      each_hand = hands_once crew (devices_told c) once kinds_once;
      each_name = rows_once;
      each_watched = guards.once;
      only_watched = only_watched;
      many = many;
      hands = hands_are;
      columns = columns_are ∙ (let wide = sized.columns in omega (arith, wide, many, many_columns));
      agents = are_agents;
      entries = are_entries;
      in_order = ordered;
      low_nodes = low_nodes;
      watches = are_watches;
      watch_columns = watch_columns;
      on_devices = devices;
      rows = rows_have t well table c parts all_marks once kinds_once kinds_all devices many is_agent hands_are shape_is agents_is devices_is
          all_seats marks_is watches_is sides each_mark only_marks low_watches are_entries
          (λ row d in_rows. entity_fits t table crew (devices_told c) (watches t crew) (dirs_of c) spots guarded fits (DirAt d)
          (got_among (entities (hands_told c) (dirs_of c) spots) row (DirAt d) in_rows)) fits.above;
      only_rows = no_rows t well table c parts all_marks once kinds_once kinds_all devices many is_agent hands_are shape_is agents_is devices_is
          all_seats marks_is watches_is sides each_mark only_marks low_watches are_entries
          (λ row d in_rows. entity_fits t table crew (devices_told c) (watches t crew) (dirs_of c) spots guarded fits (DirAt d)
          (got_among (entities (hands_told c) (dirs_of c) spots) row (DirAt d) in_rows)) fits.above;
      each_side = λ side has. side_among t well table c parts all_marks once kinds_once kinds_all devices many is_agent hands_are shape_is agents_is
          devices_is all_seats marks_is watches_is sides each_mark only_marks low_watches side (among_contained c.sides.items side has);
    },
  )

-- how many words there are
numbered : (n : ℕ) → length (numbers n) ≡ n
numbered zero = refl
numbered (suc n) = let one = length-append (numbers n) (n ∷ []) in let rest = numbered n in omega (arith, one, rest)

pub count_is : (t : Tree) (table : CallTable) (c : Crew) → IsWorkedOut t table c →
    c.columns * (dirs_of c + (c.shape.hands + (c.shape.hands + (c.shape.hands + length c.entries.items)))) ≡ count_told c
count_is t table c out = λ z. out.1.columns z * many_rows z
  where
    many_rows : dirs_of c + (c.shape.hands + (c.shape.hands + (c.shape.hands + length c.entries.items)))
        ≡ length (entities (hands_told c) (dirs_of c) (spots_told c))
    many_rows =
        let hands = hands_told c in
        let names = map NameAt (spots_told c) in
        let drops = map DropsOf hands ++ names in
        let landings = map LandingOf hands ++ drops in
        let made = map MadeBy hands ++ landings in
        let a = length-append (map DirAt (numbers (dirs_of c))) made in
        let b = length-append (map MadeBy hands) landings in
        let d = length-append (map LandingOf hands) drops in
        let e = length-append (map DropsOf hands) names in
        let g = length-map (numbers (dirs_of c)) DirAt in
        let h = length-map hands MadeBy in
        let i = length-map hands LandingOf in
        let j = length-map hands DropsOf in
        let k = length-map (spots_told c) NameAt in
        let l = length-map c.entries.items entry_of in
        let m = numbered (dirs_of c) in
        let n = out.1.hands in
        omega (arith, a, b, d, e, g, h, i, j, k, l, m, n)
