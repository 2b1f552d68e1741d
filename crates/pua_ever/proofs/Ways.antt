-- Which covers are among those that a thing can come under.
use Rattle.pua_ever.proofs.Common.{◌≡◌, ℕ, List, [], ◌∷◌, Bool, true, false, cond, refl, sym, ap, ◌∙◌, inl, inr, Option, Some, None, not}
use Rattle.pua_ever.proofs.Common.{◌&&◌, ◌||◌, ◌==◌, filter, option_map, list_any, list_all, option_eq, nat_cmp, nat_cmp_total}
use Rattle.pua_ever.proofs.Common.{nat_cmp-IsAntisymmetric, false≢true, eq-eqb, eqb-true, and_parts, and_from, or_left, or_right, Tree}
use Rattle.pua_ever.proofs.Common.{Node, WellFormed, Spot, spot_cmp, is_dir, is_dir_kind, look, node_at, sound_from, spots_total}
use Rattle.pua_ever.proofs.Common.{exact_spots, ProcessState, perms_kept, veils, same_place, Place, Cover, Only, same_place_is, has_c, cover_in}
use Rattle.pua_ever.proofs.Common.{Among, among_left, among_right, among_map, map_among, among_filter, filter_among, among_filter_map}
use Rattle.pua_ever.proofs.Common.{is_free, can_yield, is_below, has_c_outside, directories, dir_covers, name_covers, some_dir_moves}
use Rattle.pua_ever.proofs.Common.{file_covers, open_covers, can_move, CallTable, map, subst}
use Rattle.std.specs.Ordering.{is_eq}
use Rattle.std.specs.Cmp.{Equal-is}
use Rattle.std.specs.FinMap.{find as find_key}
use Rattle.pua_tree.proofs.ForCallers.{all_from_found}
use Rattle.pua_policy.specs.States.{veil_at}
use Rattle.pua_policy.specs.declared.place.Place.TheVariants as place
use Rattle.pua_objects.proofs.ForCallers.{among_either, filter_map_among, found_among}
use Rattle.pua_ever.specs.Ever.{opens_at, gives_way, opens_outside, is_way_in, is_dir_entry}
use Rattle.pua_ever.specs.Ever.{veil_cover_at, is_on, kept_on, stays_on, goes_along}
use Rattle.pua_tree.specs.Tree.{device}

-- some element passes
pub any_among : {X : Type 0} (p : X → Bool) (xs : List X) (x : X) → Among xs x → p x ≡ true → list_any p xs ≡ true
any_among p [] x a h = absurd a
any_among p (y ∷ xs) x (inl e) h = or_left (p y) (list_any p xs) (ap p e ∙ h)
any_among p (y ∷ xs) x (inr a) h = or_right (p y) (list_any p xs) (any_among p xs x a h)

-- what some element passes, one of the elements passes
pub any_found : {X : Type 0} (p : X → Bool) (xs : List X) → list_any p xs ≡ true → (x : X) × Among xs x × (p x ≡ true)
any_found p [] e = absurd (false≢true e)
any_found {X = X} p (x ∷ xs) e = by (p x) refl (any_found p xs) e
  where
    by : (b : Bool) → p x ≡ b → (list_any p xs ≡ true → (y : X) × Among xs y × (p y ≡ true)) → (b || list_any p xs) ≡ true →
        (y : X) × Among (x ∷ xs) y × (p y ≡ true)
    by true is more e = (x, inl refl, is)
    by false is more e = let found = more e in (found.0, inr found.1, found.2)

-- what is found by its number is among the nodes
node_among : (k : ℕ) (v : Node) (es : List (ℕ × Node)) → find_key nat_cmp k es ≡ Some v → Among es (k, v)
node_among k v [] e = cc
node_among k v (y ∷ ys) e =
    elim (is_eq (nat_cmp k y.0)) as (λ b. is_eq (nat_cmp k y.0) ≡ b → cond b (Some y.1) (find_key nat_cmp k ys) ≡ Some v →
    Among (y ∷ ys) (k, v)) [
      | true ↦ λ same is.
          let key : k ≡ y.0 = nat_cmp-IsAntisymmetric k y.0 ((Equal-is (nat_cmp k y.0)).0 same) in
          let value : y.1 ≡ v = cc in
          inl (λ i. (sym key i, value i))
      | false ↦ λ other is. inr (node_among k v ys is)
    ] refl e

-- what is true of all elements is true of each
pub all_among : {X : Type 0} (p : X → Bool) (xs : List X) (x : X) → list_all p xs ≡ true → Among xs x → p x ≡ true
all_among p [] x all a = absurd a
all_among p (y ∷ xs) x all (inl e) = ap p (sym e) ∙ (and_parts (p y) (list_all p xs) all).0
all_among p (y ∷ xs) x all (inr a) = all_among p xs x (and_parts (p y) (list_all p xs) all).1 a

-- what is kept at a place is among the veils
veil_among : (vs : List (Place × ℕ)) (at : Place) (perms : ℕ) → veil_at vs at ≡ Some perms → Among vs (at, perms)
veil_among [] at perms e = cc
veil_among (v ∷ vs) at perms e =
    elim (same_place at v.0) as (λ b. same_place at v.0 ≡ b → cond b (Some v.1) (veil_at vs at) ≡ Some perms → Among (v ∷ vs) (at, perms)) [
      | true ↦ λ same is.
          let key : at ≡ v.0 = same_place_is at v.0 same in
          let value : v.1 ≡ perms = cc in
          inl (λ i. (sym key i, value i))
      | false ↦ λ other is. inr (veil_among vs at perms is)
    ] refl e

module _ (t : Tree) (h : ProcessState) where
  pub dir_among : (d : ℕ) → is_dir t d ≡ true → Among (directories t) d
  dir_among d is = by (node_at t d) refl is
    where
      by : (o : Option Node) → node_at t d ≡ o → is_dir_kind (option_map (λ n. n.kind) o) ≡ true → Among (directories t) d
      by None e is = absurd (false≢true is)
      by (Some n) e is = among_map (λ (entry : ℕ × Node). entry.0) (filter is_dir_entry t.nodes) (
        d,
        n,
      ) (among_filter is_dir_entry t.nodes (d, n) is (node_among d n t.nodes e))

  pub kept_among : (at : Place) (perms : ℕ) → perms_kept h at ≡ Some perms → Among (veils h) (at, perms)
  kept_among at perms e = veil_among (veils h) at perms e

  -- a directory is on its device, wherever that goes
  pub on_own : (d : ℕ) → is_on t (stays_on t h d) d ≡ true
  on_own d = by (goes_along t h (device t d))
    where
      by : (b : Bool) → is_on t (cond b None (Some (device t d))) d ≡ true
      by true = refl
      by false = eq-eqb (device t d) (device t d) refl

  -- and on one that it was on
  pub on_same : (d n : ℕ) → device t d ≡ n → is_on t (kept_on t h n) d ≡ true
  on_same d n same = subst (λ n. is_on t (kept_on t h n) d ≡ true) same (on_own d)

  -- what is moved elsewhere goes anywhere
  pub anywhere : (n : ℕ) → goes_along t h n ≡ true → kept_on t h n ≡ None
  anywhere n goes = ap (λ b. cond b None (Some n)) goes

  module _ (on : Option ℕ) where
    -- a way in gives its cover
    way_covers : (d : ℕ) → is_dir t d ≡ true → is_on t on d ≡ true → is_way_in t h d ≡ true → Among (dir_covers t h on) (cover_in t h d)
    way_covers d is here way =
        among_map (cover_in t h) (filter (λ dir. is_on t on dir && is_way_in t h dir) (directories t)) d
        (among_filter (λ dir. is_on t on dir && is_way_in t h dir) (directories t) d (and_from (is_on t on d) _ here way) (dir_among d is))

    -- by its own `c`
    pub way_by_c : (d : ℕ) → is_dir t d ≡ true → is_on t on d ≡ true → has_c (cover_in t h d) ≡ true →
        Among (dir_covers t h on) (cover_in t h d)
    way_by_c d is here has = way_covers d is here (or_left (has_c (cover_in t h d)) _ has)

    -- by a name with a veil of its own
    pub way_by_name : (d : ℕ) (name : List ℕ) (perms : ℕ) → is_dir t d ≡ true → is_on t on d ≡ true →
        perms_kept h (place.Slot d name) ≡ Some perms → has_c (Only perms) ≡ true → is_free t h (d, name) ≡ true
        → Among (dir_covers t h on) (cover_in t h d)
    way_by_name d name perms is here e has free =
        way_covers d is here
        (or_right (has_c (cover_in t h d)) _ (or_left (list_any (λ veil. opens_at t h d veil.0 veil.1) (veils h)) _
        (any_among (λ veil. opens_at t h d veil.0 veil.1) (veils h) (place.Slot d name, perms) (kept_among (place.Slot d name) perms e)
        (and_from (d == d) _ (eq-eqb d d refl) (and_from (has_c (Only perms)) _ has free)))))

    -- by a directory that gives way
    pub way_by_turn : (d : ℕ) (name : List ℕ) (y : ℕ) → is_dir t d ≡ true → is_on t on d ≡ true → look t d name ≡ Some y →
        is_dir t y ≡ true → has_c (cover_in t h y) ≡ true → can_yield t h y ≡ true
        → Among (dir_covers t h on) (cover_in t h d)
    way_by_turn d name y is here e dir has yields =
        way_covers d is here
        (or_right (has_c (cover_in t h d)) _ (or_right (list_any (λ veil. opens_at t h d veil.0 veil.1) (veils h)) _
        (any_among (gives_way t h d) t.rows ((d, name), y) (found_among (d, name) y t.rows e)
        (and_from (d == d) _ (eq-eqb d d refl)
        (and_from (is_dir t y) _ dir (and_from (has_c (cover_in t h y)) _ has yields))))))

    -- those on a device are among those on any
    pub all_within : (c : Cover) → Among (dir_covers t h on) c → Among (dir_covers t h None) c
    all_within c a =
        let test : ℕ → Bool = λ dir. is_on t on dir && is_way_in t h dir in
        let from = map_among (cover_in t h) (filter test (directories t)) c a in
        let here = filter_among test (directories t) from.0 from.1 in
        subst (Among (dir_covers t h None)) from.2
        (among_map (cover_in t h) (filter (is_way_in t h) (directories t)) from.0
        (among_filter (is_way_in t h) (directories t) from.0 (and_parts (is_on t on from.0) _ here.1).1 here.0))

    -- the cover of a name with a veil of its own
    pub name_by_veil : (d : ℕ) (name : List ℕ) (perms : ℕ) → is_dir t d ≡ true → is_on t on d ≡ true →
        perms_kept h (place.Slot d name) ≡ Some perms → has_c (Only perms) ≡ true → is_free t h (d, name) ≡ true
        → Among (name_covers t h on) (Only perms)
    name_by_veil d name perms is here e has free =
        among_filter_map (λ veil. veil_cover_at t h on veil.0 veil.1) (veils h) (
          place.Slot d name,
          perms,
        ) (Only perms) (kept_among (place.Slot d name) perms e)
        (ap (λ b. cond b (Some (Only perms)) None)
        (and_from (is_dir t d) _ is (and_from (is_on t on d) _ here (and_from (has_c (Only perms)) _ has free))))

    -- the cover of a directory with `c` is one of those in which a file can be put
    pub open_by : (d : ℕ) → is_dir t d ≡ true → is_on t on d ≡ true → has_c (cover_in t h d) ≡ true →
        Among (open_covers t h on) (cover_in t h d)
    open_by d is here has =
        among_filter has_c (map (cover_in t h) (filter (is_on t on) (directories t))) (cover_in t h d) has
        (among_map (cover_in t h) (filter (is_on t on) (directories t)) d (among_filter (is_on t on) (directories t) d here (dir_among d is)))

    -- and so is one with `c` under which a directory can come
    pub open_among : (c : Cover) → Among (dir_covers t h on) c → has_c c ≡ true → Among (open_covers t h on) c
    open_among c a has =
        let test : ℕ → Bool = λ dir. is_on t on dir && is_way_in t h dir in
        let from = map_among (cover_in t h) (filter test (directories t)) c a in
        let here = filter_among test (directories t) from.0 from.1 in
        among_filter has_c (map (cover_in t h) (filter (is_on t on) (directories t))) c has
        (subst (Among (map (cover_in t h) (filter (is_on t on) (directories t)))) from.2
        (among_map (cover_in t h) (filter (is_on t on) (directories t)) from.0
        (among_filter (is_on t on) (directories t) from.0 (and_parts (is_on t on from.0) _ here.1).0 here.0)))

    -- and so are the others
    open_all : (c : Cover) → Among (open_covers t h on) c → Among (open_covers t h None) c
    open_all c a =
        let parts = filter_among has_c (map (cover_in t h) (filter (is_on t on) (directories t))) c a in
        let from = map_among (cover_in t h) (filter (is_on t on) (directories t)) c parts.0 in
        let here = filter_among (is_on t on) (directories t) from.0 from.1 in
        subst (Among (open_covers t h None)) from.2
        (among_filter has_c (map (cover_in t h) (filter (is_on t None) (directories t))) (cover_in t h from.0) (ap has_c from.2 ∙ parts.1)
        (among_map (cover_in t h) (filter (is_on t None) (directories t)) from.0
        (among_filter (is_on t None) (directories t) from.0 refl here.0)))

    names_all : (c : Cover) → Among (name_covers t h on) c → Among (name_covers t h None) c
    names_all c a =
        let from = filter_map_among (λ veil. veil_cover_at t h on veil.0 veil.1) (veils h) c a in
        among_filter_map (λ veil. veil_cover_at t h None veil.0 veil.1) (veils h) from.0 c from.1 (by from.0.0 from.0.1 from.2)
      where
        drop : (a b d : Bool) (left : Cover) → cond (a && (b && d)) (Some left) None ≡ Some c → cond (a && d) (Some left) None ≡ Some c
        drop true true d left e = e
        drop true false d left e = cc
        drop false b d left e = e

        by : (at : Place) (perms : ℕ) → veil_cover_at t h on at perms ≡ Some c → veil_cover_at t h None at perms ≡ Some c
        by (place.Slot d name) perms e = drop (is_dir t d) (is_on t on d) (has_c (Only perms) && is_free t h (d, name)) (Only perms) e
        by (place.Dir d) perms e = e

    module _ (table : CallTable) where
      pub moves_by : (c : Cover) → Among (open_covers t h on) c → can_move table h c ≡ true → some_dir_moves t table h on ≡ true
      moves_by c a can = any_among (can_move table h) (open_covers t h on) c a can

      some_all : some_dir_moves t table h on ≡ true → some_dir_moves t table h None ≡ true
      some_all e =
          let one = any_found (can_move table h) (open_covers t h on) e in
          any_among (can_move table h) (open_covers t h None) one.0 (open_all one.0 one.1) one.2

      pub files_all : (c : Cover) → Among (file_covers t table h on) c → Among (file_covers t table h None) c
      files_all c a = elim (among_either (name_covers t h on) _ c a) [
        | inl name ↦ among_left (name_covers t h None) _ c (names_all c name)
        | inr more ↦ among_right (name_covers t h None) _ c (elim (among_either (open_covers t h on) _ c more) [
          | inl other ↦ among_left (open_covers t h None) _ c (open_all c other)
          | inr dir ↦ among_right (open_covers t h None) _ c (by (some_dir_moves t table h on) refl dir)
        ])
      ]
        where
          by : (b : Bool) → some_dir_moves t table h on ≡ b → Among (cond b (dir_covers t h on) []) c →
              Among (cond (some_dir_moves t table h None) (dir_covers t h None) []) c
          by true some a = subst (λ (b : Bool). Among (cond b (dir_covers t h None) []) c) (sym (some_all some)) (all_within c a)
          by false none a = absurd a

      pub file_by_name : (c : Cover) → Among (name_covers t h on) c → Among (file_covers t table h on) c
      file_by_name c a = among_left (name_covers t h on) _ c a

      pub file_by_open : (c : Cover) → Among (open_covers t h on) c → Among (file_covers t table h on) c
      file_by_open c a = among_right (name_covers t h on) _ c (among_left (open_covers t h on) _ c a)

      pub file_by_dir : (c : Cover) → Among (dir_covers t h on) c → some_dir_moves t table h on ≡ true → Among (file_covers t table h on) c
      file_by_dir c a some = among_right (name_covers t h on) _ c (among_right (open_covers t h on) _ c (rw some a))

  -- where nothing outside has `c`, no directory and no name there has
  pub quiet_dir : (y d : ℕ) → has_c_outside t h y ≡ false → is_dir t d ≡ true → is_below t y d ≡ false → has_c (cover_in t h d) ≡ false
  quiet_dir y d none is outside = by (has_c (cover_in t h d)) refl
    where
      by : (b : Bool) → has_c (cover_in t h d) ≡ b → has_c (cover_in t h d) ≡ false
      by false e = e
      by true has = absurd (false≢true (sym none ∙
          or_left _ _ (any_among (λ dir. not (is_below t y dir) && has_c (cover_in t h dir)) (directories t) d (dir_among d is)
          (and_from (not (is_below t y d)) _ (ap not outside) has))))

  pub quiet_name : (y d : ℕ) (name : List ℕ) (perms : ℕ) → has_c_outside t h y ≡ false → is_dir t d ≡ true → is_below t y d ≡ false →
      perms_kept h (place.Slot d name) ≡ Some perms → has_c (Only perms) ≡ false
  quiet_name y d name perms none is outside e = by (has_c (Only perms)) refl
    where
      by : (b : Bool) → has_c (Only perms) ≡ b → has_c (Only perms) ≡ false
      by false e = e
      by true has = absurd (false≢true (sym none ∙
          or_right (list_any (λ dir. not (is_below t y dir) && has_c (cover_in t h dir)) (directories t)) _
          (any_among (λ veil. opens_outside t y veil.0 veil.1) (veils h) (place.Slot d name, perms) (kept_among (place.Slot d name) perms e)
          (and_from (is_dir t d) _ is (and_from (not (is_below t y d)) _ (ap not outside) has)))))

module _ (t : Tree) (well : WellFormed t) where
  -- what is among the nodes as a directory lives
  pub among_dir : (d : ℕ) → Among (directories t) d → is_dir t d ≡ true
  among_dir d a =
      let from = map_among (λ (entry : ℕ × Node). entry.0) (filter is_dir_entry t.nodes) d a in
      let entry = filter_among is_dir_entry t.nodes from.0 from.1 in
      ap (is_dir t) (sym from.2) ∙ lives from.0 entry.1 (all_among agrees t.nodes from.0 all entry.0)
    where
      agrees : (ℕ × Node) → Bool
      agrees entry = not (is_dir_entry entry) || is_dir t entry.0

      found : (k : ℕ) (v : Node) → node_at t k ≡ Some v → agrees (k, v) ≡ true
      found k v e = ap (λ o. not (is_dir_entry (k, v)) || is_dir_kind (option_map (λ n. n.kind) o)) e ∙ either (is_dir_kind (Some v.kind))
        where
          either : (b : Bool) → (not b || b) ≡ true
          either true = refl
          either false = refl

      all : list_all agrees t.nodes ≡ true
      all = all_from_found nat_cmp nat_cmp_total nat_cmp-IsAntisymmetric agrees t.nodes (sound_from t well).nodes_sorted found

      lives : (entry : ℕ × Node) → is_dir_entry entry ≡ true → agrees entry ≡ true → is_dir t entry.0 ≡ true
      lives entry is fits = ap (λ b. not b || is_dir t entry.0) (sym is) ∙ fits

  -- what is among the rows is found there
  pub among_rows : (row : Spot × ℕ) → Among t.rows row → look t row.0.0 row.0.1 ≡ Some row.1
  among_rows row a = same (look t row.0.0 row.0.1) (all_among agrees t.rows row all a)
    where
      agrees : (Spot × ℕ) → Bool
      agrees row = option_eq ◌==◌ (look t row.0.0 row.0.1) (Some row.1)

      all : list_all agrees t.rows ≡ true
      all =
          all_from_found spot_cmp spots_total exact_spots agrees t.rows (sound_from t well).rows_sorted
          (λ s x e. ap (λ o. option_eq ◌==◌ o (Some x)) e ∙ eq-eqb x x refl)

      same : (o : Option ℕ) → option_eq ◌==◌ o (Some row.1) ≡ true → o ≡ Some row.1
      same None e = absurd (false≢true e)
      same (Some y) e = ap Some (eqb-true y row.1 e)
