-- What is known of each tree on the way, by the facts of the beginning, where several processes ask.
use Rattle.pua_jointly.proofs.Common.{◌≡◌, ◌≢◌, ◌⊎◌, ◌≤◌, ◌<◌, ℕ, zero, suc, List, Bool, true, false, cond, refl, sym, ap, subst, ◌∙◌, inl}
use Rattle.pua_jointly.proofs.Common.{inr, arith, Option, Some, None, ◌==◌, ◌||◌, is_some, option_map, false≢true, and_parts}
use Rattle.pua_jointly.proofs.Common.{or_left, or_right, eqb-true, eq-eqb, Tree, WellFormed, Spot, spot_cmp, spots_total, exact_spots, is_dir}
use Rattle.pua_jointly.proofs.Common.{is_dir_kind, look, kind_at, above, empty_tree, Reaches}
use Rattle.pua_jointly.proofs.Common.{sound_from, row_says, row_of, same_Some, Some≢None, CallTable, ProcessState, perms_kept, Only}
use Rattle.pua_jointly.proofs.Common.{has_c, IsMissing, covered_verdict, is_allowed, has_veil, All}
use Rattle.pua_jointly.proofs.Common.{is_below, can_move, VeilsStand, New, NewDir, NewOthers, NewFile}
use Rattle.pua_jointly.proofs.Common.{NewLink, NewSock, NewFifo}
use Rattle.pua_ever.specs.Ever.{row_cover, can_link}
use Rattle.pua_objects.proofs.ForCallers.{covers_descend}
use Rattle.pua_objects.specs.Laws.{own_or}
use Rattle.pua_objects.specs.Objects.{cover_in}
use Rattle.pua_script.specs.Confinement.{UncoveredStay}
use Rattle.pua_tree.specs.Tree.{device, is_living, is_mount, node_at, is_empty, has_no_row}
use Rattle.pua_tree.specs.Laws.{KeepsDevices}
use Rattle.pua_jointly.proofs.Devices.{device_up, keeps, same_mount, was_near}
use Rattle.std.proofs.lemmas.Bool.{not-true}
use Rattle.std.specs.List.{Contains}
use Rattle.pua_tree.proofs.ForCallers.{Sound, above_dir, above_is, is_living_dir, none_found, same_dir}
use Rattle.pua_policy.specs.States.{new_process}
use Rattle.pua_policy.specs.declared.answer.Cover.TheVariants.{Nothing}
use Rattle.pua_policy.specs.declared.place.Place.TheVariants as place
use Rattle.pua_ever.proofs.ForCallers.{Grown, Written, by_name, by_turn, From, IsNear, TurnsNear, is_new, is_moved, is_linked, Born, name_cover, new_kind}
use Rattle.pua_ever.proofs.ForCallers.{file_no_dir, given_or_new, dir_row, slot_row, own_dir, under_dir, below_next}
use Rattle.pua_ever.proofs.ForCallers.{below_self, below_up, above_row, root_below, not_empty, way_up}
use Rattle.pua_jointly.specs.Jointly.{Hand, seat_device, source_device, Seat, Source, Old, Made, Row, Maker, Fact, StandsIn, NotAbove, DirCover, NameCover, Free, WayIn, Writes}
use Rattle.pua_jointly.specs.Jointly.{Makes, StandsAt, may_take, is_standing, own_veil, name_veil, kind_of_source, Can, stays_in, moved_in, born_in}
use Rattle.pua_jointly.specs.Jointly.{not_above_root, not_above_up, not_above_made, dir_own, dir_root, dir_within, name_own, name_within}
use Rattle.pua_jointly.specs.Jointly.{free_none, free_made, free_dir, free_other, way_in_by_c, way_in_by_name, way_in_by_turn, writes_at}
use Rattle.pua_jointly.specs.Jointly.{makes_at, stays_at, moved_at, born_at}
use Rattle.pua_jointly.proofs.Untaken.{RowsStay}

abbrev seat_number : Seat → ℕ
seat_number (Old d) = d
seat_number (Made maker) = 0

abbrev is_old : Seat → Bool
is_old (Old d) = true
is_old (Made maker) = false

-- how far up the root is
module _ (v : Tree) (well : WellFormed v) where
  once : (n m d : ℕ) → Reaches v n d → Reaches v m d → n ≡ m
  once zero zero d a b = refl
  once zero (suc m) d a b = absurd (b.0 a)
  once (suc n) zero d a b = absurd (a.0 b)
  once (suc n) (suc m) d a b = ap suc (once n m (above v d) a.1 b.1)

  depth_below : (x steps d : ℕ) → Reaches v steps d → is_dir v d ≡ true → is_below v x d ≡ true → (m : ℕ) × Reaches v m x × (m ≤ steps)
  depth_below x zero d root is below = by (d == x) refl
    where
      by : (b : Bool) → (d == x) ≡ b → (m : ℕ) × Reaches v m x × (m ≤ 0)
      by true same = (0, subst (Reaches v 0) (eqb-true d x same) root, omega arith)
      by false differs =
          let other : x ≢ 0 = λ e. false≢true (sym differs ∙ eq-eqb d x (root ∙ sym e)) in
          absurd (false≢true (sym (ap (is_below v x) root ∙ root_below v well x other) ∙ below))
  depth_below x (suc steps) d up is below = by (d == x) refl (depth_below x steps (above v d) up.1 (above_dir v (sound_from v well) d is up.0))
    where
      by : (b : Bool) → (d == x) ≡ b → (is_below v x (above v d) ≡ true → (m : ℕ) × Reaches v m x × (m ≤ steps)) →
          (m : ℕ) × Reaches v m x × (m ≤ suc steps)
      by true same rest = (suc steps, subst (Reaches v (suc steps)) (eqb-true d x same) up, omega arith)
      by false differs rest =
          let found = rest (sym (below_up v well x d differs up.0 is) ∙ below) in
          let less = found.2 in (found.0, found.1, omega (arith, less))

  -- no directory stands below itself
  pub acyclic : (s : Spot) (x : ℕ) → look v s.0 s.1 ≡ Some x → is_dir v x ≡ true → is_below v x s.0 ≡ false
  acyclic s x e is = by (is_below v x s.0) refl
    where
      told : is_dir v s.0 ≡ true
      told = (row_says v (sound_from v well) s x e).0

      n : x ≢ 0
      n = (row_says v (sound_from v well) s x e).3

      by : (b : Bool) → is_below v x s.0 ≡ b → is_below v x s.0 ≡ false
      by false outside = outside
      by true below =
          let way = way_up v well 0 s.0 told in
          let found = depth_below x way.0 s.0 way.1 told below in
          let whole : Reaches v (suc way.0) x = (n, subst (Reaches v way.0) (sym (above_row v well 0 s x e is)) way.1) in
          let same : found.0 ≡ suc way.0 = once found.0 (suc way.0) x found.1 whole in
          let less : found.0 ≤ way.0 = found.2 in
          absurd (omega (arith, same, less))

-- where what is no directory came from: a row of the beginning, the one in which it stands now if it stood there then, or it was made
pub data Known (t0 : Tree) (s : Spot) (x : ℕ) : Source → Type 0 where
  of_then : (row : Spot) → look t0 row.0 row.1 ≡ Some x → (look t0 s.0 s.1 ≡ Some x → row ≡ s) → Known t0 s x (Row row)
  of_maker : (new : New) (maker : Hand) → t0.next ≤ x → Known t0 s x (Maker new maker)

known_elsewhere : (t0 : Tree) (s r : Spot) (x : ℕ) → (look t0 s.0 s.1 ≡ Some x → ⊥) → {source : Source} → Known t0 r x source →
    Known t0 s x source
known_elsewhere t0 s r x never (of_then row at own) = of_then row at (λ same. absurd (never same))
known_elsewhere t0 s r x never (of_maker new maker from) = of_maker new maker from

pub row_kind : (t0 : Tree) (table : CallTable) (r : Spot) (x : ℕ) → look t0 r.0 r.1 ≡ Some x → kind_at t0 x ≡ kind_of_source t0 table (Row r)
row_kind t0 table r x at = rw at refl

module _ (table : CallTable) (t0 : Tree) (crew : List ProcessState) (well0 : WellFormed t0) where
  abbrev Can0 : Fact → Type 0
  Can0 fact = Can t0 table crew fact

  pub record Came (u : Tree) (seat : ℕ → Seat) (s : Spot) (x : ℕ) : Type 0 where
    pub source : Source
    pub known : Known t0 s x source
    pub kinds : kind_at u x ≡ kind_of_source t0 table source
    pub can_stand : Can0 (StandsAt source (seat s.0) s.1)
    pub near : source_device t0 source ≡ device u s.0

  pub record Seated (u : Tree) (seat : ℕ → Seat) : Type 0 where
    pub old : (d : ℕ) → d < t0.next → seat d ≡ Old d
    pub new : (d : ℕ) → t0.next ≤ d → is_living u d ≡ true → (maker : Hand) × (seat d ≡ Made maker)

  pub record Knows (u : Tree) : Type 0 where
    pub well : WellFormed u
    pub seat : ℕ → Seat
    pub seated : Seated u seat
    pub on : (d : ℕ) → is_dir u d ≡ true → seat_device t0 (seat d) ≡ device u d
    pub dirs : (s : Spot) (x : ℕ) → look u s.0 s.1 ≡ Some x → is_dir u x ≡ true → Can0 (StandsIn (seat x) (seat s.0))
    pub others : (s : Spot) (x : ℕ) → look u s.0 s.1 ≡ Some x → is_dir u x ≡ false → Came u seat s x
    pub old : (x : ℕ) → x < t0.next → is_living u x ≡ true → node_at u x ≡ node_at t0 x
    pub gone : (s : Spot) (y : ℕ) → look t0 s.0 s.1 ≡ Some y → (look u s.0 s.1 ≡ Some y) ⊎ Can0 (Free (Old s.0) s.1)
    pub next : t0.next ≤ u.next

  below_first : (x : ℕ) → is_living t0 x ≡ true → x < t0.next
  below_first x = below_next t0 new_process well0 x

  below_dir : (d : ℕ) → is_dir t0 d ≡ true → d < t0.next
  below_dir d is = below_first d (is_living_dir t0 d is)

  -- it is so at the beginning
  pub knows_first : Knows t0
  knows_first = record {
    well = well0;
    seat = Old;
    seated = record { old = λ d below. refl; new = λ d from lives. let below = below_first d lives in absurd (omega arith) };
    on = λ d is. refl;
    dirs = λ s x e is. stays_in s.1 e is;
    others = λ s x e other. record {
      source = Row s;
      known = of_then s e (λ same. refl);
      kinds = row_kind t0 table s x e;
      can_stand = stays_at x e other;
      near = refl;
    };
    old = λ x below lives. refl;
    gone = λ s y e. inl e;
    next = omega arith;
  }

  -- a directory is not above one that isn't below it
  module _ (v : Tree) (well : WellFormed v) (seat : ℕ → Seat) (seated : Seated v seat)
      (stands_in : (s : Spot) (x : ℕ) → look v s.0 s.1 ≡ Some x → is_dir v x ≡ true → Can0 (NotAbove (seat x) (seat s.0)) →
      Can0 (StandsIn (seat x) (seat s.0))) where
    other_seat : (d y : ℕ) → is_living v d ≡ true → (d == y) ≡ false → seat d ≢ Old y
    other_seat d y lives differs e = elim (given_or_new t0 d) [
      | inl below ↦ false≢true (sym differs ∙ eq-eqb d y (ap seat_number (sym (seated.old d below) ∙ e)))
      | inr from ↦ false≢true (ap is_old (sym (seated.new d from lives).1 ∙ e))
    ]

    not_above_in : (steps d : ℕ) → Reaches v steps d → is_dir v d ≡ true → (y : ℕ) → is_living v y ≡ true → is_below v y d ≡ false →
        Can0 (NotAbove (seat y) (seat d))
    not_above_in zero d root is y lives outside = elim (given_or_new t0 y) [
      | inr from ↦ subst (λ q. Can0 (NotAbove q (seat d))) (sym (seated.new y from lives).1) not_above_made
      | inl below ↦ subst (λ q. Can0 (NotAbove q (seat d))) (sym (seated.old y below))
          (subst (λ q. Can0 (NotAbove (Old y) q)) (sym (ap seat root ∙ seated.old 0 (below_dir 0 well0.root)))
          (not_above_root (λ e. false≢true (sym outside ∙ below_self v well y d (eq-eqb d y (root ∙ sym e)) is))))
    ]
    not_above_in (suc steps) d up is y lives outside =
        above_all (not_above_in steps (above v d) up.1 (above_dir v (sound_from v well) d is up.0))
      where
        row : (s : Spot) × (look v s.0 s.1 ≡ Some d) × (above v d ≡ s.0)
        row = row_of v (sound_from v well) d is up.0

        above_all : ((z : ℕ) → is_living v z ≡ true → is_below v z (above v d) ≡ false → Can0 (NotAbove (seat z) (seat (above v d)))) →
            Can0 (NotAbove (seat y) (seat d))
        above_all rest = elim (given_or_new t0 y) [
          | inr from ↦ subst (λ q. Can0 (NotAbove q (seat d))) (sym (seated.new y from lives).1) not_above_made
          | inl below ↦ subst (λ q. Can0 (NotAbove q (seat d))) (sym (seated.old y below)) (by below (d == y) refl)
        ]
          where
            over : (z : ℕ) → is_living v z ≡ true → is_below v z (above v d) ≡ false → Can0 (NotAbove (seat z) (seat row.0.0))
            over z alive out = subst (λ q. Can0 (NotAbove (seat z) (seat q))) row.2 (rest z alive out)

            mine : Can0 (StandsIn (seat d) (seat row.0.0))
            mine = stands_in row.0 d row.1 is
                (over d (is_living_dir v d is) (ap (is_below v d) row.2 ∙ acyclic v well row.0 d row.1 is))

            by : y < t0.next → (b : Bool) → (d == y) ≡ b → Can0 (NotAbove (Old y) (seat d))
            by below true same = absurd (false≢true (sym outside ∙ below_self v well y d same is))
            by below false differs =
                not_above_up (seat row.0.0) (other_seat d y (is_living_dir v d is) differs) mine
                (subst (λ q. Can0 (NotAbove q (seat row.0.0))) (seated.old y below)
                (over y lives (sym (below_up v well y d differs up.0 is) ∙ outside)))

    pub not_above_all : (d : ℕ) → is_dir v d ≡ true → (y : ℕ) → is_living v y ≡ true → is_below v y d ≡ false →
        Can0 (NotAbove (seat y) (seat d))
    not_above_all d is = let way = way_up v well 0 d is in not_above_in way.0 d way.1 is

    pub stands_in_all : (s : Spot) (x : ℕ) → look v s.0 s.1 ≡ Some x → is_dir v x ≡ true → Can0 (StandsIn (seat x) (seat s.0))
    stands_in_all s x e is =
        stands_in s x e is (not_above_all s.0 (row_says v (sound_from v well) s x e).0 x (is_living_dir v x is) (acyclic v well s x e is))

  -- what covers directories and names
  module _ (u : Tree) (k : Knows u) (a : ProcessState) (stand : VeilsStand t0 a) where
    su : Sound u
    su = sound_from u k.well

    -- a directory that stands now stood at the beginning, or was made
    seat_stands : (d : ℕ) → is_dir u d ≡ true → is_standing t0 (k.seat d) ≡ true
    seat_stands d is = elim (given_or_new t0 d) [
      | inl below ↦ ap (is_standing t0) (k.seated.old d below) ∙ sym (same_dir t0 u d (k.old d below (is_living_dir u d is))) ∙ is
      | inr from ↦ ap (is_standing t0) (k.seated.new d from (is_living_dir u d is)).1
    ]

    own_seat : (d perms : ℕ) → perms_kept a (place.Dir d) ≡ Some perms → own_veil a (k.seat d) ≡ Some perms
    own_seat d perms e = ap (own_veil a) (k.seated.old d (stand (place.Dir d) perms e)) ∙ e

    bare_seat : (d : ℕ) → is_living u d ≡ true → perms_kept a (place.Dir d) ≡ None → own_veil a (k.seat d) ≡ None
    bare_seat d lives none = elim (given_or_new t0 d) [
      | inl below ↦ ap (own_veil a) (k.seated.old d below) ∙ none
      | inr from ↦ ap (own_veil a) (k.seated.new d from lives).1
    ]

    bare_name : (d : ℕ) (name : List ℕ) → is_living u d ≡ true → perms_kept a (place.Slot d name) ≡ None →
        name_veil a (k.seat d) name ≡ None
    bare_name d name lives none = elim (given_or_new t0 d) [
      | inl below ↦ ap (λ q. name_veil a q name) (k.seated.old d below) ∙ none
      | inr from ↦ ap (λ q. name_veil a q name) (k.seated.new d from lives).1
    ]

    pub own_name : (d : ℕ) (name : List ℕ) (perms : ℕ) → perms_kept a (place.Slot d name) ≡ Some perms →
        name_veil a (k.seat d) name ≡ Some perms
    own_name d name perms e = ap (λ q. name_veil a q name) (k.seated.old d (stand (place.Slot d name) perms e)) ∙ e

    root_cover : Can0 (DirCover a (k.seat 0) (cover_in u a 0))
    root_cover = by (perms_kept a (place.Dir 0)) refl
      where
        zero_old : k.seat 0 ≡ Old 0
        zero_old = k.seated.old 0 (below_dir 0 well0.root)

        by : (o : Option ℕ) → perms_kept a (place.Dir 0) ≡ o → Can0 (DirCover a (k.seat 0) (cover_in u a 0))
        by (Some perms) e =
            let covered : cover_in u a 0 ≡ Only perms =
            (covers_descend u a k.well).root ∙ ap (λ o. own_or o (cond (has_veil a.veils) Nothing All)) e in
            subst (λ c. Can0 (DirCover a (k.seat 0) c)) (sym covered) (dir_own (ap (is_standing t0) zero_old ∙ well0.root) (own_seat 0 perms e))
        by None e =
            let covered : cover_in u a 0 ≡ cond (has_veil a.veils) Nothing All =
            (covers_descend u a k.well).root ∙ ap (λ o. own_or o (cond (has_veil a.veils) Nothing All)) e in
            subst (λ q. Can0 (DirCover a q (cover_in u a 0))) (sym zero_old)
            (subst (λ c. Can0 (DirCover a (Old 0) c)) (sym covered) (dir_root e))

    dir_cover_in : (steps d : ℕ) → Reaches u steps d → is_dir u d ≡ true → Can0 (DirCover a (k.seat d) (cover_in u a d))
    dir_cover_in zero d root is = subst (λ z. Can0 (DirCover a (k.seat z) (cover_in u a z))) (sym root) root_cover
    dir_cover_in (suc steps) d up is = by (perms_kept a (place.Dir d)) refl (dir_cover_in steps (above u d) up.1 (above_dir u su d is up.0))
      where
        row : (s : Spot) × (look u s.0 s.1 ≡ Some d) × (above u d ≡ s.0)
        row = row_of u su d is up.0

        by : (o : Option ℕ) → perms_kept a (place.Dir d) ≡ o → Can0 (DirCover a (k.seat (above u d)) (cover_in u a (above u d))) →
            Can0 (DirCover a (k.seat d) (cover_in u a d))
        by (Some perms) e over =
            subst (λ c. Can0 (DirCover a (k.seat d) c)) (sym (own_dir u a k.well d perms is up.0 e)) (dir_own (seat_stands d is) (own_seat d perms e))
        by None e over =
            subst (λ c. Can0 (DirCover a (k.seat d) c)) (sym (under_dir u a k.well row.0 d is row.1 e))
            (dir_within (k.seat row.0.0) (bare_seat d (is_living_dir u d is) e) (k.dirs row.0 d row.1 is)
            (subst (λ z. Can0 (DirCover a (k.seat z) (cover_in u a z))) row.2 over))

    pub dir_cover_all : (d : ℕ) → is_dir u d ≡ true → Can0 (DirCover a (k.seat d) (cover_in u a d))
    dir_cover_all d is = let way = way_up u k.well 0 d is in dir_cover_in way.0 d way.1 is

    pub name_cover_all : (s : Spot) → is_dir u s.0 ≡ true →
        Can0 (NameCover a (k.seat s.0) s.1 (own_or (perms_kept a (place.Slot s.0 s.1)) (cover_in u a s.0)))
    name_cover_all s is = by (perms_kept a (place.Slot s.0 s.1)) refl
      where
        by : (o : Option ℕ) → perms_kept a (place.Slot s.0 s.1) ≡ o → Can0 (NameCover a (k.seat s.0) s.1 (own_or o (cover_in u a s.0)))
        by (Some perms) e = name_own (seat_stands s.0 is) (own_name s.0 s.1 perms e)
        by None e = name_within (bare_name s.0 s.1 (is_living_dir u s.0 is) e) (dir_cover_all s.0 is)

  -- a name at which nothing stands could come to be free
  pub free_missing : (u : Tree) (k : Knows u) (s : Spot) → is_dir u s.0 ≡ true → look u s.0 s.1 ≡ None →
      Can0 (Free (k.seat s.0) s.1)
  free_missing u k s is none = elim (given_or_new t0 s.0) [
    | inr from ↦ subst (λ q. Can0 (Free q s.1)) (sym (k.seated.new s.0 from (is_living_dir u s.0 is)).1) free_made
    | inl below ↦ subst (λ q. Can0 (Free q s.1)) (sym (k.seated.old s.0 below)) (by (look t0 s.0 s.1) refl)
  ]
    where
      by : (o : Option ℕ) → look t0 s.0 s.1 ≡ o → Can0 (Free (Old s.0) s.1)
      by None e = free_none e
      by (Some y) e = elim (k.gone s y e) [ inl at ↦ absurd (Some≢None y (sym at ∙ none)) | inr free ↦ free ]

  -- and so could what stood in a directory that is empty
  pub free_emptied : (u : Tree) (k : Knows u) (d : ℕ) → is_empty u d ≡ true → (name : List ℕ) (x : ℕ) → look t0 d name ≡ Some x →
      Can0 (Free (Old d) name)
  free_emptied u k d empty name x then = elim (k.gone (d, name) x then) [
    | inr free ↦ free
    | inl at ↦ absurd (false≢true (sym (none_found spot_cmp spots_total exact_spots (λ (q : Spot × ℕ). q.0.0 == d) u.rows
        (not-true _ (and_parts (is_dir u d) (has_no_row u d) empty).1) (d, name) x at) ∙ eq-eqb d d refl))
  ]

  -- one request
  module _ (a : ProcessState) (among : Contains crew a) (stand : VeilsStand t0 a) (t u : Tree) (k : Knows t)
      (well : WellFormed u) (grown : Grown table t a u) (spared : UncoveredStay a t u) (takes : (may_take table a ≡ true) ⊎ RowsStay t u) where
    st : Sound t
    st = sound_from t k.well

    sound_u : Sound u
    sound_u = sound_from u well

    abbrev seat : ℕ → Seat
    seat x = cond (x == t.next) (Made (a, device u x)) (k.seat x)

    same_seat : (x : ℕ) → x < t.next → seat x ≡ k.seat x
    same_seat x below = by (x == t.next) refl
      where
        by : (b : Bool) → (x == t.next) ≡ b → cond b (Made (a, device u x)) (k.seat x) ≡ k.seat x
        by false e = refl
        by true e = let same = eqb-true x t.next e in absurd (omega (arith, below, same))

    lives_seat : (x : ℕ) → is_living t x ≡ true → seat x ≡ k.seat x
    lives_seat x lives = same_seat x (below_next t a k.well x lives)

    dir_seat : (d : ℕ) → is_dir t d ≡ true → seat d ≡ k.seat d
    dir_seat d is = lives_seat d (is_living_dir t d is)

    born_seat : (x : ℕ) → x ≡ t.next → seat x ≡ Made (a, device u x)
    born_seat x new = ap (λ b. cond b (Made (a, device u x)) (k.seat x)) (eq-eqb x t.next new)

    seated : Seated u seat
    seated = record {
      old = λ d below. let more = k.next in same_seat d (omega (arith, below, more)) ∙ k.seated.old d below;
      new = λ d from lives. elim (grown.nodes d lives) [
        | inl same ↦ (let was : is_living t d ≡ true = sym (ap is_some same) ∙ lives in
            let one = k.seated.new d from was in (one.0, lives_seat d was ∙ one.1))
        | inr born ↦ ((a, device u d), born_seat d born.new)
      ];
    }

    same_node : (x : ℕ) → is_living t x ≡ true → is_living u x ≡ true → node_at u x ≡ node_at t x
    same_node x was is = elim (grown.nodes x is) [
      | inl same ↦ same
      | inr born ↦ (let below = below_next t a k.well x was in let new = born.new in absurd (omega arith))
    ]

    lives_in : (s : Spot) (x : ℕ) → look u s.0 s.1 ≡ Some x → is_living u x ≡ true
    lives_in s x e = (row_says u (sound_from u well) s x e).2

    over_in : (s : Spot) (x : ℕ) → look u s.0 s.1 ≡ Some x → is_dir u s.0 ≡ true
    over_in s x e = (row_says u (sound_from u well) s x e).0

    -- a directory that moves is on the device of the directory into which it moves
    dir_near : (to x : ℕ) → is_dir t x ≡ true → (from : From table t a x) → IsNear table t a to x from → device t x ≡ device t to
    dir_near to x dir (is_new new) near = let below = below_next t a k.well x (is_living_dir t x dir) in absurd (omega (arith, below, new))
    dir_near to x dir (is_moved r er can) near = sym (ap (λ b. cond b (device t x) (device t r.0)) dir) ∙ near
    dir_near to x dir (is_linked r er plain can) near = absurd (false≢true (sym plain ∙ dir))

    -- so it keeps its device
    keep : KeepsDevices t u
    keep = keeps t u st sound_u (λ d was is. same_node d (is_living_dir t d was) (is_living_dir u d is))
        (λ s d was is row. elim (grown.rows s d row) [
          | inl there ↦ was_near t st s d was there
          | inr put ↦ (put.lives, λ none. sym (dir_near s.0 d was put.from put.near))
        ])

    on_then : (d : ℕ) → is_dir u d ≡ true → seat_device t0 (seat d) ≡ device u d
    on_then d is = elim (grown.nodes d (is_living_dir u d is)) [
      | inl same ↦
          (let was : is_dir t d ≡ true = sym (same_dir t u d same) ∙ is in
          ap (seat_device t0) (dir_seat d was) ∙ k.on d was ∙ sym (keep d was is))
      | inr born ↦ ap (seat_device t0) (born_seat d born.new)
    ]

    -- what is made is on the device of the directory in which it is made
    new_device : (s : Spot) (x : ℕ) → look u s.0 s.1 ≡ Some x → is_dir u x ≡ true → is_mount u x ≡ false → is_dir t s.0 ≡ true →
        device u x ≡ device t s.0
    new_device s x e is none over =
        let other = (row_says u sound_u s x e).3 in
        device_up u sound_u x is other none ∙ ap (device u) (above_is u x s other (sound_u.once x is other) e) ∙ keep s.0 over (over_in s x e)

    dir_cover_t : (d : ℕ) → is_dir t d ≡ true → Can0 (DirCover a (k.seat d) (cover_in t a d))
    dir_cover_t = dir_cover_all t k a stand

    name_cover_t : (s : Spot) → is_dir t s.0 ≡ true →
        Can0 (NameCover a (k.seat s.0) s.1 (own_or (perms_kept a (place.Slot s.0 s.1)) (cover_in t a s.0)))
    name_cover_t = name_cover_all t k a stand

    -- what stands still, has `c` and is no mount point can be taken away
    row_c : may_take table a ≡ true → (s : Spot) (y : ℕ) → look t0 s.0 s.1 ≡ Some y → look t s.0 s.1 ≡ Some y → is_mount t y ≡ false →
        has_c (row_cover t a s y) ≡ true → Can0 (Free (Old s.0) s.1)
    row_c may s y then at none has = by (is_dir t y) refl
      where
        told0 : (is_dir t0 s.0 ≡ true) × (is_living t0 y ≡ true)
        told0 = let told = row_says t0 (sound_from t0 well0) s y then in (told.0, told.2)

        told : (is_dir t s.0 ≡ true) × (is_living t y ≡ true)
        told = let told = row_says t st s y at in (told.0, told.2)

        below : y < t0.next
        below = below_first y told0.1

        over_below : s.0 < t0.next
        over_below = below_dir s.0 told0.0

        kinds : is_dir t y ≡ is_dir t0 y
        kinds = same_dir t0 t y (k.old y below told.1)

        by : (b : Bool) → is_dir t y ≡ b → Can0 (Free (Old s.0) s.1)
        by true is =
            free_dir a y (cover_in t a y) among may then (sym kinds ∙ is) (sym (same_mount t0 t y (k.old y below told.1)) ∙ none)
            (subst (λ q. Can0 (DirCover a q (cover_in t a y))) (k.seated.old y below) (dir_cover_t y is))
            (ap has_c (sym (dir_row t a k.well s y is)) ∙ has)
        by false other =
            free_other a y (own_or (perms_kept a (place.Slot s.0 s.1)) (cover_in t a s.0)) among may then (sym kinds ∙ other)
            (subst (λ q. Can0 (NameCover a q s.1 (own_or (perms_kept a (place.Slot s.0 s.1)) (cover_in t a s.0)))) (k.seated.old s.0 over_below)
            (name_cover_t s told.0))
            (ap has_c (sym (slot_row t a k.well s y other)) ∙ has)

    -- so it stays, or its name could come to be free
    stays_or_free : (s : Spot) (y : ℕ) → look t0 s.0 s.1 ≡ Some y → look t s.0 s.1 ≡ Some y →
        (look u s.0 s.1 ≡ Some y) ⊎ Can0 (Free (Old s.0) s.1)
    stays_or_free s y then at = by (is_mount t y) (has_c (row_cover t a s y)) refl refl
      where
        by : (m b : Bool) → is_mount t y ≡ m → has_c (row_cover t a s y) ≡ b → (look u s.0 s.1 ≡ Some y) ⊎ Can0 (Free (Old s.0) s.1)
        by true b mount has = inl (grown.mounts s y at mount)
        by false true none has = elim takes [ inl may ↦ inr (row_c may s y then at none has) | inr stays ↦ inl (stays s y at) ]
        by false false none lacks = inl (spared s y at lacks).row

    gone_then : (s : Spot) (y : ℕ) → look t0 s.0 s.1 ≡ Some y → (look u s.0 s.1 ≡ Some y) ⊎ Can0 (Free (Old s.0) s.1)
    gone_then s y then = elim (k.gone s y then) [ inr free ↦ inr free | inl at ↦ stays_or_free s y then at ]

    -- where something comes to stand, it stood, or the name could come to be free
    free_or_same : (s : Spot) (x : ℕ) → look u s.0 s.1 ≡ Some x → is_dir t s.0 ≡ true →
        (look t s.0 s.1 ≡ Some x) ⊎ Can0 (Free (k.seat s.0) s.1)
    free_or_same s x e over = elim (given_or_new t0 s.0) [
      | inr from ↦ inr (subst (λ q. Can0 (Free q s.1)) (sym (k.seated.new s.0 from (is_living_dir t s.0 over)).1) free_made)
      | inl below ↦ by (λ free. subst (λ q. Can0 (Free q s.1)) (sym (k.seated.old s.0 below)) free) (look t0 s.0 s.1) refl
    ]
      where
        by : (Can0 (Free (Old s.0) s.1) → Can0 (Free (k.seat s.0) s.1)) → (o : Option ℕ) → look t0 s.0 s.1 ≡ o →
            (look t s.0 s.1 ≡ Some x) ⊎ Can0 (Free (k.seat s.0) s.1)
        by conv None then = inr (conv (free_none then))
        by conv (Some y) then = elim (k.gone s y then) [
          | inr free ↦ inr (conv free)
          | inl at ↦ elim (stays_or_free s y then at) [
            | inl stays ↦ inl (at ∙ ap Some (same_Some y x (sym stays ∙ e)))
            | inr free ↦ inr (conv free)
          ]
        ]

    named_c : (s : Spot) → has_c (name_cover table t a s) ≡ true →
        has_c (own_or (perms_kept a (place.Slot s.0 s.1)) (cover_in t a s.0)) ≡ true
    named_c s has = ap has_c (sym ((covers_descend t a k.well).at_name s.0 s.1 None)) ∙ has

    -- so it is in the tree before
    not_above_t : (d : ℕ) → is_dir t d ≡ true → (y : ℕ) → is_living t y ≡ true → is_below t y d ≡ false → Can0 (NotAbove (k.seat y) (k.seat d))
    not_above_t = not_above_all t k.well k.seat k.seated (λ s x e is clear. k.dirs s x e is)

    -- a directory that gives way
    module _ (s : Spot) (x y : ℕ) (at : look t s.0 s.1 ≡ Some y) (empty : is_empty t y ≡ true) (has : has_c (cover_in t a y) ≡ true)
        (is : is_dir t x ≡ true) (differs : (x == y) ≡ false) (turns : device t y ≡ device t s.0) (near : device t x ≡ device t s.0) where
      told : (is_dir t s.0 ≡ true) × (is_living t y ≡ true) × (y ≢ 0)
      told = let told = row_says t st s y at in (told.0, told.2, told.3)

      parts : (is_dir t y ≡ true) × (has_no_row t y ≡ true)
      parts = and_parts (is_dir t y) (has_no_row t y) empty

      lives_x : is_living t x ≡ true
      lives_x = is_living_dir t x is

      outside : is_below t y x ≡ false
      outside = by (is_below t y x) refl
        where
          by : (b : Bool) → is_below t y x ≡ b → is_below t y x ≡ false
          by false out = out
          by true below = let way = way_up t k.well 0 x is in absurd (not_empty t k.well y told.2 way.0 x way.1 is differs below parts.1)

      other : k.seat x ≢ Old y
      other e = elim (given_or_new t0 x) [
        | inl below ↦ false≢true (sym differs ∙ eq-eqb x y (ap seat_number (sym (k.seated.old x below) ∙ e)))
        | inr from ↦ false≢true (ap is_old (sym (k.seated.new x from lives_x).1 ∙ e))
      ]

      turn : (r : Spot) → look t r.0 r.1 ≡ Some x → can_move table a (row_cover t a r x) ≡ true → Can0 (WayIn a (k.seat s.0))
      turn r er can = by (perms_kept a (place.Dir y)) refl
        where
          by : (o : Option ℕ) → perms_kept a (place.Dir y) ≡ o → Can0 (WayIn a (k.seat s.0))
          by None none = way_in_by_c (cover_in t a s.0) (dir_cover_t s.0 told.0) (ap has_c (sym (under_dir t a k.well s y parts.0 at none)) ∙ has)
          by (Some perms) own =
              let below : y < t0.next = stand (place.Dir y) perms own in
              let old_y : k.seat y ≡ Old y = k.seated.old y below in
              way_in_by_turn y perms (k.seat x) (cover_in t a x) (subst (λ q. Can0 (StandsIn q (k.seat s.0))) old_y (k.dirs s y at parts.0)) own
              (ap has_c (sym (own_dir t a k.well y perms parts.0 told.2 own)) ∙ has) (free_emptied t k y empty)
              (dir_cover_t x is) (ap (can_move table a) (sym (dir_row t a k.well r x is)) ∙ can) other
              (subst (λ q. Can0 (NotAbove q (k.seat x))) old_y (not_above_t x is y told.1 outside))
              (k.on s.0 told.0 ∙ sym turns ∙ sym (k.on y parts.0) ∙ ap (seat_device t0) old_y)
              (k.on x is ∙ near ∙ sym turns ∙ sym (k.on y parts.0) ∙ ap (seat_device t0) old_y)

    -- what made it
    born_makes : (s : Spot) (x : ℕ) → look u s.0 s.1 ≡ Some x → (born : Born table t a u x) → (v : ℕ) → device t s.0 ≡ v →
        Can0 (Makes (a, v) born.made)
    born_makes s x e born v here =
        let makes = born.makes in
        let named : name_cover table t a makes.spot ≡ own_or (perms_kept a (place.Slot makes.spot.0 makes.spot.1)) (cover_in t a makes.spot.0) =
        (covers_descend t a k.well).at_name makes.spot.0 makes.spot.1 None in
        makes_at (k.seat makes.spot.0) makes.spot.1 (own_or (perms_kept a (place.Slot makes.spot.0 makes.spot.1)) (cover_in t a makes.spot.0))
        (name_cover_t makes.spot makes.lives) (free_missing t k makes.spot makes.lives makes.free)
        (makes.makes (λ maker. is_allowed (covered_verdict empty_tree table a maker
        (own_or (perms_kept a (place.Slot makes.spot.0 makes.spot.1)) (cover_in t a makes.spot.0)) IsMissing))
        (ap (λ c. is_allowed (covered_verdict empty_tree table a makes.maker c IsMissing)) (sym named) ∙ makes.allowed))
        (k.on makes.spot.0 makes.lives ∙ ap (λ (r : Spot). device t r.0) (sym (born.only s e)) ∙ here)

    -- where it writes a directory's row is a way in
    way_in : (s : Spot) (x : ℕ) → is_dir t s.0 ≡ true → (written : Written table t a s x) → TurnsNear table t a s x written →
        (from : From table t a x) → IsNear table t a s.0 x from → Can0 (Free (k.seat s.0) s.1) →
        (look t s.0 s.1 ≡ Some x) ⊎ Can0 (WayIn a (k.seat s.0))
    way_in s x over (by_name has) turns from near free = inr (by (perms_kept a (place.Slot s.0 s.1)) refl (named_c s has))
      where
        by : (o : Option ℕ) → perms_kept a (place.Slot s.0 s.1) ≡ o → has_c (own_or o (cover_in t a s.0)) ≡ true → Can0 (WayIn a (k.seat s.0))
        by (Some perms) e has = way_in_by_name s.1 perms (seat_stands t k a stand s.0 over) (own_name t k a stand s.0 s.1 perms e) has free
        by None e has = way_in_by_c (cover_in t a s.0) (dir_cover_t s.0 over) has
    way_in s x over (by_turn y at empty has is) turns from near free = by (x == y) refl from
      where
        by : (b : Bool) → (x == y) ≡ b → From table t a x → (look t s.0 s.1 ≡ Some x) ⊎ Can0 (WayIn a (k.seat s.0))
        by true same other = inl (at ∙ ap Some (sym (eqb-true x y same)))
        by false differs (is_new new) = let below = below_next t a k.well x (is_living_dir t x is) in absurd (omega (arith, new))
        by false differs (is_linked r er plain can) = absurd (false≢true (sym plain ∙ is))
        by false differs (is_moved r er can) = inr (turn s x y at empty has is differs turns (dir_near s.0 x is from near) r er can)

    made_dir : (s : Spot) (x : ℕ) → look u s.0 s.1 ≡ Some x → is_dir t s.0 ≡ true → x ≡ t.next → is_dir u x ≡ true →
        Can0 (Makes (a, device u x) NewDir) × (device u x ≡ device t s.0)
    made_dir s x e over new is = elim (grown.nodes x (lives_in s x e)) [
      | inl same ↦ (let below = below_next t a k.well x (sym (ap is_some same) ∙ lives_in s x e) in absurd (omega (arith, below, new)))
      | inr born ↦
          (let here = new_device s x e is born.unmarked over in
          (by born.made (sym (ap is_dir_kind born.kinds) ∙ is) (born_makes s x e born (device u x) (sym here)), here))
    ]
      where
        by : (made : New) → is_dir_kind (Some (new_kind table made)) ≡ true → Can0 (Makes (a, device u x) made) →
            Can0 (Makes (a, device u x) NewDir)
        by NewDir dir can = can
        by NewOthers dir (makes_at d name c over free makes at) = makes_at d name c over free makes at
        by NewFile dir can = absurd (false≢true (sym (file_no_dir table.whose) ∙ dir))
        by NewLink dir can = absurd (false≢true dir)
        by NewSock dir can = absurd (false≢true dir)
        by NewFifo dir can = absurd (false≢true dir)

    stands_in : (s : Spot) (x : ℕ) → look u s.0 s.1 ≡ Some x → is_dir u x ≡ true → Can0 (NotAbove (seat x) (seat s.0)) →
        Can0 (StandsIn (seat x) (seat s.0))
    stands_in s x e is clear = elim (grown.rows s x e) [
      | inl there ↦ kept there
      | inr put ↦ elim (free_or_same s x e put.lives) [
        | inl there ↦ kept there
        | inr free ↦ elim (way_in s x put.lives put.written put.turns put.from put.near free) [
          | inl there ↦ kept there
          | inr enter ↦ placed put.lives enter put.from put.near
        ]
      ]
    ]
      where
        was_dir : is_living t x ≡ true → is_dir t x ≡ true
        was_dir was = sym (same_dir t u x (same_node x was (lives_in s x e))) ∙ is

        kept : look t s.0 s.1 ≡ Some x → Can0 (StandsIn (seat x) (seat s.0))
        kept there =
            let told = row_says t st s x there in
            subst (λ q. Can0 (StandsIn q (seat s.0))) (sym (lives_seat x told.2))
            (subst (λ q. Can0 (StandsIn (k.seat x) q)) (sym (dir_seat s.0 told.0)) (k.dirs s x there (was_dir told.2)))

        placed : is_dir t s.0 ≡ true → Can0 (WayIn a (k.seat s.0)) → (from : From table t a x) → IsNear table t a s.0 x from →
            Can0 (StandsIn (seat x) (seat s.0))
        placed over enter (is_new new) near =
            let made = made_dir s x e over new is in
            subst (λ q. Can0 (StandsIn q (seat s.0))) (sym (born_seat x new))
            (subst (λ q. Can0 (StandsIn (Made (a, device u x)) q)) (sym (dir_seat s.0 over))
            (born_in among made.0 enter (k.on s.0 over ∙ sym made.1)))
        placed over enter (is_linked r er plain can) near =
            absurd (false≢true (sym plain ∙ was_dir (row_says t st r x er).2))
        placed over enter (is_moved r er can) near =
            let lives = (row_says t st r x er).2 in
            let dir = was_dir lives in
            subst (λ q. Can0 (StandsIn q (seat s.0))) (sym (lives_seat x lives))
            (subst (λ q. Can0 (StandsIn (k.seat x) q)) (sym (dir_seat s.0 over))
            (moved_in a (cover_in t a x) among (dir_cover_t x dir) (ap (can_move table a) (sym (dir_row t a k.well r x dir)) ∙ can) enter
            (subst (λ q. Can0 (NotAbove q (k.seat s.0))) (lives_seat x lives)
            (subst (λ q. Can0 (NotAbove (seat x) q)) (dir_seat s.0 over) clear))
            (k.on x dir ∙ dir_near s.0 x dir (is_moved r er can) near ∙ sym (k.on s.0 over))))

    -- where it writes the row of something else
    writes : (s : Spot) (x : ℕ) → is_dir t s.0 ≡ true → Written table t a s x → is_dir t x ≡ false → Can0 (Free (k.seat s.0) s.1) →
        Can0 (Writes a (k.seat s.0) s.1)
    writes s x over (by_name has) plain free =
        writes_at (own_or (perms_kept a (place.Slot s.0 s.1)) (cover_in t a s.0)) (name_cover_t s over) (named_c s has) free
    writes s x over (by_turn y at empty has is) plain free = absurd (false≢true (sym plain ∙ is))

    row_name_cover : (r : Spot) (x : ℕ) → look t r.0 r.1 ≡ Some x → is_dir t x ≡ false → Can0 (NameCover a (k.seat r.0) r.1 (row_cover t a r x))
    row_name_cover r x er other =
        subst (λ c. Can0 (NameCover a (k.seat r.0) r.1 c)) (sym (slot_row t a k.well r x other)) (name_cover_t r (row_says t st r x er).0)

    next_dir : (x : ℕ) → x ≡ t.next → is_dir t x ≡ false
    next_dir x new = by (is_dir t x) refl
      where
        by : (b : Bool) → is_dir t x ≡ b → is_dir t x ≡ false
        by false e = e
        by true e = let below = below_next t a k.well x (is_living_dir t x e) in absurd (omega (arith, below, new))

    old_then : (x : ℕ) → x < t0.next → is_living u x ≡ true → node_at u x ≡ node_at t0 x
    old_then x below is = elim (grown.nodes x is) [
      | inl same ↦ same ∙ k.old x below (sym (ap is_some same) ∙ is)
      | inr born ↦ (let new = born.new in let from = k.next in absurd (omega arith))
    ]

    others_then : (s : Spot) (x : ℕ) → look u s.0 s.1 ≡ Some x → is_dir u x ≡ false → Came u seat s x
    others_then s x e other = elim (grown.rows s x e) [
      | inl there ↦ kept there
      | inr put ↦ elim (free_or_same s x e put.lives) [
        | inl there ↦ kept there
        | inr free ↦ by (look t0 s.0 s.1) refl put.lives put.written put.from put.near free
      ]
    ]
      where
        same_kind : is_living t x ≡ true → kind_at u x ≡ kind_at t x
        same_kind was = ap (option_map (λ n. n.kind)) (same_node x was (lives_in s x e))

        was_other : is_living t x ≡ true → is_dir t x ≡ false
        was_other was = sym (same_dir t u x (same_node x was (lives_in s x e))) ∙ other

        kept : look t s.0 s.1 ≡ Some x → Came u seat s x
        kept there =
            let told = row_says t st s x there in
            let came = k.others s x there (was_other told.2) in
            record {
              source = came.source;
              known = came.known;
              kinds = same_kind told.2 ∙ came.kinds;
              can_stand = subst (λ q. Can0 (StandsAt came.source q s.1)) (sym (dir_seat s.0 told.0)) came.can_stand;
              near = came.near ∙ sym (keep s.0 told.0 (over_in s x e));
            }

        moved : (look t0 s.0 s.1 ≡ Some x → ⊥) → is_dir t s.0 ≡ true → Written table t a s x → Can0 (Free (k.seat s.0) s.1) → (r : Spot) →
            look t r.0 r.1 ≡ Some x → (can_move table a (row_cover t a r x) || can_link table a (kind_at t x) (row_cover t a r x)) ≡ true →
            device t r.0 ≡ device t s.0 → Came u seat s x
        moved never over written free r er can near =
            let lives = (row_says t st r x er).2 in
            let was = was_other lives in
            let came = k.others r x er was in
            record {
              source = came.source;
              known = known_elsewhere t0 s r x never came.known;
              kinds = same_kind lives ∙ came.kinds;
              can_stand = subst (λ q. Can0 (StandsAt came.source q s.1)) (sym (dir_seat s.0 over))
                  (moved_at a (k.seat r.0) r.1 (row_cover t a r x) among came.can_stand (row_name_cover r x er was)
                  (ap (λ o. can_move table a (row_cover t a r x) || can_link table a o (row_cover t a r x)) (sym came.kinds) ∙ can)
                  (writes s x over written was free) (came.near ∙ near ∙ sym (k.on s.0 over)));
              near = came.near ∙ near ∙ sym (keep s.0 over (over_in s x e));
            }

        made : is_dir t s.0 ≡ true → Written table t a s x → Can0 (Free (k.seat s.0) s.1) → x ≡ t.next → Came u seat s x
        made over written free new = elim (grown.nodes x (lives_in s x e)) [
          | inl same ↦ (let below = below_next t a k.well x (sym (ap is_some same) ∙ lives_in s x e) in absurd (omega (arith, below, new)))
          | inr born ↦ record {
            source = Maker born.made (a, device t s.0);
            known = of_maker born.made (a, device t s.0) (let from = k.next in omega (arith, from, new));
            kinds = born.kinds;
            can_stand = subst (λ q. Can0 (StandsAt (Maker born.made (a, device t s.0)) q s.1)) (sym (dir_seat s.0 over))
                (born_at among (born_makes s x e born (device t s.0) refl) (writes s x over written (next_dir x new) free) (k.on s.0 over));
            near = sym (keep s.0 over (over_in s x e));
          }
        ]

        away : (look t0 s.0 s.1 ≡ Some x → ⊥) → is_dir t s.0 ≡ true → Written table t a s x → (from : From table t a x) →
            IsNear table t a s.0 x from → Can0 (Free (k.seat s.0) s.1) → Came u seat s x
        away never over written (is_new new) near free = made over written free new
        away never over written (is_moved r er can) near free =
            moved never over written free r er (or_left (can_move table a (row_cover t a r x)) _ can)
            (sym (ap (λ b. cond b (device t x) (device t r.0)) (was_other (row_says t st r x er).2)) ∙ near)
        away never over written (is_linked r er plain can) near free =
            moved never over written free r er (or_right (can_move table a (row_cover t a r x)) _ can) near

        here : look t0 s.0 s.1 ≡ Some x → Came u seat s x
        here then =
            let told0 = row_says t0 (sound_from t0 well0) s x then in
            let same = old_then x (below_first x told0.2) (lives_in s x e) in
            record {
              source = Row s;
              known = of_then s then (λ same. refl);
              kinds = ap (option_map (λ n. n.kind)) same ∙ row_kind t0 table s x then;
              can_stand = subst (λ q. Can0 (StandsAt (Row s) q s.1)) (sym (seated.old s.0 (below_dir s.0 told0.0)))
                  (stays_at x then (sym (same_dir t0 u x same) ∙ other));
              near = sym (ap (seat_device t0) (seated.old s.0 (below_dir s.0 told0.0))) ∙ on_then s.0 (over_in s x e);
            }

        by : (o : Option ℕ) → look t0 s.0 s.1 ≡ o → is_dir t s.0 ≡ true → Written table t a s x → (from : From table t a x) →
            IsNear table t a s.0 x from → Can0 (Free (k.seat s.0) s.1) → Came u seat s x
        by None is = away (λ same. Some≢None x (sym same ∙ is))
        by (Some y) is = elim (y == x) as (λ b. (y == x) ≡ b → is_dir t s.0 ≡ true → Written table t a s x → (from : From table t a x) →
            IsNear table t a s.0 x from → Can0 (Free (k.seat s.0) s.1) → Came u seat s x) [
              | true ↦ λ same over written from near free. here (is ∙ ap Some (eqb-true y x same))
              | false ↦ λ differs. away (λ same. false≢true (sym differs ∙ eq-eqb y x (same_Some y x (sym is ∙ same))))
            ] refl

    pub knows_then : Knows u
    knows_then = record {
      well = well;
      seat = seat;
      seated = seated;
      on = on_then;
      dirs = stands_in_all u well seat seated stands_in;
      others = others_then;
      old = old_then;
      gone = gone_then;
      next = let more = grown.next in let from = k.next in omega arith;
    }
