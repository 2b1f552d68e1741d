-- Under which covers a thing can ever come, by a process and by one that it lies within.
use Rattle.std.proofs.Common.{◌≡◌, ℕ, List, [], ◌∷◌, ◌++◌, refl, sym, ap, ◌∙◌, Bool, true, false, ◌&&◌, ◌||◌, map, subst, inl, inr}
use Rattle.std.specs.List.{list_any}
use Rattle.std.specs.Prelude.{Option, Some, None, not, ◌==◌, filter, if◌then◌else◌}
use Rattle.pua_tree.specs.Tree.{Tree, Spot, look, is_dir}
use Rattle.pua_calls.specs.Calls.{CallTable}
use Rattle.pua_calls.specs.Promises.{holds}
use Rattle.pua_policy.specs.States.{ProcessState}
use Rattle.pua_policy.specs.declared.answer.Cover.{Cover}
use Rattle.pua_policy.specs.declared.answer.Cover.TheVariants.{Only}
use Rattle.pua_policy.specs.declared.place.Place.{Place}
use Rattle.pua_policy.specs.declared.place.Place.TheVariants as place
use Rattle.pua_script.specs.Confinement.{has_c, object_in}
use Rattle.pua_objects.specs.Objects.{cover_in}
use Rattle.pua_objects.proofs.ForCallers.{Among, among_left, among_right, among_either, among_map, map_among, among_filter, filter_among}
use Rattle.pua_objects.proofs.ForCallers.{filter_map_among, among_filter_map}
use Rattle.pua_ever.specs.Ever.{is_free, can_empty, can_leave, opens_at, opens_outside, has_c_outside, directories, gives_way}
use Rattle.pua_ever.specs.Ever.{is_way_in, dir_covers, veil_cover_at, name_covers, open_covers, may_edit, edit_calls}
use Rattle.pua_ever.specs.Ever.{can_move, some_dir_moves, file_covers, goes_along, is_on, kept_on}
use Rattle.std.specs.Prelude.{is_none}
use Rattle.pua_policy.specs.States.{perms_kept}
use Rattle.pua_ever.proofs.ForCallers.{any_among, any_found}
use Rattle.pua_tight.specs.Narrower.{SetWithin, VeilsWithin, no_veils, unset, veils_too, within}
use Rattle.pua_tight.proofs.Sets.{or_more, and_more, any_more, all_more}
use Rattle.pua_tight.proofs.Within.{CoverWithin, only, cover_within, in_within, kept_within}
use Rattle.pua_tight.proofs.Eases.{Eases, c_within, moves_more, yes_more}

-- of veils at the same places
any_veil : (f g : Place → ℕ → Bool) → ((p : Place) (a b : ℕ) → holds b a ≡ true → f p a ≡ true → g p b ≡ true) →
    {vs ws : List (Place × ℕ)} → VeilsWithin vs ws → list_any (λ veil. f veil.0 veil.1) vs ≡ true → list_any (λ veil. g veil.0 veil.1) ws ≡ true
any_veil f g more no_veils e = e
any_veil f g more (veils_too {place = p} {a = a} {b = b} {vs = vs} {ws = ws} less rest) e =
    or_more (f p a) (list_any (λ veil. f veil.0 veil.1) vs) (g p b) (list_any (λ veil. g veil.0 veil.1) ws) (more p a b less)
    (any_veil f g more rest) e

veil_there : {vs ws : List (Place × ℕ)} → VeilsWithin vs ws → (veil : Place × ℕ) → Among vs veil →
    (b : ℕ) × Among ws (veil.0, b) × (holds b veil.1 ≡ true)
veil_there no_veils veil a = absurd a
veil_there (veils_too {place = p} {b = b} {ws = ws} less rest) veil (inl same) =
    subst (λ (v : Place × ℕ). (c : ℕ) × Among ((p, b) ∷ ws) (v.0, c) × (holds c v.1 ≡ true)) same (b, inl refl, less)
veil_there (veils_too less rest) veil (inr a) = let there = veil_there rest veil a in (there.0, inr there.1, there.2)

-- whether something was given is the same
pub set_alike : {p q : Option ℕ} → SetWithin p q → is_none p ≡ is_none q
set_alike unset = refl
set_alike (within less) = refl

-- each cover of one list lies within one of the other
abbrev pub CoversWithin : List Cover → List Cover → Type 0
CoversWithin xs ys = (c : Cover) → Among xs c → (d : Cover) × Among ys d × CoverWithin c d

pub both_lists : (cs bs xs ys : List Cover) → CoversWithin cs xs → CoversWithin bs ys → CoversWithin (cs ++ bs) (xs ++ ys)
both_lists cs bs xs ys first second c a = elim (among_either cs bs c a) [
  | inl b ↦ (let there = first c b in (there.0, among_left xs ys there.0 there.1, there.2))
  | inr b ↦ (let there = second c b in (there.0, among_right xs ys there.0 there.1, there.2))
]

pub if_both : (b d : Bool) (xs ys : List Cover) → (b ≡ true → d ≡ true) → CoversWithin xs ys →
    CoversWithin (if b then xs else []) (if d then ys else [])
if_both true true xs ys more less c a = less c a
if_both true false xs ys more less c a = let never : false ≡ true = more refl in cc
if_both false d xs ys more less c a = absurd a

module _ (table : CallTable) (h k : ProcessState) (w : Eases table h k) where
  pub edits_more : may_edit table h ≡ true → may_edit table k ≡ true
  edits_more e =
      or_more _ _ _ _ (yes_more _ _ w.rename_new)
      (or_more _ _ _ _ (yes_more _ _ w.link_new)
      (any_more _ _ (λ edit. yes_more _ _ (w.calls edit)) edit_calls)) e

  module _ (t : Tree) where
    in_dir : (dir : ℕ) → CoverWithin (cover_in t h dir) (cover_in t k dir)
    in_dir dir = in_within w.veiled t dir

    leaves_more : (spot : Spot) (x : ℕ) → can_leave t h spot x ≡ true → can_leave t k spot x ≡ true
    leaves_more spot x = and_more _ _ _ _ (c_within (cover_within w.veiled t (object_in t spot x))) (λ plain. plain)

    abbrev free_by : ProcessState → Spot → Option ℕ → Bool
    free_by g spot None = true
    free_by g spot (Some x) = can_leave t g spot x

    free_is : (g : ProcessState) (spot : Spot) (o : Option ℕ) → look t spot.0 spot.1 ≡ o → is_free t g spot ≡ free_by g spot o
    free_is g spot None at = rw at refl
    free_is g spot (Some x) at = rw at refl

    pub free_more : (spot : Spot) → is_free t h spot ≡ true → is_free t k spot ≡ true
    free_more spot e = by (look t spot.0 spot.1) refl
      where
        by : (o : Option ℕ) → look t spot.0 spot.1 ≡ o → is_free t k spot ≡ true
        by None at = free_is k spot None at
        by (Some x) at = free_is k spot (Some x) at ∙ leaves_more spot x (sym (free_is h spot (Some x) at) ∙ e)

    pub empties_more : (dir : ℕ) → can_empty t h dir ≡ true → can_empty t k dir ≡ true
    empties_more dir e = all_more (λ row. not (row.0.0 == dir) || can_leave t h row.0 row.1)
        (λ row. not (row.0.0 == dir) || can_leave t k row.0 row.1)
        (λ row. or_more _ _ _ _ (λ other. other) (leaves_more row.0 row.1)) t.rows e

    opens_more : (dir : ℕ) (p : Place) (a b : ℕ) → holds b a ≡ true → opens_at t h dir p a ≡ true → opens_at t k dir p b ≡ true
    opens_more dir (place.Slot other name) a b less e =
        and_more _ _ _ _ (λ here. here) (and_more _ _ _ _ (c_within (only less)) (free_more (other, name))) e
    opens_more dir (place.Dir other) a b less e = e

    outside_more : (inner : ℕ) (p : Place) (a b : ℕ) → holds b a ≡ true → opens_outside t inner p a ≡ true → opens_outside t inner p b ≡ true
    outside_more inner (place.Slot dir name) a b less e =
        and_more _ _ _ _ (λ here. here) (and_more _ _ _ _ (λ here. here) (c_within (only less))) e
    outside_more inner (place.Dir dir) a b less e = e

    c_outside_more : (inner : ℕ) → has_c_outside t h inner ≡ true → has_c_outside t k inner ≡ true
    c_outside_more inner e = or_more _ _ _ _
        (any_more _ _ (λ dir. and_more _ _ _ _ (λ here. here) (c_within (in_dir dir))) (directories t))
        (any_veil (opens_outside t inner) (opens_outside t inner) (outside_more inner) w.veiled) e

    gives_more : (dir : ℕ) (row : Spot × ℕ) → gives_way t h dir row ≡ true → gives_way t k dir row ≡ true
    gives_more dir row e = and_more _ _ _ _ (λ here. here)
        (and_more _ _ _ _ (λ here. here)
        (and_more _ _ _ _ (c_within (in_dir row.1))
        (and_more _ _ _ _ (λ plain. plain) (and_more _ _ _ _ (empties_more row.1) (c_outside_more row.1))))) e

    way_more : (dir : ℕ) → is_way_in t h dir ≡ true → is_way_in t k dir ≡ true
    way_more dir e = or_more _ _ _ _ (c_within (in_dir dir))
        (or_more _ _ _ _ (any_veil (opens_at t h dir) (opens_at t k dir) (opens_more dir) w.veiled)
        (any_more _ _ (gives_more dir) t.rows)) e

    -- what is on one device is on the other, or on any
    abbrev pub OnMore : Option ℕ → Option ℕ → Type 0
    OnMore m n = (dir : ℕ) → is_on t m dir ≡ true → is_on t n dir ≡ true

    pub kept_more : (device : ℕ) → OnMore (kept_on t h device) (kept_on t k device)
    kept_more device dir here = by (goes_along t h device) (goes_along t k device) goes here
      where
        goes : goes_along t h device ≡ true → goes_along t k device ≡ true
        goes = and_more (is_none (perms_kept h (place.Dir device))) (has_c (cover_in t h device)) (is_none (perms_kept k (place.Dir device)))
            (has_c (cover_in t k device)) (λ none. sym (set_alike (kept_within w.veiled (place.Dir device))) ∙ none) (c_within (in_dir device))

        by : (a b : Bool) → (a ≡ true → b ≡ true) → is_on t (if a then None else Some device) dir ≡ true →
            is_on t (if b then None else Some device) dir ≡ true
        by a true more here = refl
        by true false more here = let never : false ≡ true = more refl in cc
        by false false more here = here

    module _ (m n : Option ℕ) (on : OnMore m n) where
      pub dirs_more : CoversWithin (dir_covers t h m) (dir_covers t k n)
      dirs_more c a =
          let test : ProcessState → Option ℕ → ℕ → Bool = λ g on dir. is_on t on dir && is_way_in t g dir in
          let from = map_among (cover_in t h) (filter (test h m) (directories t)) c a in
          let way = filter_among (test h m) (directories t) from.0 from.1 in (
            cover_in t k from.0,
            among_map (cover_in t k) (filter (test k n) (directories t)) from.0
                (among_filter (test k n) (directories t) from.0
                (and_more (is_on t m from.0) (is_way_in t h from.0) (is_on t n from.0) (is_way_in t k from.0) (on from.0) (way_more from.0) way.1) way.0),
            subst (λ (x : Cover). CoverWithin x (cover_in t k from.0)) from.2 (in_dir from.0),
          )

      pub opens_all_more : CoversWithin (open_covers t h m) (open_covers t k n)
      opens_all_more c a =
          let has = filter_among has_c (map (cover_in t h) (filter (is_on t m) (directories t))) c a in
          let from = map_among (cover_in t h) (filter (is_on t m) (directories t)) c has.0 in
          let here = filter_among (is_on t m) (directories t) from.0 from.1 in
          let less : CoverWithin c (cover_in t k from.0) =
          subst (λ (x : Cover). CoverWithin x (cover_in t k from.0)) from.2 (in_dir from.0) in (
            cover_in t k from.0,
            among_filter has_c (map (cover_in t k) (filter (is_on t n) (directories t))) (cover_in t k from.0) (c_within less has.1)
                (among_map (cover_in t k) (filter (is_on t n) (directories t)) from.0
                (among_filter (is_on t n) (directories t) from.0 (on from.0 here.1) here.0)),
            less,
          )

      cover_at_more : (p : Place) (a b : ℕ) → holds b a ≡ true → (c : Cover) → veil_cover_at t h m p a ≡ Some c →
          (d : Cover) × (veil_cover_at t k n p b ≡ Some d) × CoverWithin c d
      cover_at_more (place.Dir dir) a b less c e = cc
      cover_at_more (place.Slot dir name) a b less c e =
          by (is_dir t dir && (is_on t m dir && (has_c (Only a) && is_free t h (dir, name)))) refl e
        where
          by : (x : Bool) → (is_dir t dir && (is_on t m dir && (has_c (Only a) && is_free t h (dir, name)))) ≡ x →
              (if x then Some (Only a) else None) ≡ Some c →
              (d : Cover) × (veil_cover_at t k n (place.Slot dir name) b ≡ Some d) × CoverWithin c d
          by true is e =
              let same : Only a ≡ c = cc in
              let there = and_more _ _ (is_dir t dir) (is_on t n dir && (has_c (Only b) && is_free t k (dir, name))) (λ here. here)
              (and_more _ _ (is_on t n dir) (has_c (Only b) && is_free t k (dir, name)) (on dir)
              (and_more _ _ _ _ (c_within (only less)) (free_more (dir, name)))) is in (
                Only b,
                ap (λ (x : Bool). if x then Some (Only b) else None) there,
                subst (λ (x : Cover). CoverWithin x (Only b)) same (only less),
              )
          by false is e = cc

      pub names_more : CoversWithin (name_covers t h m) (name_covers t k n)
      names_more c a =
          let from = filter_map_among (λ veil. veil_cover_at t h m veil.0 veil.1) h.veils c a in
          let there = veil_there w.veiled from.0 from.1 in
          let more = cover_at_more from.0.0 from.0.1 there.0 there.2 c from.2 in
          (more.0, among_filter_map (λ veil. veil_cover_at t k n veil.0 veil.1) k.veils (from.0.0, there.0) more.0 there.1 more.1, more.2)

      some_more : some_dir_moves t table h m ≡ true → some_dir_moves t table k n ≡ true
      some_more e =
          let one = any_found (can_move table h) (open_covers t h m) e in
          let other = opens_all_more one.0 one.1 in
          any_among (can_move table k) (open_covers t k n) other.0 other.1 (moves_more table h k w other.2 one.2)

      pub files_more : CoversWithin (file_covers t table h m) (file_covers t table k n)
      files_more = both_lists (name_covers t h m) _ (name_covers t k n) _ names_more
          (both_lists (open_covers t h m) _ (open_covers t k n) _ opens_all_more
          (if_both (some_dir_moves t table h m) (some_dir_moves t table k n) (dir_covers t h m) (dir_covers t k n) some_more dirs_more))
