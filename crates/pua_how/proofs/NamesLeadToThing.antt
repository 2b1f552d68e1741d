-- The names of a line of a list for ever lead to what it is about.
use Rattle.std.proofs.Common.{◌≡◌, ℕ, zero, suc, Bool, true, false, List, [], ◌∷◌, ◌++◌, refl, sym, ap, subst, map, inl, inr, ◌∙◌}
use Rattle.std.proofs.Common.{Option, Some, None, append_assoc}
use Rattle.std.proofs.lemmas.Bool.{and_from, eq-eqb, eqb-true, false≢true}
use Rattle.std.proofs.lemmas.Cmp.{tied_itself}
use Rattle.std.specs.Prelude.{◌==◌, ◌&&◌, filter, filter_map, flat_map, if◌then◌else◌, is_some, option_and_then}
use Rattle.std.specs.List.{Contains}
use Rattle.std.specs.declared.cmp.Ordering.TheVariants.{Less, Equal, Greater}
use Rattle.std.specs.FinMap.{find as find_key}
use Rattle.std.specs.FinMap.Entries.{by_order}
use Rattle.std.specs.Ordering.{is_eq}
use Rattle.pua_tree.specs.Names.{same_bytes}
use Rattle.pua_tree.specs.Tree.{Tree, Spot, WellFormed, distinct_names, is_dir, is_living, look, name_cmp, spot_cmp, with_name}
use Rattle.pua_tree.proofs.ForCallers.{None≢Some, Some≢None, Sound, row_says, sound_from, spots_total}
use Rattle.pua_path.specs.declared.found.Way.{Way}
use Rattle.pua_path.specs.declared.found.Way.TheVariants.{Named, Top}
use Rattle.pua_path.specs.declared.found.Found.TheVariants.{Whole, Slot}
use Rattle.pua_calls.specs.Calls.{CallTable}
use Rattle.pua_policy.specs.States.{ProcessState, perms_kept, veil_at, veils, with_both}
use Rattle.pua_policy.specs.declared.place.Place.{Place}
use Rattle.pua_policy.specs.declared.place.Place.TheVariants as place
use Rattle.pua_audit.specs.Reach.{Word}
use Rattle.pua_objects.specs.Objects.{Subject, At, Others, Item, entries, items, items_at, items_below, name_at, names_in, veiled_in}
use Rattle.pua_objects.proofs.ForCallers.{Among, among_contained, among_either, contained, filter_among, flat_among, map_among}
use Rattle.pua_ever.specs.Ever.{Thing, Stands, Comes, EverLine, all_new, ever, ever_line, freed_at, has_ever_calls, names_to_free}
use Rattle.pua_ever.specs.Ever.{is_free, may_edit, new_line, own_spot, subjects_of}
use Rattle.pua_objects.specs.Roots.{shown_for_ever}
use Rattle.pua_objects.specs.declared.roots.Shown.{Shown}
use Rattle.pua_objects.specs.declared.roots.Shown.TheVariants.{All, Below}
use Rattle.pua_ever.specs.ShownForEver.{is_inside, lines_shown, shown_ever, shown_lasting}
use Rattle.pua_ever.specs.Through.{bound_of, ever_lasting, ever_through, has_exec, is_promised_by_one, let_through}
use Rattle.pua_ever.proofs.ForCallers.{shown_bounded, shown_unbounded, shown_unstarted}
use Rattle.pua_ever.proofs.ForCallers.{lasting_alone, lasting_through, lasting_unbounded}
use Rattle.pua_how.specs.PathQuestion.{directory_at_name}

-- ---- the end of names

-- the directory to which all names but the last one lead, and that name
abbrev pub spot_in : Tree → ℕ → List ℕ → Word → Option Spot
spot_in t dir name [] = Some (dir, name)
spot_in t dir name (next ∷ more) = option_and_then (λ node. spot_in t node next more) (directory_at_name t dir name)

abbrev pub spot_by : Tree → Word → Option Spot
spot_by t [] = None
spot_by t (name ∷ more) = spot_in t 0 name more

module _ (t : Tree) where
  -- names lead to a directory, whatever names come after them
  abbrev Leads : Word → ℕ → Type 0
  Leads word dir = (name : List ℕ) (more : Word) → spot_by t (word ++ name ∷ more) ≡ spot_in t dir name more

  leads_on : (word : Word) (dir : ℕ) (name : List ℕ) (x : ℕ) → Leads word dir → look t dir name ≡ Some x → is_dir t x ≡ true →
      Leads (word ++ name ∷ []) x
  leads_on word dir name x leads row living next more =
      ap (spot_by t) (append_assoc word (name ∷ []) (next ∷ more)) ∙ leads name (next ∷ more)
      ∙ ap (option_and_then (λ node. spot_in t node next more)) there
    where
      there : directory_at_name t dir name ≡ Some x
      there = rw (row, living) refl

  -- a directory stands at the end of names, or is the root
  abbrev pub IsDirBy : Word → ℕ → Way → Type 0
  IsDirBy word dir Top = (word ≡ []) × (dir ≡ 0)
  IsDirBy word dir (Named over name) = (spot_by t word ≡ Some (over, name)) × (look t over name ≡ Some dir)
  IsDirBy word dir _ = ⊥

  module _ (h : ProcessState) where
    -- what stands or could stand is at the end of names; a name at which nothing stands has a veil of its own
    abbrev pub IsAtEnd : Word → Subject → Type 0
    IsAtEnd word (At (Whole dir way)) = IsDirBy word dir way × (is_dir t dir ≡ true)
    IsAtEnd word (At (Slot dir name (Some x))) =
        (spot_by t word ≡ Some (dir, name)) × (look t dir name ≡ Some x) × (is_dir t x ≡ false) × (is_living t x ≡ true)
    IsAtEnd word (At (Slot dir name None)) = (spot_by t word ≡ Some (dir, name)) × (is_some (perms_kept h (place.Slot dir name)) ≡ true)
    IsAtEnd word (Others dir) = ((way : Way) × IsDirBy word dir way) × (is_dir t dir ≡ true)

    abbrev pub IsPlaced : Word → Thing → Type 0
    IsPlaced word (Stands subject) = IsAtEnd word subject
    IsPlaced word (Comes new) = Unit {0}

-- ---- the names in a directory

same_itself : (name : List ℕ) → same_bytes name name ≡ true
same_itself [] = refl
same_itself (byte ∷ name) = and_from (byte == byte) (same_bytes name name) (eq-eqb byte byte refl) (same_itself name)

-- something stands where a row is
row_found : (k : Spot) (rows : List (Spot × ℕ)) (row : Spot × ℕ) → row.0 ≡ k → Among rows row → is_some (find_key spot_cmp k rows) ≡ true
row_found k [] row at a = absurd a
row_found k (y ∷ rows) row at a =
    elim (is_eq (spot_cmp k y.0)) as (λ b. is_eq (spot_cmp k y.0) ≡ b → is_some (if b then Some y.1 else find_key spot_cmp k rows) ≡ true) [
      | true ↦ λ same. refl
      | false ↦ λ other. elim a [
        | inl e ↦ (
            let here : k ≡ y.0 = sym (ap (λ (r : Spot × ℕ). r.0) e ∙ at) in
            let tied : is_eq (spot_cmp k y.0) ≡ true = ap (λ s. is_eq (spot_cmp k s)) (sym here) ∙ ap is_eq (tied_itself spots_total k) in
            cc)
        | inr b ↦ row_found k rows row at b
      ]
    ] refl

-- a veil is kept where one is
veil_kept : (vs : List (Place × ℕ)) (dir : ℕ) (name : List ℕ) → Among (filter_map (λ veil. name_at dir veil.0) vs) name →
    is_some (veil_at vs (place.Slot dir name)) ≡ true
veil_kept [] dir name a = absurd a
veil_kept ((place.Dir other, given) ∷ vs) dir name a = veil_kept vs dir name a
veil_kept ((place.Slot other called, given) ∷ vs) dir name a = by (other == dir) refl a (veil_kept vs dir name)
  where
    skip : (b : Bool) → is_some (veil_at vs (place.Slot dir name)) ≡ true →
        is_some (if b then Some given else veil_at vs (place.Slot dir name)) ≡ true
    skip true later = refl
    skip false later = later

    by : (b : Bool) → (other == dir) ≡ b →
        Among (filter_map (λ veil. name_at dir veil.0) ((place.Slot other called, given) ∷ vs)) name →
        (Among (filter_map (λ veil. name_at dir veil.0) vs) name → is_some (veil_at vs (place.Slot dir name)) ≡ true) →
        is_some (veil_at ((place.Slot other called, given) ∷ vs) (place.Slot dir name)) ≡ true
    by true is a more = let c : Among (called ∷ filter_map (λ veil. name_at dir veil.0) vs) name = rw is at a in
        elim c [
          | inl e ↦ (
              let here : (dir == other) ≡ true = eq-eqb dir other (sym (eqb-true other dir is)) in
              let same : same_bytes name called ≡ true = ap (same_bytes name) e ∙ same_itself name in
              ap (λ b. is_some (if b then Some given else veil_at vs (place.Slot dir name)))
              (and_from (dir == other) (same_bytes name called) here same))
          | inr d ↦ skip (dir == other && same_bytes name called) (more d)
        ]
    by false is a more = let c : Among (filter_map (λ veil. name_at dir veil.0) vs) name = rw is at a in
        skip (dir == other && same_bytes name called) (more c)

-- what is among the names of a set is among those of the list
with_has : (n : List ℕ) (ms : List (List ℕ)) (x : List ℕ) → Among (with_name n ms) x → Among (n ∷ ms) x
with_has n [] x a = a
with_has n (m ∷ ms) x a =
    elim (name_cmp n m) as (λ o. Among (by_order o (n ∷ m ∷ ms) (m ∷ ms) (m ∷ with_name n ms)) x → Among (n ∷ m ∷ ms) x) [
      | Less ↦ λ a. a
      | Equal ↦ λ a. inr a
      | Greater ↦ λ a. elim a [ inl e ↦ inr (inl e) | inr b ↦ elim (with_has n ms x b) [ inl e ↦ inl e | inr c ↦ inr (inr c) ] ]
    ] a

distinct_has : (ns : List (List ℕ)) (x : List ℕ) → Among (distinct_names ns) x → Among ns x
distinct_has [] x a = absurd a
distinct_has (n ∷ ns) x a = elim (with_has n (distinct_names ns) x a) [ inl e ↦ inl e | inr b ↦ inr (distinct_has ns x b) ]

module _ (t : Tree) (h : ProcessState) where
  -- something stands at an entry of a directory, or a veil is kept there
  entry_kept : (dir : ℕ) (name : List ℕ) → Among (entries t (veils h) dir) name → look t dir name ≡ None →
      is_some (perms_kept h (place.Slot dir name)) ≡ true
  entry_kept dir name a none =
      elim (among_either (names_in t dir) (veiled_in (veils h) dir) name (distinct_has (names_in t dir ++ veiled_in (veils h) dir) name a)) [
        | inl b ↦ (
            let row = map_among (λ row. row.0.1) (filter (λ row. row.0.0 == dir) t.rows) name b in
            let kept = filter_among (λ row. row.0.0 == dir) t.rows row.0 row.1 in
            let at : row.0.0 ≡ (dir, name) = (λ i. (eqb-true row.0.0.0 dir kept.1 i, row.2 i)) in
            absurd (none_stands (look t dir name) none (row_found (dir, name) t.rows row.0 at kept.0)))
        | inr b ↦ veil_kept (veils h) dir name b
      ]
    where
      none_stands : (o : Option ℕ) → o ≡ None → is_some o ≡ true → ⊥
      none_stands None is some = false≢true some
      none_stands (Some x) is some = Some≢None x is

  -- ---- the items of a list

  abbrev ItemPlaced : Item → Type 0
  ItemPlaced item = IsAtEnd t h item.word item.subject

  items_placed : Sound t → (depth dir : ℕ) (way : Way) (word : Word) → Leads t word dir → IsDirBy t word dir way → is_dir t dir ≡ true →
      (item : Item) → Among (items_below depth t (veils h) dir way word) item → ItemPlaced item
  items_placed sound zero dir way word leads at living item a = absurd a
  items_placed sound (suc depth) dir way word leads at living item (inl e) = subst ItemPlaced e (at, living)
  items_placed sound (suc depth) dir way word leads at living item (inr (inl e)) = subst ItemPlaced e ((way, at), living)
  items_placed sound (suc depth) dir way word leads at living item (inr (inr a)) =
      let entry = flat_among (λ name. items_at t (items_below depth t (veils h)) dir word name (look t dir name)) (entries t (veils h) dir)
      item a in
      by (λ x other longer. items_placed sound depth x other longer) entry.0 entry.1 (look t dir entry.0) refl entry.2
    where
      Below : Type 0
      Below = (x : ℕ) (other : Way) (longer : Word) → Leads t longer x → IsDirBy t longer x other → is_dir t x ≡ true → (item : Item) →
          Among (items_below depth t (veils h) x other longer) item → ItemPlaced item

      stands : Below → (name : List ℕ) (x : ℕ) → look t dir name ≡ Some x → (b : Bool) → is_dir t x ≡ b →
          Among (if b then items_below depth t (veils h) x (Named dir name) (word ++ name ∷ []) else record
          { word = word ++ name ∷ []; subject = At (Slot dir name (Some x)) } ∷ []) item → ItemPlaced item
      stands below name x row true is a =
          below x (Named dir name) (word ++ name ∷ []) (leads_on t word dir name x leads row is) (leads name [], row) is item a
      stands below name x row false other (inl e) =
          subst ItemPlaced e (leads name [], row, other, (row_says t sound (dir, name) x row).2)
      stands below name x row false other (inr a) = absurd a

      by : Below → (name : List ℕ) → Among (entries t (veils h) dir) name → (o : Option ℕ) → look t dir name ≡ o →
          Among (items_at t (items_below depth t (veils h)) dir word name o) item → ItemPlaced item
      by below name entry None row (inl e) = subst ItemPlaced e (leads name [], entry_kept dir name entry row)
      by below name entry None row (inr a) = absurd a
      by below name entry (Some x) row a = stands below name x row (is_dir t x) refl a

  -- ---- the lines of a list for ever

  module _ (well : WellFormed t) (table : CallTable) where
    freed_placed : (word : Word) (o : Option Spot) → (((spot : Spot) → o ≡ Some spot → spot_by t word ≡ Some spot)) → (subject : Subject) →
        Among (freed_at t table h o) subject → IsAtEnd t h word subject
    freed_placed word None at subject a = absurd a
    freed_placed word (Some spot) at subject a = by (is_some (perms_kept h (place.Slot spot.0 spot.1))) refl a
      where
        freed : (b : Bool) → is_some (perms_kept h (place.Slot spot.0 spot.1)) ≡ true →
            Among (if b then At (Slot spot.0 spot.1 None) ∷ [] else []) subject → IsAtEnd t h word subject
        freed true kept (inl e) = subst (IsAtEnd t h word) e (at spot refl, kept)
        freed true kept (inr a) = absurd a
        freed false kept a = absurd a

        by : (b : Bool) → is_some (perms_kept h (place.Slot spot.0 spot.1)) ≡ b →
            Among (if b && (may_edit table h && is_free t h spot) then At (Slot spot.0 spot.1 None) ∷ [] else []) subject →
            IsAtEnd t h word subject
        by true kept a = freed (may_edit table h && is_free t h spot) kept a
        by false bare a = absurd a

    -- where an item stands at a name, its names lead there
    own_placed : (word : Word) (subject : Subject) → IsAtEnd t h word subject → (spot : Spot) → own_spot subject ≡ Some spot →
        spot_by t word ≡ Some spot
    own_placed word (At (Whole dir Top)) at spot is = absurd (None≢Some spot is)
    own_placed word (At (Whole dir (Named over name))) at spot is = at.0.0 ∙ is
    own_placed word (At (Whole dir _)) at spot is = absurd at.0
    own_placed word (At (Slot dir name (Some x))) at spot is = at.0 ∙ is
    own_placed word (At (Slot dir name None)) at spot is = absurd (None≢Some spot is)
    own_placed word (Others dir) at spot is = absurd (None≢Some spot is)

    subjects_placed : (item : Item) → ItemPlaced item → (about : Word × Subject) → Among (subjects_of t table h item) about →
        IsAtEnd t h about.0 about.1
    subjects_placed item at about (inl e) = subst (λ (x : Word × Subject). IsAtEnd t h x.0 x.1) e at
    subjects_placed item at about (inr a) =
        let freed = map_among (λ subject. (item.word, subject)) (names_to_free t table h item.subject) about a in
        subst (λ (x : Word × Subject). IsAtEnd t h x.0 x.1) freed.2
        (freed_placed item.word (own_spot item.subject) (own_placed item.word item.subject at) freed.0 freed.1)

    abbrev pub LinePlaced : EverLine → Type 0
    LinePlaced line = IsPlaced t h line.word line.thing

    lines_placed : (line : EverLine) → Among (map (ever_line t table h) (flat_map (subjects_of t table h) (items t (veils h)))
        ++ map (new_line t table h) all_new) line → LinePlaced line
    lines_placed line a =
        elim (among_either (map (ever_line t table h) (flat_map (subjects_of t table h) (items t (veils h)))) (map (new_line t table h) all_new)
        line a) [
          | inl b ↦ stands b
          | inr b ↦ comes b
        ]
      where
        stands : Among (map (ever_line t table h) (flat_map (subjects_of t table h) (items t (veils h)))) line → LinePlaced line
        stands b =
            let about = map_among (ever_line t table h) (flat_map (subjects_of t table h) (items t (veils h))) line b in
            let item = flat_among (subjects_of t table h) (items t (veils h)) about.0 about.1 in
            let placed : ItemPlaced item.0 =
            items_placed (sound_from t well) _ 0 Top [] (λ name more. refl) (refl, refl) well.root item.0 item.1 in
            subst LinePlaced about.2 (subjects_placed item.0 placed about.0 item.2)

        comes : Among (map (new_line t table h) all_new) line → LinePlaced line
        comes b = let new = map_among (new_line t table h) all_new line b in subst LinePlaced new.2 tt

    pub listed_placed : (line : EverLine) → Contains (ever t table h) line → LinePlaced line
    listed_placed line listed = lines_placed line (filter_among has_ever_calls _ line (among_contained (ever t table h) line listed)).0

    -- so it is of the list that holds longest
    through_placed : (given : ℕ) → ((line : EverLine) → Contains (ever t table (with_both h given)) line → LinePlaced line) →
        (line : EverLine) → Contains (ever_through t table h given) line → LinePlaced line
    through_placed given placed line listed =
        let passes = is_promised_by_one table h given in
        let lines = ever t table (with_both h given) in
        let kept = filter_among has_ever_calls (map (let_through passes) lines) line
        (among_contained (ever_through t table h given) line listed) in
        let whole = map_among (let_through passes) lines line kept.0 in
        subst LinePlaced whole.2 (placed whole.0 (contained lines whole.0 whole.1))

pub lasting_placed : (t : Tree) (table : CallTable) (h : ProcessState) → WellFormed t → (line : EverLine) →
    Contains (ever_lasting t table h) line → IsPlaced t h line.word line.thing
lasting_placed t table h well line = by (bound_of table h) refl
  where
    Placed : List EverLine → Type 0
    Placed lines = Contains lines line → IsPlaced t h line.word line.thing

    started : (given : ℕ) → bound_of table h ≡ Some given → (b : Bool) → has_exec (ever t table h) ≡ b → Placed (ever_lasting t table h)
    started given is true some = subst Placed (sym (lasting_through t table h given is some))
        (through_placed t h well table given (listed_placed t (with_both h given) well table) line)
    started given is false none = subst Placed (sym (lasting_alone t table h given is none)) (listed_placed t h well table line)

    by : (o : Option ℕ) → bound_of table h ≡ o → Placed (ever_lasting t table h)
    by None is = subst Placed (sym (lasting_unbounded t table h is)) (listed_placed t h well table line)
    by (Some given) is = started given is (has_exec (ever t table h)) refl

-- and of what is shown of it
pub shown_placed : (t : Tree) (table : CallTable) (h : ProcessState) → WellFormed t → (line : EverLine) →
    Contains (shown_lasting t table h) line → IsPlaced t h line.word line.thing
shown_placed t table h well line = by (bound_of table h) refl (has_exec (shown_ever t table h)) refl
  where
    Placed : List EverLine → Type 0
    Placed lines = Contains lines line → IsPlaced t h line.word line.thing

    -- what is shown of a list is in it
    cut : (shown : Shown) (lines : List EverLine) → Placed lines → Placed (lines_shown t shown lines)
    cut All lines placed there = placed there
    cut (Below root) lines placed there =
        placed (contained lines line (filter_among (λ (line : EverLine). is_inside t root line.thing) lines line
        (among_contained (lines_shown t (Below root) lines) line there)).0)

    own : Placed (shown_ever t table h)
    own = cut (shown_for_ever t h) (ever t table h) (listed_placed t h well table line)

    by : (o : Option ℕ) → bound_of table h ≡ o → (b : Bool) → has_exec (shown_ever t table h) ≡ b → Placed (shown_lasting t table h)
    by None is b has = subst Placed (sym (shown_unbounded t table h is)) own
    by (Some given) is true has =
        subst Placed (sym (shown_bounded t table h given is has))
        (cut (shown_for_ever t (with_both h given)) (ever_through t table h given)
        (through_placed t h well table given (listed_placed t (with_both h given) well table) line))
    by (Some given) is false has = subst Placed (sym (shown_unstarted t table h has)) own
