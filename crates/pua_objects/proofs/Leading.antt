-- The names of a line lead to what it is about.
use Rattle.pua_objects.proofs.Common.{◌≡◌, ◌≤◌, ℕ, zero, suc, List, [], ◌∷◌, ◌++◌, length, map, Bool, true, false, refl, sym, ap, ◌∙◌, inl}
use Rattle.pua_objects.proofs.Common.{inr, subst, nat_lt, Option, Some, None, Ok, Err, is_some, not, ◌||◌, filter, filter_map}
use Rattle.pua_objects.proofs.Common.{if◌then◌else◌, AllByRecursion, list_all, and_parts, Tree, WellFormed, look, is_dir, Kind, Sound}
use Rattle.pua_objects.proofs.Common.{row_says, path_fault, Last, Followed, Kept, Way, Named, Top, Whole, Slot, ProcessState, veils}
use Rattle.pua_objects.proofs.Common.{is_link_kind, Place, Word, Subject, At, Others, Item, names_in, name_at, veiled_in, entries, items_at}
use Rattle.pua_objects.proofs.Common.{items_below, items}
use Rattle.std.specs.Prelude.{◌⊎◌, nat_le, option_map, ◌==◌}
use Rattle.std.specs.Prelude.{codes}
use Rattle.pua_tree.specs.Names.{is_name, is_name_byte, same_bytes}
use Rattle.pua_tree.specs.Tree.{Node, node_at, is_dir_kind, is_living, row_fits}
use Rattle.pua_tree.specs.declared.node.Kind.TheVariants as kinds
use Rattle.pua_path.specs.Paths.{part_of, parts_of, is_absolute}
use Rattle.pua_path.specs.Resolution.{Resolved, Standing, Directory, Linked, Plain, Nothing, standing_of, standing_at, is_followed, slot_or}
use Rattle.pua_path.specs.Resolution.{walk, start_of, resolve_parts}
use Rattle.pua_path.specs.declared.errno.Errno.TheVariants.{ENOENT, ENOTDIR, ELOOP}
use Rattle.pua_path.specs.declared.text.Ending.{Ending}
use Rattle.pua_path.specs.declared.text.Ending.TheVariants as ending
use Rattle.pua_path.specs.declared.found.Part.{Part}
use Rattle.pua_path.specs.declared.found.Part.TheVariants as parts
use Rattle.pua_policy.specs.declared.place.Place.TheVariants as place
use Rattle.pua_audit.specs.Reach.{path_of}
use Rattle.pua_audit.specs.declared.base.Base.TheVariants.{Root}
use Rattle.pua_audit.proofs.ForCallers.{IsPiece, letter_is_piece, path_is}
use Rattle.pua_audit.proofs.ForCallers.{all_joined}
use Rattle.pua_objects.specs.Laws.{is_place, HasPlaces}
use Rattle.pua_objects.proofs.Among.{Among, among_either, map_among, filter_among, flat_among, distinct_among}
use Rattle.pua_path.specs.Resolution.{rooted}
use Rattle.pua_objects.proofs.Common.{◌≢◌, append-nil, eqb-true}
use Rattle.std.proofs.Common.{append_assoc}
use Rattle.std.proofs.lemmas.Bool.{false≢true, ne_eqb}
use Rattle.std.specs.List.{list_any}
use Rattle.pua_tree.specs.Tree.{climb, is_within}
use Rattle.pua_tree.proofs.ForCallers.{above_is, climb_root}
use Rattle.pua_objects.specs.Roots.{dir_of}
use Rattle.pua_objects.proofs.Enclosed.{goes_up}

-- each of them is a name
abbrev pub AreNames : Word → Type 0
AreNames word = AllByRecursion (λ name. is_name name ≡ true) word

pub with_last : (word : Word) (name : List ℕ) → AreNames word → is_name name ≡ true → AreNames (word ++ name ∷ [])
with_last word name all is = all_joined (λ n. is_name n ≡ true) word (name ∷ []) all (is, tt)

abbrev name_parts : Word → List Part
name_parts word = map parts.Name word

-- a name is a part by itself
name_part : (name : List ℕ) → is_name name ≡ true → part_of name ≡ parts.Name name
name_part name is =
    let a = and_parts (nat_lt 0 (length name)) _ is in
    let b = and_parts (nat_le (length name) 255) _ a.1 in
    let c = and_parts (list_all is_name_byte name) _ b.1 in
    let d = and_parts (not (same_bytes name (46 ∷ []))) (not (same_bytes name (46 ∷ 46 ∷ []))) c.1 in
    let no_dot = denied (same_bytes name (46 ∷ [])) d.0 in
    let no_dots = denied (same_bytes name (46 ∷ 46 ∷ [])) d.1 in
    rw (no_dot, no_dots) refl
  where
    denied : (b : Bool) → not b ≡ true → b ≡ false
    denied true e = cc
    denied false e = refl

parts_are_names : (word : Word) → AreNames word → map part_of word ≡ name_parts word
parts_are_names [] all = refl
parts_are_names (name ∷ word) all = (λ i. name_part name all.0 i ∷ parts_are_names word all.1 i)

-- the path of names from the root has no fault, and they are its parts
pub record IsNamesPath (word : Word) : Type 0 where
  pub fault : path_fault (path_of Root word) ≡ None
  pub parts : (e : Ending) → parts_of e (path_of Root word) ≡ name_parts word
  pub absolute : is_absolute (path_of Root word) ≡ true

pieces : (word : Word) → AreNames word → AllByRecursion IsPiece word
pieces [] all = tt
pieces (name ∷ word) all = (letter_is_piece name (ap (λ b. b || same_bytes name (codes "..")) all.0), pieces word all.1)

no_parts : (e : Ending) → parts_of e (codes "/") ≡ []
no_parts ending.Dot = refl
no_parts ending.Dropped = refl

pub names_path : (word : Word) → AreNames word → length (path_of Root word) ≤ 1023 → IsNamesPath word
names_path [] all short = record { fault = refl; parts = no_parts; absolute = refl }
names_path (name ∷ word) all short =
    let whole = pieces (name ∷ word) all in
    let is = path_is Root name word whole.0 whole.1 short in
    record { fault = is.fault; parts = λ e. is.parts e ∙ parts_are_names (name ∷ word) all; absolute = is.absolute }

module _ (t : Tree) where
  -- what stands at a name
  dir_stands : (dir : ℕ) (name : List ℕ) (x : ℕ) → look t dir name ≡ Some x → is_dir t x ≡ true → standing_at t dir name ≡ Directory x
  dir_stands dir name x row living = rw row (by_node (node_at t x) living)
    where
      by_kind : (node : Node) (kind : Kind) → node.kind ≡ kind → is_dir_kind (Some kind) ≡ true → standing_of x (Some node) ≡ Directory x
      by_kind node kinds.Dir is e = rw is refl
      by_kind node kinds.File is e = cc
      by_kind node kinds.Prog is e = cc
      by_kind node (kinds.Known type) is e = cc
      by_kind node kinds.Link is e = cc

      by_node : (o : Option Node) → is_dir_kind (option_map (λ n. n.kind) o) ≡ true → standing_of x o ≡ Directory x
      by_node None e = cc
      by_node (Some node) e = by_kind node node.kind refl e

  nothing_stands : (dir : ℕ) (name : List ℕ) → look t dir name ≡ None → standing_at t dir name ≡ Nothing
  nothing_stands dir name row = rw row refl

  node_stands : (dir : ℕ) (name : List ℕ) (x : ℕ) → look t dir name ≡ Some x → standing_at t dir name ≡ standing_of x (node_at t x)
  node_stands dir name x row = rw row refl

  module _ (root : ℕ) where
    -- how a walk goes on from what stands at a name
    abbrev at_standing : Last → ℕ → (ℕ → List ℕ → List Part → Resolved) → ℕ → List ℕ → List Part → Standing → Resolved
    at_standing mode links follow dir name rest s = elim s [
      | Directory y ↦ walk (rooted t root) mode links follow y (Named dir name) rest
      | Linked y target ↦ if is_followed mode rest then follow dir target rest else Ok (Slot dir name (Some y), links)
      | Plain y ↦ slot_or rest (Slot dir name (Some y)) ENOTDIR links
      | Nothing ↦ slot_or rest (Slot dir name None) ENOENT links
    ]

    -- a walk along the names from the root gets to the directory
    abbrev pub Leads : Word → ℕ → Way → Type 0
    Leads word dir way = (mode : Last) (links : ℕ) (follow : ℕ → List ℕ → List Part → Resolved) (rest : List Part) →
        walk (rooted t root) mode links follow root Top (name_parts word ++ rest) ≡ walk (rooted t root) mode links follow dir way rest

    names_before : (word : Word) (name : List ℕ) (rest : List Part) →
        name_parts (word ++ name ∷ []) ++ rest ≡ name_parts word ++ parts.Name name ∷ rest
    names_before [] name rest = refl
    names_before (other ∷ word) name rest = ap (λ ps. parts.Name other ∷ ps) (names_before word name rest)

    leads_on : (word : Word) (dir : ℕ) (way : Way) (name : List ℕ) (x : ℕ) → Leads word dir way → look t dir name ≡ Some x →
        is_dir t x ≡ true → Leads (word ++ name ∷ []) x (Named dir name)
    leads_on word dir way name x leads row living mode links follow rest =
        ap (walk (rooted t root) mode links follow root Top) (names_before word name rest) ∙ leads mode links follow (parts.Name name ∷ rest) ∙ there
      where
        there : walk (rooted t root) mode links follow dir way (parts.Name name ∷ rest) ≡ walk (rooted t root) mode links follow x (Named dir name) rest
        there = ap (at_standing mode links follow dir name rest) (dir_stands dir name x row living)

    pub resolve_along : (mode : Last) (links : ℕ) (word : Word) (dir : ℕ) (way : Way) (rest : List Part) → Leads word dir way →
        resolve_parts links (rooted t root) mode root Top (name_parts word ++ rest) ≡ resolve_parts links (rooted t root) mode dir way rest
    resolve_along mode zero word dir way rest leads = leads mode 0 _ rest
    resolve_along mode (suc links) word dir way rest leads = leads mode (suc links) _ rest

    -- what stands there is no directory
    abbrev pub IsPlainThere : Option ℕ → Type 0
    IsPlainThere None = Unit {0}
    IsPlainThere (Some x) = (is_dir t x ≡ false) × (is_living t x ≡ true)

    -- the object may be named by calls of the mode
    abbrev pub IsNamed : Last → Option ℕ → Type 0
    IsNamed Kept o = Unit {0}
    IsNamed Followed None = Unit {0}
    IsNamed Followed (Some x) = is_link_kind (option_map (λ n. n.kind) (node_at t x)) ≡ false

    abbrev GoesTo : Last → ℕ → (ℕ → List ℕ → List Part → Resolved) → ℕ → List ℕ → ℕ → Standing → Type 0
    GoesTo mode links follow dir name x s = at_standing mode links follow dir name [] s ≡ Ok (Slot dir name (Some x), links)

    slot_last : (mode : Last) (links : ℕ) (follow : ℕ → List ℕ → List Part → Resolved) (dir : ℕ) (way : Way) (name : List ℕ) (o : Option ℕ) →
        look t dir name ≡ o → IsPlainThere o → IsNamed mode o → walk (rooted t root) mode links follow dir way (parts.Name name ∷ []) ≡ Ok (
          Slot dir name o,
          links,
        )
    slot_last mode links follow dir way name None row plain named =
        ap (at_standing mode links follow dir name []) (nothing_stands dir name row)
    slot_last mode links follow dir way name (Some x) row plain named =
        ap (at_standing mode links follow dir name []) (node_stands dir name x row) ∙
        by_node (node_at t x) plain.0 plain.1 (linked mode named)
      where
        linked : (mode : Last) → IsNamed mode (Some x) →
            (is_followed mode [] ≡ false) ⊎ (is_link_kind (option_map (λ n. n.kind) (node_at t x)) ≡ false)
        linked Kept named = inl refl
        linked Followed named = inr named

        Goes : Standing → Type 0
        Goes = GoesTo mode links follow dir name x

        by_kind : (node : Node) (kind : Kind) → node.kind ≡ kind → is_dir_kind (Some kind) ≡ false →
            (is_followed mode [] ≡ false) ⊎ (is_link_kind (Some kind) ≡ false) → Goes (standing_of x (Some node))
        by_kind node kinds.Dir is other named = cc
        by_kind node kinds.File is other named = rw is refl
        by_kind node kinds.Prog is other named = rw is refl
        by_kind node (kinds.Known type) is other named = rw is refl
        by_kind node kinds.Link is other (inl kept) = rw (is, kept) refl
        by_kind node kinds.Link is other (inr plainly) = cc

        by_node : (o : Option Node) → is_dir_kind (option_map (λ n. n.kind) o) ≡ false → is_some o ≡ true →
            (is_followed mode [] ≡ false) ⊎ (is_link_kind (option_map (λ n. n.kind) o) ≡ false) → Goes (standing_of x o)
        by_node None other lives named = cc
        by_node (Some node) other lives named = by_kind node node.kind refl other named

    pub slot_resolved : (mode : Last) (links : ℕ) (dir : ℕ) (way : Way) (name : List ℕ) (o : Option ℕ) → look t dir name ≡ o →
        IsPlainThere o → IsNamed mode o →
        resolve_parts links (rooted t root) mode dir way (parts.Name name ∷ []) ≡ Ok (Slot dir name o, links)
    slot_resolved mode zero dir way name o row plain named = slot_last mode 0 (λ from target rest. Err ELOOP) dir way name o row plain named
    slot_resolved mode (suc links) dir way name o row plain named =
        slot_last mode (suc links) (λ from target rest. resolve_parts links (rooted t root) mode (start_of root target from) Top (parts_of ending.Dot target
        ++ rest)) dir way name o row plain named

    pub whole_resolved : (mode : Last) (links : ℕ) (dir : ℕ) (way : Way) → resolve_parts links (rooted t root) mode dir way [] ≡ Ok (Whole dir way, links)
    whole_resolved mode zero dir way = refl
    whole_resolved mode (suc links) dir way = refl

    -- where the names lead
    abbrev pub IsPlaced : Word → Subject → Type 0
    IsPlaced word (At (Whole dir way)) = Leads word dir way
    IsPlaced word (At (Slot dir name o)) = (over : Word) × (way : Way) × (word ≡ over ++ name ∷ []) × Leads over dir way ×
        (look t dir name ≡ o) × IsPlainThere o
    IsPlaced word (Others dir) = (way : Way) × Leads word dir way

    -- the names of an item are some, and then those that lead there
    pub record Placed (over : Word) (item : Item) : Type 0 where
      pub rest : Word
      pub word : item.word ≡ over ++ rest
      pub names : AreNames rest
      pub place : IsPlaced rest item.subject

  module _ (fits : WellFormed t) (sound : Sound t) (h : ProcessState) (places : HasPlaces h) where
    among_all : {X : Type 0} (p : X → Bool) (xs : List X) (x : X) → list_all p xs ≡ true → Among xs x → p x ≡ true
    among_all p [] x all a = absurd a
    among_all p (y ∷ xs) x all (inl e) = ap p (sym e) ∙ (and_parts (p y) (list_all p xs) all).0
    among_all p (y ∷ xs) x all (inr a) = among_all p xs x (and_parts (p y) (list_all p xs) all).1 a

    veil_name : (dir : ℕ) (vs : List (Place × ℕ)) (name : List ℕ) → list_all (λ veil. is_place veil.0) vs ≡ true →
        Among (filter_map (λ veil. name_at dir veil.0) vs) name → is_name name ≡ true
    veil_name dir [] name all a = absurd a
    veil_name dir ((place.Dir other, given) ∷ vs) name all a = veil_name dir vs name all a
    veil_name dir ((place.Slot other called, given) ∷ vs) name all a = by (other == dir) refl a (λ b. veil_name dir vs name rest.1 b)
      where
        rest : (is_name called ≡ true) × (list_all (λ veil. is_place veil.0) vs ≡ true)
        rest = and_parts (is_name called) (list_all (λ veil. is_place veil.0) vs) all

        by : (b : Bool) → (other == dir) ≡ b →
            Among (filter_map (λ veil. name_at dir veil.0) ((place.Slot other called, given) ∷ vs)) name →
            (Among (filter_map (λ veil. name_at dir veil.0) vs) name → is_name name ≡ true) → is_name name ≡ true
        by true is a more = let c : Among (called ∷ filter_map (λ veil. name_at dir veil.0) vs) name = rw is at a in
            elim c [ inl e ↦ ap is_name (sym e) ∙ rest.0 | inr d ↦ more d ]
        by false is a more = let c : Among (filter_map (λ veil. name_at dir veil.0) vs) name = rw is at a in more c

    entry_name : (dir : ℕ) (name : List ℕ) → Among (entries t (veils h) dir) name → is_name name ≡ true
    entry_name dir name a =
        elim (among_either (names_in t dir) (veiled_in (veils h) dir) name (distinct_among (names_in t dir ++ veiled_in (veils h) dir) name
        a)) [
          | inl b ↦ (
              let row = map_among (λ row. row.0.1) (filter (λ row. row.0.0 == dir) t.rows) name b in
              let kept = filter_among (λ row. row.0.0 == dir) t.rows row.0 row.1 in
              let all = among_all (row_fits t) t.rows row.0 fits.rows_fit kept.0 in
              let one = and_parts (is_dir t row.0.0.0) _ all in
              let two = and_parts (is_name row.0.0.1) _ one.1 in
              ap is_name (sym row.2) ∙ two.0)
          | inr b ↦ veil_name dir (veils h) name places b
        ]

    module _ (root : ℕ) (over : Word) where
      abbrev Behind : Item → Type 0
      Behind item = Placed root over item

      -- each item lies where its names behind these lead
      placed : (depth dir : ℕ) (way : Way) (word : Word) → Leads root word dir way → AreNames word → (item : Item) →
          Among (items_below depth t (veils h) dir way (over ++ word)) item → Behind item
      placed zero dir way word leads all item a = absurd a
      placed (suc depth) dir way word leads all item (inl e) =
          subst Behind e (record { rest = word; word = refl; names = all; place = leads })
      placed (suc depth) dir way word leads all item (inr (inl e)) =
          subst Behind e (record { rest = word; word = refl; names = all; place = (way, leads) })
      placed (suc depth) dir way word leads all item (inr (inr a)) =
          let entry = flat_among (λ name. items_at t (items_below depth t (veils h)) dir (over ++ word) name (look t dir name))
          (entries t (veils h) dir) item a in
          by (λ x other longer leads all b. placed depth x other longer leads all item b) entry.0 (entry_name dir entry.0 entry.1)
          (look t dir entry.0) refl entry.2
        where
          Below : Type 0
          Below = (x : ℕ) (other : Way) (longer : Word) → Leads root longer x other → AreNames longer →
              Among (items_below depth t (veils h) x other (over ++ longer)) item → Behind item

          one_more : (name : List ℕ) → (over ++ word) ++ name ∷ [] ≡ over ++ (word ++ name ∷ [])
          one_more name = append_assoc over word (name ∷ [])

          stands : Below → (name : List ℕ) → is_name name ≡ true → (x : ℕ) → look t dir name ≡ Some x → (b : Bool) → is_dir t x ≡ b →
              Among (if b then items_below depth t (veils h) x (Named dir name) ((over ++ word) ++ name ∷ []) else record
              { word = (over ++ word) ++ name ∷ []; subject = At (Slot dir name (Some x)) } ∷ []) item → Behind item
          stands more name is x row true living a =
              more x (Named dir name) (word ++ name ∷ []) (leads_on root word dir way name x leads row living) (with_last word name all is)
              (subst (λ (w : Word). Among (items_below depth t (veils h) x (Named dir name) w) item) (one_more name) a)
          stands more name is x row false other (inl e) =
              subst Behind e (record {
                rest = word ++ name ∷ [];
                word = one_more name;
                names = with_last word name all is;
                place = (word, way, refl, leads, row, (other, (row_says t sound (dir, name) x row).2));
              })
          stands more name is x row false other (inr a) = absurd a

          by : Below → (name : List ℕ) → is_name name ≡ true → (o : Option ℕ) → look t dir name ≡ o →
              Among (items_at t (items_below depth t (veils h)) dir (over ++ word) name o) item → Behind item
          by more name is None row (inl e) =
              subst Behind e (record {
                rest = word ++ name ∷ [];
                word = one_more name;
                names = with_last word name all is;
                place = (word, way, refl, leads, row, tt);
              })
          by more name is None row (inr a) = absurd a
          by more name is (Some x) row a = stands more name is x row (is_dir t x) refl a

    -- what is within a directory other than the root is one of the items there
    module _ (root : ℕ) (other : root ≢ 0) where
      abbrev IsThere : Item → Type 0
      IsThere item = (depth : ℕ) × (way : Way) × (over : Word) × Among (items_below depth t (veils h) root way over) item

      enters : (depth dir : ℕ) (way : Way) (word : Word) (item : Item) → is_within t (dir_of item.subject) root ≡ true →
          Among (items_below depth t (veils h) dir way word) item → (is_within t dir root ≡ true) ⊎ IsThere item
      enters zero dir way word item within a = absurd a
      enters (suc depth) dir way word item within (inl e) = inl (ap (λ (i : Item). is_within t (dir_of i.subject) root) e ∙ within)
      enters (suc depth) dir way word item within (inr (inl e)) = inl (ap (λ (i : Item). is_within t (dir_of i.subject) root) e ∙ within)
      enters (suc depth) dir way word item within (inr (inr a)) =
          let entry = flat_among (λ name. items_at t (items_below depth t (veils h)) dir word name (look t dir name)) (entries t (veils h) dir)
          item a in
          by (λ x way longer a. enters depth x way longer item within a) entry.0 (look t dir entry.0) refl entry.2
        where
          Answer : Type 0
          Answer = (is_within t dir root ≡ true) ⊎ IsThere item

          Below : Type 0
          Below = (x : ℕ) (way : Way) (longer : Word) → Among (items_below depth t (veils h) x way longer) item →
              (is_within t x root ≡ true) ⊎ IsThere item

          -- a directory that is the one, or stands in it as the one around it does
          around : (name : List ℕ) (x : ℕ) → look t dir name ≡ Some x → is_dir t x ≡ true →
              Among (items_below depth t (veils h) x (Named dir name) (word ++ name ∷ [])) item → is_within t x root ≡ true →
              (b : Bool) → (x == root) ≡ b → Answer
          around name x row living a inside true same =
              inr (
                depth,
                Named dir name,
                word ++ name ∷ [],
                subst (λ (d : ℕ). Among (items_below depth t (veils h) d (Named dir name) (word ++ name ∷ [])) item) (eqb-true x root same) a,
              )
          around name x row living a inside false differs =
              let stands = (row_says t sound (dir, name) x row).3 in
              inl (ap (λ d. is_within t d root) (sym (above_is t x (dir, name) stands (sound.once x living stands) row))
              ∙ goes_up t sound root x inside differs)

          stands : Below → (name : List ℕ) (x : ℕ) → look t dir name ≡ Some x → (b : Bool) → is_dir t x ≡ b →
              Among (if b then items_below depth t (veils h) x (Named dir name) (word ++ name ∷ []) else record
              { word = word ++ name ∷ []; subject = At (Slot dir name (Some x)) } ∷ []) item → Answer
          stands more name x row true living a =
              elim (more x (Named dir name) (word ++ name ∷ []) a) [
                | inl inside ↦ around name x row living a inside (x == root) refl
                | inr there ↦ inr there
              ]
          stands more name x row false plain (inl e) = inl (ap (λ (i : Item). is_within t (dir_of i.subject) root) e ∙ within)
          stands more name x row false plain (inr a) = absurd a

          by : Below → (name : List ℕ) (o : Option ℕ) → look t dir name ≡ o →
              Among (items_at t (items_below depth t (veils h)) dir word name o) item → Answer
          by more name None row (inl e) = inl (ap (λ (i : Item). is_within t (dir_of i.subject) root) e ∙ within)
          by more name None row (inr a) = absurd a
          by more name (Some x) row a = stands more name x row (is_dir t x) refl a

      -- and beneath it, it lies where its names behind those of the directory lead
      pub beneath : (item : Item) → Among (items t (veils h)) item → is_within t (dir_of item.subject) root ≡ true →
          ((way : Way) → item.subject ≢ At (Whole root way)) → (over : Word) × Placed root over item
      beneath item a within unlike = elim (enters (length t.nodes) 0 Top [] item within a) [
        | inl inside ↦ absurd (false≢true (sym (climb_root t (length t.nodes) 0 root top refl)
            ∙ (and_parts (is_dir t 0) (list_any (λ e. e == root) (climb t 0)) inside).1))
        | inr there ↦ (there.2, lies there.0 there.1 there.2 there.3)
      ]
        where
          top : (0 == root) ≡ false
          top = ne_eqb 0 root (λ e. other (sym e))

          lies : (depth : ℕ) (way : Way) (over : Word) → Among (items_below depth t (veils h) root way over) item → Placed root over item
          lies zero way over a = absurd a
          lies (suc depth) way over (inl e) = absurd (unlike way (ap (λ (i : Item). i.subject) (sym e)))
          lies (suc depth) way over (inr a) =
              placed root over (suc depth) root Top [] (λ mode links follow rest. refl) tt item
              (subst (λ (w : Word). Among (items_below (suc depth) t (veils h) root Top w) item) (sym (append-nil over)) (inr a))

    pub items_placed : (item : Item) → Among (items t (veils h)) item → Placed 0 [] item
    items_placed item a = placed 0 [] (length t.nodes) 0 Top [] (λ mode links follow rest. refl) tt item a
