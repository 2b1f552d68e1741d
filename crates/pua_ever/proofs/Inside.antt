-- From a root, and from a directory that stays in it, a text names what is at or below the root alone, by a name that is.
use Rattle.pua_ever.proofs.Common.{◌≡◌, ◌≢◌, ◌++◌, ℕ, zero, suc, List, [], ◌∷◌, Bool, true, false, cond, refl, sym, ap, subst, ◌∙◌}
use Rattle.pua_ever.proofs.Common.{Option, Some, None, Ok, Err, not, ◌&&◌, ◌||◌, ◌==◌, if◌then◌else◌, option_map, false≢true}
use Rattle.pua_ever.proofs.Common.{and_parts, and_from, or_right, eq-eqb, eqb-true, same_Some, None≢Some, Tree, Node, Kind, WellFormed, Spot}
use Rattle.pua_ever.proofs.Common.{above, is_dir, is_dir_kind, look, node_at, sound_from, row_says, Found, Whole, Slot, Way, Named, Dot, DotDot}
use Rattle.pua_ever.proofs.Common.{Top, is_below}
use Rattle.pua_tree.specs.Tree.{is_within}
use Rattle.pua_tree.specs.Steps.{◌>>=◌}
use Rattle.pua_tree.specs.declared.node.Kind.TheVariants as kinds
use Rattle.pua_tree.proofs.ForCallers.{above_dir}
use Rattle.pua_path.specs.Fits.{spot_named}
use Rattle.pua_path.specs.Paths.{is_absolute, parts_of, path_fault}
use Rattle.pua_path.specs.Resolution.{RootedTree, Resolved, Standing, Directory, Linked, Plain, Nothing, above_in, has_root, is_followed, most_links}
use Rattle.pua_path.specs.Resolution.{resolution, resolution_of_text, resolve_parts, rooted, seen_from, slot_or, standing_at, standing_of, start_of}
use Rattle.pua_path.specs.Resolution.{starts, walk}
use Rattle.pua_path.specs.declared.errno.Errno.{Errno}
use Rattle.pua_path.specs.declared.errno.Errno.TheVariants.{ELOOP, ENOENT, ENOTDIR}
use Rattle.pua_path.specs.declared.found.Last.{Last}
use Rattle.pua_path.specs.declared.found.Part.{Part}
use Rattle.pua_path.specs.declared.found.Part.TheVariants as parts
use Rattle.pua_path.specs.declared.found.Start.{Start}
use Rattle.pua_path.specs.declared.text.Ending.{Ending}
use Rattle.pua_path.specs.declared.text.Ending.TheVariants as ending
use Rattle.pua_audit.proofs.ForCallers.{above_in_is}
use Rattle.pua_objects.specs.Roots.{stays_in}
use Rattle.pua_ever.proofs.Origin.{below_over}
use Rattle.pua_ever.proofs.Quiet.{above_row, below_self, below_up, root_below}

-- the directory in which something was found, or which it is
abbrev pub dir_found : Found → ℕ
dir_found (Whole dir way) = dir
dir_found (Slot dir name x) = dir

module _ (t : Tree) (well : WellFormed t) where
  -- what stands at a name as a directory is in the row there
  abbrev InItsRow : Option ℕ → Standing → Type 0
  InItsRow o (Directory x) = (o ≡ Some x) × (is_dir t x ≡ true)
  InItsRow o _ = Unit {0}

  of_kind : (x : ℕ) (node : Node) (kind : Kind) → node_at t x ≡ Some node → node.kind ≡ kind →
      InItsRow (Some x) (standing_of x (Some node))
  of_kind x node kinds.Dir e is = rw is (refl, ap is_dir_kind (ap (option_map (λ n. n.kind)) e ∙ ap Some is))
  of_kind x node kinds.Link e is = rw is tt
  of_kind x node kinds.File e is = rw is tt
  of_kind x node kinds.Prog e is = rw is tt
  of_kind x node (kinds.Known type) e is = rw is tt

  of_node : (x : ℕ) (o : Option Node) → node_at t x ≡ o → InItsRow (Some x) (standing_of x o)
  of_node x None e = tt
  of_node x (Some node) e = of_kind x node node.kind e refl

  in_its_row : (dir : ℕ) (name : List ℕ) → InItsRow (look t dir name) (standing_at t dir name)
  in_its_row dir name = by (look t dir name) refl
    where
      by : (o : Option ℕ) → look t dir name ≡ o → InItsRow (look t dir name) (standing_at t dir name)
      by None e = rw e tt
      by (Some x) e = rw e (of_node x (node_at t x) refl)

  module _ (root : ℕ) (lives : is_dir t root ≡ true) where
    abbrev pub Within : ℕ → Type 0
    Within dir = is_within t dir root ≡ true

    pub lives_within : (d : ℕ) → Within d → is_dir t d ≡ true
    lives_within d within = (and_parts (is_dir t d) (is_below t root d) within).0

    pub below_within : (d : ℕ) → Within d → is_below t root d ≡ true
    below_within d within = (and_parts (is_dir t d) (is_below t root d) within).1

    pub root_within : Within root
    root_within = and_from (is_dir t root) (is_below t root root) lives (below_self t well root root (eq-eqb root root refl) lives)

    -- a directory in one that is at or below the root is so too
    pub goes_down : (s : Spot) (x : ℕ) → look t s.0 s.1 ≡ Some x → is_dir t x ≡ true → Within s.0 → Within x
    goes_down s x row is within =
        and_from (is_dir t x) (is_below t root x) is
        (below_over t well root x is (row_says t (sound_from t well) s x row).3
        (ap (is_below t root) (above_row t well root s x row is) ∙ below_within s.0 within))

    -- and so is the one above it, unless it is the root
    pub goes_up : (d : ℕ) → Within d → (d == root) ≡ false → Within (above t d)
    goes_up d within other = by (d == 0) refl
      where
        is : is_dir t d ≡ true
        is = lives_within d within

        by : (b : Bool) → (d == 0) ≡ b → Within (above t d)
        by true e =
            let zero_is : d ≡ 0 = eqb-true d 0 e in
            let never : root ≢ 0 = λ r. false≢true (sym other ∙ eq-eqb d root (zero_is ∙ sym r)) in
            absurd (false≢true (sym (ap (is_below t root) zero_is ∙ root_below t well root never) ∙ below_within d within))
        by false e =
            let below : d ≢ 0 = λ z. false≢true (sym e ∙ eq-eqb d 0 z) in
            and_from (is_dir t (above t d)) (is_below t root (above t d)) (above_dir t (sound_from t well) d is below)
            (sym (below_up t well root d other below is) ∙ below_within d within)

    abbrev seen : RootedTree
    seen = rooted t root

    -- where node 0 is the root, all is below it
    above_within : (d : ℕ) → Within d → Within (above_in seen d)
    above_within d within = subst Within (sym (above_in_is seen d (lives_within d within))) (by (root == 0) (d == root) refl refl)
      where
        by : (top same : Bool) → (root == 0) ≡ top → (d == root) ≡ same → Within (if not top && same then root else above t d)
        by false true no_top is = root_within
        by false false no_top differs = goes_up d within differs
        by true false top differs = goes_up d within differs
        by true true top is =
            let zero_is : d ≡ 0 = eqb-true d root is ∙ eqb-true root 0 top in
            subst Within (ap (above t) (sym zero_is)) (subst Within zero_is within)

    -- the directory of what was found is at or below the root, and so is that of the name by which it was found
    pub record Inside (object : Found) : Type 0 where
      pub dir : Within (dir_found object)
      pub spot : (s : Spot) → spot_named object ≡ Some s → Within s.0

    abbrev pub IsInside : Resolved → Type 0
    IsInside (Ok found) = Inside found.0
    IsInside (Err errno) = Unit {0}

    abbrev WayInside : ℕ → Way → Type 0
    WayInside dir way = (s : Spot) → spot_named (Whole dir way) ≡ Some s → Within s.0

    no_spot : (s : Spot) → None ≡ Some s → Within s.0
    no_spot s e = absurd (None≢Some s e)

    one_spot : (dir : ℕ) (name : List ℕ) → Within dir → (s : Spot) → Some (dir, name) ≡ Some s → Within s.0
    one_spot dir name within s e = ap (λ (r : Spot). is_within t r.0 root) (sym (same_Some (dir, name) s e)) ∙ within

    slot_inside : (dir : ℕ) (name : List ℕ) (x : Option ℕ) (links : ℕ) (errno : Errno) (rest : List Part) → Within dir →
        IsInside (slot_or rest (Slot dir name x) errno links)
    slot_inside dir name x links errno [] within = record { dir = within; spot = one_spot dir name within }
    slot_inside dir name x links errno (part ∷ rest) within = tt

    module _ (mode : Last) (links : ℕ) (follow : ℕ → List ℕ → List Part → Resolved)
        (follows : (from : ℕ) (target : List ℕ) (rest : List Part) → Within from → IsInside (follow from target rest)) where
      link_inside : (b : Bool) (dir : ℕ) (name : List ℕ) (x : ℕ) (target : List ℕ) (rest : List Part) → Within dir →
          IsInside (if b then follow dir target rest else Ok (Slot dir name (Some x), links))
      link_inside true dir name x target rest within = follows dir target rest within
      link_inside false dir name x target rest within = record { dir = within; spot = one_spot dir name within }

      met_inside : (ps : List Part) (dir : ℕ) (name : List ℕ) (s : Standing) → Within dir → InItsRow (look t dir name) s →
          ((x : ℕ) → Within x → IsInside (walk seen mode links follow x (Named dir name) ps)) →
          IsInside (elim s [
            | Directory x ↦ walk seen mode links follow x (Named dir name) ps
            | Linked x target ↦ if is_followed mode ps then follow dir target ps else Ok (Slot dir name (Some x), links)
            | Plain x ↦ slot_or ps (Slot dir name (Some x)) ENOTDIR links
            | Nothing ↦ slot_or ps (Slot dir name None) ENOENT links
          ])
      met_inside ps dir name (Directory x) within row further = further x (goes_down (dir, name) x row.0 row.1 within)
      met_inside ps dir name (Linked x target) within row further = link_inside (is_followed mode ps) dir name x target ps within
      met_inside ps dir name (Plain x) within row further = slot_inside dir name (Some x) links ENOTDIR ps within
      met_inside ps dir name Nothing within row further = slot_inside dir name None links ENOENT ps within

      walk_inside : (ps : List Part) (dir : ℕ) (way : Way) → Within dir → WayInside dir way →
          IsInside (walk seen mode links follow dir way ps)
      walk_inside [] dir way within named = record { dir = within; spot = named }
      walk_inside (parts.Dot ∷ ps) dir way within named = walk_inside ps dir Dot within no_spot
      walk_inside (parts.DotDot ∷ ps) dir way within named = walk_inside ps (above_in seen dir) DotDot (above_within dir within) no_spot
      walk_inside (parts.Name name ∷ ps) dir way within named =
          met_inside ps dir name (standing_at t dir name) within (in_its_row dir name)
          (λ x inner. walk_inside ps x (Named dir name) inner (one_spot dir name within))

    target_within : (target : List ℕ) (d : ℕ) → Within d → Within (start_of root target d)
    target_within target d within = by (is_absolute target)
      where
        by : (b : Bool) → Within (if b then root else d)
        by true = root_within
        by false = within

    resolve_inside : (mode : Last) (links : ℕ) (ps : List Part) (dir : ℕ) → Within dir → IsInside (resolve_parts links seen mode dir Top ps)
    resolve_inside mode zero ps dir within = walk_inside mode 0 (λ _ _ _. Err ELOOP) (λ _ _ _ _. tt) ps dir Top within no_spot
    resolve_inside mode (suc links) ps dir within =
        walk_inside mode (suc links) _ (λ from target rest inner. resolve_inside mode links (parts_of ending.Dot target ++ rest)
        (start_of root target from) (target_within target from inner)) ps dir Top within no_spot

    found_inside : (r : Resolved) (object : Found) → IsInside r → (r >>= λ found. Ok found.0) ≡ Ok object → Inside object
    found_inside (Ok found) object inside e = let same : found.0 ≡ object = cc in subst Inside same inside
    found_inside (Err errno) object inside e = cc

    -- a root that lives is the root as paths see it
    root_there : has_root t root ≡ true
    root_there = or_right (root == 0) (is_dir t root) lives

    start_within : (from : Start) → from.root ≡ root → stays_in t root from.dir ≡ true → (text : List ℕ) → starts t from text ≡ true →
        Within (start_of from.root text from.dir)
    start_within from is stays text = by (is_absolute text)
      where
        by_dir : (b : Bool) → is_dir t from.dir ≡ b → b ≡ true → Within from.dir
        by_dir true e begins = ap (λ b. not b || is_within t from.dir root) (sym e) ∙ stays
        by_dir false e begins = absurd (false≢true begins)

        by : (v : Bool) → (if v then has_root t from.root else is_dir t from.dir) ≡ true → Within (if v then from.root else from.dir)
        by true begins = subst Within (sym is) root_within
        by false begins = by_dir (is_dir t from.dir) refl begins

    whole_inside : (from : Start) → from.root ≡ root → stays_in t root from.dir ≡ true → (end : Ending) (text : List ℕ) (mode : Last)
        (object : Found) → resolution t from end text mode ≡ Ok object → Inside object
    whole_inside from is stays end text mode object = by (starts t from text) refl
      where
        same : seen_from t from ≡ seen
        same = λ i. rooted t (cond ((ap (has_root t) is ∙ root_there) i) (is i) 0)

        by : (v : Bool) → starts t from text ≡ v →
            (if not v then Err ENOENT else (resolve_parts most_links (seen_from t from) mode (start_of from.root text from.dir) Top
            (parts_of end text) >>= λ found. Ok found.0)) ≡ Ok object → Inside object
        by true begins e =
            found_inside (resolve_parts most_links seen mode (start_of from.root text from.dir) Top (parts_of end text)) object
            (resolve_inside mode most_links (parts_of end text) (start_of from.root text from.dir) (start_within from is stays text begins))
            (ap (λ seeing. resolve_parts most_links seeing mode (start_of from.root text from.dir) Top (parts_of end text)
            >>= λ found. Ok found.0) (sym same) ∙ e)
        by false begins e = cc

    pub text_inside : (from : Start) → from.root ≡ root → stays_in t root from.dir ≡ true → (end : Ending) (text : List ℕ) (mode : Last)
        (object : Found) → resolution_of_text t from end text mode ≡ Ok object → Inside object
    text_inside from is stays end text mode object = by (path_fault text) refl
      where
        by : (o : Option Errno) → path_fault text ≡ o → resolution_of_text t from end text mode ≡ Ok object → Inside object
        by None e = rw e (λ found. whole_inside from is stays end text mode object found)
        by (Some errno) e = rw e (λ found. cc)
