-- What resolution finds is of the tree.
use Rattle.pua_path.proofs.Common.{Tree, RootedTree, Start, above_in, seen_from, starts}
use Rattle.pua_path.proofs.Common.{◌≡◌, ◌≤◌, ℕ, zero, suc, List, [], ◌∷◌, ◌++◌, Bool, true, false, refl, sym, ap, ◌∙◌, subst, arith}
use Rattle.pua_path.proofs.Common.{option_map, if◌then◌else◌, not, ◌==◌, and_parts, Node, node_at, is_dir, ◌>>=◌, Kind}
use Rattle.pua_path.proofs.Common.{parts_of, Resolved, Standing, Directory, Linked, Plain, Nothing, standing_at, is_followed}
use Rattle.pua_path.proofs.Common.{slot_or, walk, start_of, resolve_parts, dir_with_links, resolution, most_links, Errno, ENOENT, ENOTDIR}
use Rattle.pua_path.proofs.Common.{ELOOP, Ending, Part, Last, Followed, Way, Named, Dot, DotDot, Top, Found, Whole, Slot}
use Rattle.std.specs.Prelude.{Option, Some, None, Result, Ok, Err, is_none, is_some, ◌-◌, IfOk}
use Rattle.std.specs.Option.{option_eq}
use Rattle.std.proofs.lemmas.Bool.{eq-eqb, and_from}
use Rattle.pua_tree.specs.Tree.{WellFormed, look, is_dir_kind, is_living, row_fits, spot_cmp}
use Rattle.pua_tree.specs.Names.{is_name}
use Rattle.pua_tree.proofs.ForCallers.{exact_spots}
use Rattle.pua_tree.specs.declared.node.Kind.TheVariants as kinds
use Rattle.pua_path.specs.Resolution.{standing_of}
use Rattle.pua_path.specs.Fits.{FoundFits, FoundsFit, StandsAsNamed, IsOf, is_link_kind}
use Rattle.pua_path.specs.Laws.{Lands, ResolutionsFit}
use Rattle.pua_path.specs.declared.text.Ending.TheVariants as ending
use Rattle.pua_path.specs.declared.found.Part.TheVariants as parts
use Rattle.pua_path.proofs.Living.{list_all-find_key, above_in_lives, start_lives, seen_root_lives, text_start_lives}
use Rattle.pua_path.proofs.Steps.{met, walk_name}
use Rattle.pua_path.proofs.StepsLaw.{Shrinks, shrinks}

module _ (t : Tree) (fits : WellFormed t) where
  -- what stands at a name is as its row and its node say
  abbrev StandsRight : Option ℕ → Standing → Type 0
  StandsRight o (Directory x) = (o ≡ Some x) × (is_dir t x ≡ true)
  StandsRight o (Linked x target) = (o ≡ Some x) × (is_dir t x ≡ false)
  StandsRight o (Plain x) = (o ≡ Some x) × (is_dir t x ≡ false) × (is_link_kind (option_map (λ n. n.kind) (node_at t x)) ≡ false)
  StandsRight o Nothing = o ≡ None

  -- the node in a row lives
  row_lives : (dir : ℕ) (name : List ℕ) (x : ℕ) → look t dir name ≡ Some x → is_some (node_at t x) ≡ true
  row_lives dir name x e =
      let all = list_all-find_key spot_cmp exact_spots (row_fits t) (dir, name) t.rows x fits.rows_fit e in
      let one = and_parts (is_dir t dir) _ all in
      let two = and_parts (is_name name) _ one.1 in
      (and_parts (is_living t x) _ two.1).0

  of_kind : (x : ℕ) (node : Node) (kind : Kind) → node_at t x ≡ Some node → node.kind ≡ kind →
      StandsRight (Some x) (standing_of x (Some node))
  of_kind x node kinds.Dir e is = rw is (refl, ap is_dir_kind (ap (option_map (λ n. n.kind)) e ∙ ap Some is))
  of_kind x node kinds.Link e is = rw is (refl, ap is_dir_kind (ap (option_map (λ n. n.kind)) e ∙ ap Some is))
  of_kind x node kinds.File e is =
      rw is (
        refl,
        ap is_dir_kind (ap (option_map (λ n. n.kind)) e ∙ ap Some is),
        ap is_link_kind (ap (option_map (λ n. n.kind)) e ∙
            ap Some is),
      )
  of_kind x node kinds.Prog e is =
      rw is (
        refl,
        ap is_dir_kind (ap (option_map (λ n. n.kind)) e ∙ ap Some is),
        ap is_link_kind (ap (option_map (λ n. n.kind)) e ∙
            ap Some is),
      )
  of_kind x node (kinds.Known type) e is =
      rw is (
        refl,
        ap is_dir_kind (ap (option_map (λ n. n.kind)) e ∙ ap Some is),
        ap is_link_kind (ap (option_map (λ n. n.kind)) e ∙
            ap Some is),
      )

  of_node : (x : ℕ) (o : Option Node) → node_at t x ≡ o → is_some o ≡ true → StandsRight (Some x) (standing_of x o)
  of_node x None e lives = cc
  of_node x (Some node) e lives = of_kind x node node.kind e refl

  stands_right : (dir : ℕ) (name : List ℕ) → StandsRight (look t dir name) (standing_at t dir name)
  stands_right dir name = by (look t dir name) refl
    where
      by : (o : Option ℕ) → look t dir name ≡ o → StandsRight (look t dir name) (standing_at t dir name)
      by None e = rw e refl
      by (Some x) e = rw e (of_node x (node_at t x) refl (row_lives dir name x e))

module _ (t : RootedTree) (fits : WellFormed t.tree) (root : is_dir t.tree t.root ≡ true) where
  module _ (mode : Last) where
    abbrev IsFitting : Resolved → Type 0
    IsFitting (Ok found) = IsOf t.tree mode found.0
    IsFitting (Err errno) = Unit {0}

    slot_fits : (dir : ℕ) (name : List ℕ) (x : ℕ) → is_dir t.tree dir ≡ true → look t.tree dir name ≡ Some x → is_dir t.tree x ≡ false →
        FoundFits t.tree (Slot dir name (Some x))
    slot_fits dir name x living at other =
        and_from _ _ living (and_from _ _ (ap (λ o. option_eq ◌==◌ o (Some x)) at ∙ eq-eqb x x refl) (ap not other))

    slot_or_fits : (found : Found) (links : ℕ) (errno : Errno) (rest : List Part) → IsOf t.tree mode found →
        IsFitting (slot_or rest found errno links)
    slot_or_fits found links errno [] is = is
    slot_or_fits found links errno (part ∷ rest) is = tt

    module _ (links : ℕ) (follow : ℕ → List ℕ → List Part → Resolved)
        (follows : (from : ℕ) (target : List ℕ) (rest : List Part) → is_dir t.tree from ≡ true → IsFitting (follow from target rest)) where
      linked_fits : (dir : ℕ) (name : List ℕ) (x : ℕ) (target : List ℕ) (rest : List Part) → is_dir t.tree dir ≡ true →
          StandsRight t.tree fits (look t.tree dir name) (Linked x target) →
          (b : Bool) → is_followed mode rest ≡ b → IsFitting (if b then follow dir target rest else Ok (Slot dir name (Some x), links))
      linked_fits dir name x target rest living right true e = follows dir target rest living
      linked_fits dir name x target rest living right false e = record {
        fits = slot_fits dir name x living right.0 right.1;
        named = (living, right.0);
        followed = λ is. let always : is_followed mode rest ≡ true = ap (λ m. is_followed m rest) is in cc;
      }

      met_fits : (ps : List Part) (dir : ℕ) (name : List ℕ) (s : Standing) → is_dir t.tree dir ≡ true → StandsRight t.tree fits (look t.tree dir name) s →
          ((x : ℕ) → is_dir t.tree x ≡ true → look t.tree dir name ≡ Some x → IsFitting (walk t mode links follow x (Named dir name) ps)) →
          IsFitting (met t mode links follow dir name ps s)
      met_fits ps dir name (Directory x) living right further = further x right.1 right.0
      met_fits ps dir name (Linked x target) living right further = linked_fits dir name x target ps living right (is_followed mode ps) refl
      met_fits ps dir name (Plain x) living right further =
          slot_or_fits (Slot dir name (Some x)) links ENOTDIR ps
          (record { fits = slot_fits dir name x living right.0 right.1; named = (living, right.0); followed = λ _. right.2 })
      met_fits ps dir name Nothing living right further =
          slot_or_fits (Slot dir name None) links ENOENT ps
          (record { fits = and_from _ _ living (ap is_none right); named = (living, right); followed = λ _. refl })

      walk_fits : (ps : List Part) (dir : ℕ) (way : Way) → is_dir t.tree dir ≡ true → StandsAsNamed t.tree (Whole dir way) →
          IsFitting (walk t mode links follow dir way ps)
      walk_fits [] dir way living named = record { fits = living; named = named; followed = λ _. refl }
      walk_fits (parts.Dot ∷ ps) dir way living named = walk_fits ps dir Dot living tt
      walk_fits (parts.DotDot ∷ ps) dir way living named = walk_fits ps (above_in t dir) DotDot (above_in_lives t dir fits root) tt
      walk_fits (parts.Name name ∷ ps) dir way living named =
          rw (walk_name t mode links follow dir way name ps)
          (met_fits ps dir name (standing_at t.tree dir name) living (stands_right t.tree fits dir name) (λ x lives at. walk_fits ps x (Named dir name) lives
          (living, at)))

    resolve_fits : (links : ℕ) (ps : List Part) (dir : ℕ) → is_dir t.tree dir ≡ true → IsFitting (resolve_parts links t mode dir Top ps)
    resolve_fits zero ps dir living = walk_fits 0 (λ _ _ _. Err ELOOP) (λ _ _ _ _. tt) ps dir Top living tt
    resolve_fits (suc links) ps dir living =
        walk_fits (suc links) _ (λ from target rest here. resolve_fits links (parts_of ending.Dot target ++ rest) (start_of t.root target from)
        (start_lives t.tree t.root from target root here)) ps dir Top living tt

    found_fits : (r : Resolved) (object : Found) → IsFitting r → (r >>= λ found. Ok found.0) ≡ Ok object → IsOf t.tree mode object
    found_fits (Ok found) object right e = let same : found.0 ≡ object = cc in subst (IsOf t.tree mode) same right
    found_fits (Err errno) object right e = cc

    landed : (links : ℕ) (r : Resolved) → IsFitting r → Shrinks links r → Lands t mode links r
    landed links (Ok found) right fewer = (right, fewer)
    landed links (Err errno) right fewer = tt

    -- what parts name is of the tree
    lands : (links : ℕ) (ps : List Part) (dir : ℕ) → is_dir t.tree dir ≡ true → Lands t mode links (resolve_parts links t mode dir Top ps)
    lands links ps dir living =
        landed links (resolve_parts links t mode dir Top ps) (resolve_fits links ps dir living) (shrinks t mode links dir Top ps)

  reached_is_dir : (r : Resolved) (next : ℕ × ℕ) → IsFitting Followed r → (r >>= dir_with_links) ≡ Ok next → is_dir t.tree next.0 ≡ true
  reached_is_dir (Ok (Whole dir way, links)) next right e = let same : dir ≡ next.0 = cc in ap (is_dir t.tree) (sym same) ∙ right.fits
  reached_is_dir (Ok (Slot dir name _, links)) next right e = cc
  reached_is_dir (Err errno) next right e = cc

-- what a path names is of the tree
whole_fits : (t : Tree) → WellFormed t → (from : Start) (ending : Ending) (text : List ℕ) (mode : Last) (object : Found) →
    resolution t from ending text mode ≡ Ok object → IsOf t mode object
whole_fits t fits from ending text mode object = by (starts t from text) refl
  where
    by : (v : Bool) → starts t from text ≡ v →
        (if not v then Err ENOENT else (resolve_parts most_links (seen_from t from) mode (start_of from.root text from.dir) Top
        (parts_of ending text) >>= λ found. Ok found.0)) ≡ Ok object → IsOf t mode object
    by true h e = found_fits (seen_from t from) fits (seen_root_lives t from fits) mode
        (resolve_parts most_links (seen_from t from) mode (start_of from.root text from.dir) Top (parts_of ending text)) object
        (resolve_fits (seen_from t from) fits (seen_root_lives t from fits) mode most_links (parts_of ending text)
        (start_of from.root text from.dir) (text_start_lives t from text fits h)) e
    by false h e = cc

-- a step uses no more links than may be followed
reached_used : (r : Resolved) (next : ℕ × ℕ) → (r >>= dir_with_links) ≡ Ok next → next.1 ≤ most_links
reached_used (Ok (Whole dir way, links)) next e = let same : (dir, most_links - links) ≡ next = cc in
    omega (arith, ap (λ (n : ℕ × ℕ). n.1) same)
reached_used (Ok (Slot dir name _, links)) next e = cc
reached_used (Err errno) next e = cc

pub resolutions_fit : ResolutionsFit
resolutions_fit t fits root = record {
  parts = λ links dir mode ps living. lands t fits root mode links ps dir living;
  whole = whole_fits t.tree fits;
  last = λ dir used part mode object living e. found_fits t fits root mode (resolve_parts (most_links - used) t mode dir Top (part ∷ [])) object
      (resolve_fits t fits root mode (most_links - used) (part ∷ []) dir living) e;
  step = λ dir used part next living e. reached_is_dir t fits root (resolve_parts (most_links - used) t Followed dir Top (part ∷ parts.Dot ∷ []))
      next (resolve_fits t fits root Followed (most_links - used) (part ∷ parts.Dot ∷ []) dir living) e;
  used = λ dir used part next e. reached_used (resolve_parts (most_links - used) t Followed dir Top (part ∷ parts.Dot ∷ [])) next e;
}

-- what parts name is of the tree, and stands at the name by which it was found
pub parts_fit : (t : RootedTree) → WellFormed t.tree → is_dir t.tree t.root ≡ true → (links dir : ℕ) (mode : Last) (ps : List Part) (r : Resolved) → is_dir t.tree dir ≡ true →
    r ≡ resolve_parts links t mode dir Top ps → IfOk r (λ found. FoundFits t.tree found.0)
parts_fit t fits root links dir mode ps (Ok found) living e =
    (subst (Lands t mode links) (sym e) (lands t fits root mode links ps dir living)).0.fits
parts_fit t fits root links dir mode ps (Err errno) living e = tt

pub parts_named : (t : RootedTree) → WellFormed t.tree → is_dir t.tree t.root ≡ true → (links dir : ℕ) (mode : Last) (ps : List Part) (r : Resolved) → is_dir t.tree dir ≡ true →
    r ≡ resolve_parts links t mode dir Top ps → IfOk r (λ found. StandsAsNamed t.tree found.0)
parts_named t fits root links dir mode ps (Ok found) living e =
    (subst (Lands t mode links) (sym e) (lands t fits root mode links ps dir living)).0.named
parts_named t fits root links dir mode ps (Err errno) living e = tt

-- the same of what a path names
pub founds_fit : (t : Tree) → WellFormed t → (from : Start) (ending : Ending) (text : List ℕ) (mode : Last) (found : Result Found Errno) →
    found ≡ resolution t from ending text mode → FoundsFit t found
founds_fit t fits from ending text mode (Ok object) e = (whole_fits t fits from ending text mode object (sym e)).fits
founds_fit t fits from ending text mode (Err errno) e = tt

pub founds_named : (t : Tree) → WellFormed t → (from : Start) (ending : Ending) (text : List ℕ) (mode : Last) (found : Result Found Errno) →
    found ≡ resolution t from ending text mode → IfOk found (StandsAsNamed t)
founds_named t fits from ending text mode (Ok object) e = (whole_fits t fits from ending text mode object (sym e)).named
founds_named t fits from ending text mode (Err errno) e = tt
