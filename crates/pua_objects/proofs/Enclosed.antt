-- By a root, from a directory that stays in it, paths lead to what is at or below the root alone.
use Rattle.pua_objects.proofs.Common.{◌≡◌, ◌≢◌, ◌≤◌, ◌<◌, ◌==◌, ℕ, zero, suc, Bool, true, false, List, [], ◌∷◌, length, refl, sym}
use Rattle.pua_objects.proofs.Common.{ap, ◌∙◌, subst, arith, ◌&&◌, ◌||◌, not, if◌then◌else◌, and_parts, eqb-true, eq-eqb, Option, Some, None}
use Rattle.pua_objects.proofs.Common.{Ok, Err, Tree, Sound, Spot, look, is_dir, climb_ends, row_says, Found, Whole, Slot, Last, Way}
use Rattle.pua_objects.proofs.Common.{Top}
use Rattle.std.proofs.lemmas.Bool.{eqb-false, false≢true, and_from, or_left, or_right, or_cases}
use Rattle.std.specs.Prelude.{Result, option_map, unwrap_or}
use Rattle.std.specs.List.{list_any}
use Rattle.std.proofs.Common.{inl, inr}
use Rattle.pua_tree.specs.Tree.{Node, above, climb, climb_within, is_dir_kind, is_within, node_at}
use Rattle.pua_tree.specs.declared.node.Kind.{Kind}
use Rattle.pua_tree.specs.declared.node.Kind.TheVariants as kinds
use Rattle.pua_tree.specs.Steps.{◌>>=◌}
use Rattle.pua_tree.proofs.ForCallers.{Reaches, above_is, above_dir, climb_here, climb_root, climb_more}
use Rattle.pua_path.specs.Goes.{Comes, there, by_dot, by_dots, by_directory, by_target, EndsAt, Arrives}
use Rattle.pua_path.specs.Paths.{is_absolute, parts_of}
use Rattle.pua_path.specs.Resolution.{RootedTree, rooted, above_in, has_root, most_links, resolution, resolve_parts, seen_from}
use Rattle.pua_path.specs.Resolution.{Resolved, Directory, Linked, Plain, Nothing, standing_at, standing_of, start_of, starts}
use Rattle.pua_path.specs.Traces.{Trace, resolved_as, trace_parts}
use Rattle.pua_path.specs.declared.errno.Errno.TheVariants.{ENOENT}
use Rattle.pua_path.specs.declared.found.Part.{Part}
use Rattle.pua_path.specs.declared.found.Start.{Start}
use Rattle.pua_path.specs.declared.text.Ending.{Ending}
use Rattle.pua_path.specs.declared.traced.Stop.{Stop}
use Rattle.pua_path.proofs.ForCallers.{traces_answer, traces_arrive}
use Rattle.pua_audit.proofs.ForCallers.{above_in_is}
use Rattle.pua_objects.specs.Roots.{stays_in}

-- the directory of what a path named
abbrev pub found_dir : Found → ℕ
found_dir (Whole dir way) = dir
found_dir (Slot dir name x) = dir

-- one step more that a climb may take adds to it alone
longer : (t : Tree) (n d x : ℕ) → list_any (λ e. e == x) (climb_within n t d) ≡ true → list_any (λ e. e == x) (climb_within (suc n) t d) ≡ true
longer t zero d x h =
    elim (or_cases (d == x) false h) [ inl e ↦ climb_here t 1 d x e | inr e ↦ absurd (false≢true e) ]
longer t (suc n) zero x h = h
longer t (suc n) (suc d) x h =
    elim (or_cases (suc d == x) (list_any (λ e. e == x) (climb_within n t (above t (suc d)))) h) [
      | inl e ↦ or_left (suc d == x) _ e
      | inr e ↦ or_right (suc d == x) _ (longer t n (above t (suc d)) x e)
    ]

-- and nothing where it gets to the root before
settled : (t : Tree) (k n d : ℕ) → Reaches t k d → k ≤ n → climb_within (suc n) t d ≡ climb_within n t d
settled t zero n d r low = rw r (root n)
  where
    root : (n : ℕ) → climb_within (suc n) t 0 ≡ climb_within n t 0
    root zero = refl
    root (suc n) = refl
settled t (suc k) zero d r low = absurd (omega (arith, low))
settled t (suc k) (suc n) zero r low = absurd (r.0 refl)
settled t (suc k) (suc n) (suc d) r low = ap (λ ds. suc d ∷ ds) (settled t k n (above t (suc d)) r.1 (omega (arith, low)))

module _ (t : Tree) (sound : Sound t) where
  -- a climb takes a step where there is a node
  some_nodes : (d : ℕ) → is_dir t d ≡ true → (n : ℕ) × (length t.nodes ≡ suc n)
  some_nodes d living = by (length t.nodes) refl
    where
      root_low : 0 < length t.nodes
      root_low = climb_ends t sound 0 sound.root 0 refl

      by : (n : ℕ) → length t.nodes ≡ n → (m : ℕ) × (length t.nodes ≡ suc m)
      by zero e = absurd (omega (arith, root_low, e))
      by (suc m) e = (m, e)

  pub itself : (d : ℕ) → is_dir t d ≡ true → is_within t d d ≡ true
  itself d living = and_from _ _ living (climb_here t (length t.nodes) d d (eq-eqb d d refl))

  -- the directory above one that is below stays in it
  pub goes_up : (root d : ℕ) → is_within t d root ≡ true → (d == root) ≡ false → is_within t (above t d) root ≡ true
  goes_up root d within other =
      by (d == 0) refl
    where
      parts : (is_dir t d ≡ true) × (list_any (λ e. e == root) (climb t d) ≡ true)
      parts = and_parts (is_dir t d) (list_any (λ e. e == root) (climb t d)) within

      by : (b : Bool) → (d == 0) ≡ b → is_within t (above t d) root ≡ true
      by true e = absurd (false≢true (sym (climb_root t (length t.nodes) d root other (eqb-true d 0 e)) ∙ parts.1))
      by false e =
          let below = eqb-false d 0 e in
          let some = some_nodes d parts.0 in
          let shorter : list_any (λ e. e == root) (climb_within some.0 t (above t d)) ≡ true =
          sym (climb_more t some.0 d root other below) ∙ ap (λ n. list_any (λ e. e == root) (climb_within n t d)) (sym some.1) ∙ parts.1 in
          and_from _ _ (above_dir t sound d parts.0 below)
          (ap (λ n. list_any (λ e. e == root) (climb_within n t (above t d))) some.1 ∙ longer t some.0 (above t d) root shorter)

  -- and so does a directory in it
  pub goes_down : (root d : ℕ) (name : List ℕ) (x : ℕ) → is_within t d root ≡ true → look t d name ≡ Some x → is_dir t x ≡ true →
      is_within t x root ≡ true
  goes_down root d name x within row living =
      and_from _ _ living (by (x == root) refl)
    where
      below : x ≢ 0
      below = (row_says t sound (d, name) x row).3

      over : above t x ≡ d
      over = above_is t x (d, name) below (sound.once x living below) row

      parts : (is_dir t d ≡ true) × (list_any (λ e. e == root) (climb t d) ≡ true)
      parts = and_parts (is_dir t d) (list_any (λ e. e == root) (climb t d)) within

      way : (k : ℕ) × Reaches t k x
      way = sound.rooted x living below

      deep : way.0 < length t.nodes
      deep = climb_ends t sound x living way.0 way.1

      enough : (k n : ℕ) → Reaches t k x → k < suc n → climb_within (suc n) t d ≡ climb_within n t d
      enough zero n r low = absurd (below r)
      enough (suc k) n r low = settled t k n d (subst (Reaches t k) over r.1) (omega (arith, low))

      by : (b : Bool) → (x == root) ≡ b → list_any (λ e. e == root) (climb t x) ≡ true
      by true e = climb_here t (length t.nodes) x root e
      by false e =
          let some = some_nodes d parts.0 in
          ap (λ n. list_any (λ e. e == root) (climb_within n t x)) some.1
          ∙ climb_more t some.0 x root e below
          ∙ ap (λ o. list_any (λ e. e == root) (climb_within some.0 t o)) over
          ∙ ap (list_any (λ e. e == root)) (sym (enough way.0 some.0 way.1 (subst (λ n. way.0 < n) some.1 deep)))
          ∙ ap (λ n. list_any (λ e. e == root) (climb_within n t d)) (sym some.1)
          ∙ parts.1

  -- a directory that stands at a name is in the row there
  directory_row : (d : ℕ) (name : List ℕ) (x : ℕ) → standing_at t d name ≡ Directory x → (look t d name ≡ Some x) × (is_dir t x ≡ true)
  directory_row d name x stands = by (look t d name) refl stands
    where
      IsThere : ℕ → Type 0
      IsThere y = (y ≡ x) × (is_dir t y ≡ true)

      of_kind : (y : ℕ) (node : Node) (kind : Kind) → node_at t y ≡ Some node → node.kind ≡ kind →
          standing_of y (Some node) ≡ Directory x → IsThere y
      of_kind y node kinds.Dir at is s =
          let same : Directory y ≡ Directory x = rw is at s in
          (cc, ap is_dir_kind (ap (option_map (λ n. n.kind)) at ∙ ap Some is))
      of_kind y node kinds.File at is s = let never : Plain y ≡ Directory x = rw is at s in cc
      of_kind y node kinds.Prog at is s = let never : Plain y ≡ Directory x = rw is at s in cc
      of_kind y node (kinds.Known type) at is s = let never : Plain y ≡ Directory x = rw is at s in cc
      of_kind y node kinds.Link at is s = let never : Linked y (unwrap_or node.target []) ≡ Directory x = rw is at s in cc

      of_node : (y : ℕ) (o : Option Node) → node_at t y ≡ o → standing_of y o ≡ Directory x → IsThere y
      of_node y None at s = cc
      of_node y (Some node) at s = of_kind y node node.kind at refl s

      by : (o : Option ℕ) → look t d name ≡ o → standing_at t d name ≡ Directory x → (look t d name ≡ Some x) × (is_dir t x ≡ true)
      by None row s = let never : Nothing ≡ Directory x = rw row at s in cc
      by (Some y) row s =
          let there : standing_of y (node_at t y) ≡ Directory x = rw row at s in
          let is = of_node y (node_at t y) refl there in
          (row ∙ ap Some is.0, ap (is_dir t) (sym is.0) ∙ is.1)

  module _ (root : ℕ) (lives : is_dir t root ≡ true) where
    abbrev seen : RootedTree
    seen = rooted t root

    above_stays : (d : ℕ) → is_within t d root ≡ true → is_within t (above_in seen d) root ≡ true
    above_stays d within =
        subst (λ e. is_within t e root ≡ true) (sym (above_in_is seen d (and_parts (is_dir t d) _ within).0)) (by (d == root) refl (root == 0) refl)
      where
        at_top : d ≡ root → root ≡ 0 → is_within t (above t d) root ≡ true
        at_top same top = ap (λ e. is_within t (above t e) root) (same ∙ top) ∙ ap (λ r. is_within t 0 r) top ∙ itself 0 sound.root

        by : (same : Bool) → (d == root) ≡ same → (top : Bool) → (root == 0) ≡ top →
            is_within t (if not top && same then root else above t d) root ≡ true
        by true e false f = itself root lives
        by true e true f = at_top (eqb-true d root e) (eqb-true root 0 f)
        by false e true f = goes_up root d within e
        by false e false f = goes_up root d within e

    target_stays : (target : List ℕ) (d : ℕ) → is_within t d root ≡ true → is_within t (start_of root target d) root ≡ true
    target_stays target d within = by (is_absolute target)
      where
        by : (b : Bool) → is_within t (if b then root else d) root ≡ true
        by true = itself root lives
        by false = within

    -- a path that has come from within is within
    stays : {mode : Last} {links dir : ℕ} {ps : List Part} {spots : List Spot} {left at : ℕ} {rest : List Part} →
        Comes seen mode links dir ps spots left at rest → is_within t dir root ≡ true → is_within t at root ≡ true
    stays there within = within
    stays (by_dot c) within = stays c within
    stays {dir = dir} (by_dots c) within = stays c (above_stays dir within)
    stays {dir = dir} (by_directory {name = name} x stands c) within =
        let row = directory_row dir name x stands in stays c (goes_down root dir name x within row.0 row.1)
    stays {dir = dir} (by_target x target stands followed c) within = stays c (target_stays target dir within)

    -- what it names stands within, or is a directory there
    ends : (mode : Last) (links dir : ℕ) (ps : List Part) (spots : List Spot) (left : ℕ) (found : Found) →
        EndsAt seen mode links dir ps spots found left → is_within t dir root ≡ true → is_within t (found_dir found) root ≡ true
    ends mode links dir ps spots left (Whole at way) e within = stays e within
    ends mode links dir ps spots left (Slot at name x) e within = stays e.0 within

    parts_within : (mode : Last) (links dir : ℕ) (way : Way) (ps : List Part) (object : Found) → is_within t dir root ≡ true →
        (resolve_parts links seen mode dir way ps >>= λ found. Ok found.0) ≡ Ok object → is_within t (found_dir object) root ≡ true
    parts_within mode links dir way ps object within e =
        by trace.outcome trace.links (traces_arrive seen mode links dir way ps)
        (ap (λ (r : Resolved). r >>= λ found. Ok found.0) (traces_answer seen mode links dir way ps) ∙ e)
      where
        trace : Trace
        trace = trace_parts links seen mode dir way ps

        by : (outcome : Result (Found × ℕ) Stop) (spots : List Spot) →
            Arrives seen mode links dir ps (record { links = spots; outcome = outcome }) →
            (resolved_as outcome >>= λ found. Ok found.0) ≡ Ok object → is_within t (found_dir object) root ≡ true
        by (Ok found) spots a is =
            let same : found.0 ≡ object = cc in
            subst (λ o. is_within t (found_dir o) root ≡ true) same (ends mode links dir ps spots found.1 found.0 a within)
        by (Err stop) spots a is = cc

    -- so does whatever text from there
    pub text_within : (from : Start) (ending : Ending) (text : List ℕ) (mode : Last) (object : Found) → from.root ≡ root →
        stays_in t root from.dir ≡ true → resolution t from ending text mode ≡ Ok object → is_within t (found_dir object) root ≡ true
    text_within from ending text mode object is stay = by (starts t from text) refl
      where
        at : ℕ
        at = start_of from.root text from.dir

        is_seen : seen_from t from ≡ seen
        is_seen =
            (λ i. rooted t (if has_root t (is i) then is i else 0))
            ∙ ap (λ b. rooted t (if b then root else 0)) (or_right (root == 0) (is_dir t root) lives)

        starts_within : starts t from text ≡ true → is_within t at root ≡ true
        starts_within = start (is_absolute text)
          where
            start : (b : Bool) → (if b then has_root t from.root else is_dir t from.dir) ≡ true →
                is_within t (if b then from.root else from.dir) root ≡ true
            start true begun = ap (λ r. is_within t r root) is ∙ itself root lives
            start false begun = ap (λ b. not b || is_within t from.dir root) (sym begun) ∙ stay

        by : (v : Bool) → starts t from text ≡ v →
            (if not v then Err ENOENT else (resolve_parts most_links (seen_from t from) mode at Top (parts_of ending text)
            >>= λ found. Ok found.0)) ≡ Ok object → is_within t (found_dir object) root ≡ true
        by true begun e =
            parts_within mode most_links at Top (parts_of ending text) object (starts_within begun)
            (ap (λ r. resolve_parts most_links r mode at Top (parts_of ending text) >>= λ found. Ok found.0) (sym is_seen) ∙ e)
        by false begun e = cc
