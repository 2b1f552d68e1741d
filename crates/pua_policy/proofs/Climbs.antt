-- Climbing in a tree, one directory after another.
use Rattle.pua_policy.proofs.Common.{◌≡◌, ℕ, ◌+◌, ◌≢◌, List, [], ◌∷◌, length, Bool, true, false, map, refl, sym, ap, ◌∙◌, arith, eqb-true}
use Rattle.pua_policy.proofs.Common.{list_any, Option, Some, None, ◌||◌, Tree, WellFormed, is_dir, above, climb, nearest, Only, and_parts}
use Rattle.std.proofs.Common.{zero, suc, ◌≤◌, add-one}
use Rattle.std.proofs.lemmas.Bool.{false≢true}
use Rattle.std.specs.Ordering.{nat_cmp}
use Rattle.std.specs.FinMap.{nat_cmp-IsAntisymmetric, find as find_key}
use Rattle.std.specs.Prelude.{option_map, ◌==◌, nat_lt}
use Rattle.pua_tree.specs.Tree.{Node, is_dir_kind, climb_within, node_at, node_fits, rows_fit_kind}
use Rattle.pua_tree.specs.Tree.{rows_of, target_fits}
use Rattle.pua_tree.specs.declared.node.Kind.{Kind}
use Rattle.pua_tree.specs.declared.node.Kind.TheVariants.{Dir}
use Rattle.pua_policy.specs.declared.answer.Cover.TheVariants.{Nothing}
use Rattle.pua_path.proofs.ForCallers.{above_lives, list_all-find_key}

-- a climb gets to the root
abbrev pub has_root : List ℕ → Bool
has_root = list_any (λ d. d == 0)

-- the root is not among directories that are not it
rest_has_root : (d : ℕ) (ds : List ℕ) → has_root (suc d ∷ ds) ≡ true → has_root ds ≡ true
rest_has_root d ds e =
    elim (suc d == 0) as (λ b. (suc d == 0) ≡ b → (b || has_root ds) ≡ true → has_root ds ≡ true) [
      | true ↦ λ is _. let never : suc d ≡ 0 = eqb-true (suc d) 0 is in absurd (omega arith)
      | false ↦ λ _ rest. rest
    ] refl e

module _ (t : Tree) where
  -- one more step adds nothing to a climb that got to the root
  further : (n d : ℕ) → has_root (climb_within n t d) ≡ true → climb_within (suc n) t d ≡ climb_within n t d
  further zero zero e = refl
  further zero (suc d) e = absurd (false≢true (rest_has_root d [] e))
  further (suc n) zero e = refl
  further (suc n) (suc d) e = ap (λ ds. suc d ∷ ds) (further n (above t (suc d)) (rest_has_root d (climb_within n t (above t (suc d))) e))

  -- a climb that gets to the root goes on as the climb from the directory above
  step_within : (n d : ℕ) → has_root (climb_within n t (suc d)) ≡ true →
      (climb_within n t (suc d) ≡ suc d ∷ climb_within n t (above t (suc d))) × (has_root (climb_within n t (above t (suc d))) ≡ true)
  step_within zero d e = absurd (false≢true (rest_has_root d [] e))
  step_within (suc n) d e =
      let same = further n (above t (suc d)) (rest_has_root d (climb_within n t (above t (suc d))) e) in
      (ap (λ ds. suc d ∷ ds) (sym same), ap has_root same ∙ rest_has_root d (climb_within n t (above t (suc d))) e)

  goes_on : (d : ℕ) → has_root (climb t (suc d)) ≡ true →
      (climb t (suc d) ≡ suc d ∷ climb t (above t (suc d))) × (has_root (climb t (above t (suc d))) ≡ true)
  goes_on = step_within (length t.nodes)

  root_within : (n : ℕ) → climb_within n t 0 ≡ 0 ∷ []
  root_within zero = refl
  root_within (suc n) = refl

  pub climb_root : climb t 0 ≡ 0 ∷ []
  climb_root = root_within (length t.nodes)

  length_within : (n d : ℕ) → length (climb_within n t d) ≤ n + 1
  length_within zero d = omega arith
  length_within (suc n) zero = omega arith
  length_within (suc n) (suc d) = omega (arith, length_within n (above t (suc d)))

  -- a climb has at most one directory more than there are nodes
  pub length-climb : (d : ℕ) → length (climb t d) ≤ length t.nodes + 1
  length-climb = length_within (length t.nodes)

  some_within : (n d : ℕ) → 1 ≤ length (climb_within n t d)
  some_within zero d = omega arith
  some_within (suc n) zero = omega arith
  some_within (suc n) (suc d) = omega arith

  -- and at least the directory itself
  pub climb-some : (d : ℕ) → 1 ≤ length (climb t d)
  climb-some = some_within (length t.nodes)

  more_within : (n d : ℕ) → d ≢ 0 → 1 ≤ n → 2 ≤ length (climb_within n t d)
  more_within zero d other some = absurd (omega arith)
  more_within (suc n) zero other some = absurd (other refl)
  more_within (suc n) (suc d) other some = omega (arith, some_within n (above t (suc d)))

  module _ (fits : WellFormed t) where
    -- the root is a node
    some_nodes : 1 ≤ length t.nodes
    some_nodes = by t.nodes fits.root
      where
        by : (nodes : List (ℕ × Node)) → is_dir_kind (option_map (λ node. node.kind) (find_key nat_cmp 0 nodes)) ≡ true → 1 ≤ length nodes
        by [] is = cc
        by (node ∷ nodes) is = omega arith

    -- from elsewhere a climb has one directory more
    pub climb-more : (d : ℕ) → d ≢ 0 → 2 ≤ length (climb t d)
    climb-more d other = more_within (length t.nodes) d other some_nodes

    -- what is above a directory is one
    pub is_dir_above : (d : ℕ) → is_dir t (above t d) ≡ true
    is_dir_above d = above_lives t d fits

    -- from each directory the climb gets to the root
    pub climb_gets_to_root : (d : ℕ) → is_dir t d ≡ true → has_root (climb t d) ≡ true
    climb_gets_to_root zero e = ap has_root climb_root
    climb_gets_to_root (suc d) e = by (node_at t (suc d)) refl e
      where
        of_kind : (node : Node) (kind : Kind) → is_dir_kind (Some kind) ≡ true → rows_fit_kind t (suc d) kind ≡ true →
            has_root (climb t (suc d)) ≡ true
        of_kind node Dir is fit = (and_parts (rows_of t (suc d) == 1) (has_root (climb t (suc d))) fit).1
        of_kind node _ is fit = cc

        by : (o : Option Node) → node_at t (suc d) ≡ o → is_dir_kind (option_map (λ n. n.kind) o) ≡ true → has_root (climb t (suc d)) ≡ true
        by None found is = cc
        by (Some node) found is =
            let all = list_all-find_key nat_cmp nat_cmp-IsAntisymmetric (node_fits t) (suc d) t.nodes node fits.nodes_fit found in
            let two = and_parts (nat_lt (suc d) t.next) _ all in
            let three = and_parts (target_fits node.kind node.target) (rows_fit_kind t (suc d) node.kind) two.1 in
            of_kind node node.kind is three.1

    -- a climb goes on with the climb from the directory above
    pub climb_step : (d : ℕ) → d ≢ 0 → is_dir t d ≡ true → climb t d ≡ d ∷ climb t (above t d)
    climb_step zero other e = absurd (other refl)
    climb_step (suc d) other e = (goes_on d (climb_gets_to_root (suc d) e)).0

    -- so it is longer by one
    pub length-climb_step : (d : ℕ) → d ≢ 0 → is_dir t d ≡ true → length (climb t d) ≡ length (climb t (above t d)) + 1
    length-climb_step d other e = ap length (climb_step d other e) ∙ sym (add-one (length (climb t (above t d))))

    module _ (f : ℕ → Option ℕ) where
      -- what a directory keeps covers it
      pub nearest_here : (d perms : ℕ) → is_dir t d ≡ true → f d ≡ Some perms → nearest (map f (climb t d)) ≡ Only perms
      nearest_here zero perms e here = ap (λ ds. nearest (map f ds)) climb_root ∙ ap (λ o. nearest (o ∷ [])) here
      nearest_here (suc d) perms e here =
          ap (λ ds. nearest (map f ds)) (goes_on d (climb_gets_to_root (suc d) e)).0
          ∙ ap (λ o. nearest (o ∷ map f (climb t (above t (suc d))))) here

      -- and where it keeps nothing, what is nearest above it
      pub nearest_above : (d : ℕ) → d ≢ 0 → is_dir t d ≡ true → f d ≡ None →
          nearest (map f (climb t d)) ≡ nearest (map f (climb t (above t d)))
      nearest_above d other e nothing =
          ap (λ ds. nearest (map f ds)) (climb_step d other e) ∙ ap (λ o. nearest (o ∷ map f (climb t (above t d)))) nothing

      pub nearest_root : f 0 ≡ None → nearest (map f (climb t 0)) ≡ Nothing
      nearest_root nothing = ap (λ ds. nearest (map f ds)) climb_root ∙ ap (λ o. nearest (o ∷ [])) nothing

      -- a directory itself and those over it are its climb
      pub nearest_whole : (d : ℕ) → is_dir t d ≡ true → nearest (f d ∷ map f (climb t (above t d))) ≡ nearest (map f (climb t d))
      nearest_whole zero e = ap (λ ds. nearest (f 0 ∷ map f ds)) climb_root ∙ once (f 0) ∙ ap (λ ds. nearest (map f ds)) (sym climb_root)
        where
          once : (o : Option ℕ) → nearest (o ∷ o ∷ []) ≡ nearest (o ∷ [])
          once None = refl
          once (Some perms) = refl
      nearest_whole (suc d) e = ap (λ ds. nearest (map f ds)) (sym (goes_on d (climb_gets_to_root (suc d) e)).0)
