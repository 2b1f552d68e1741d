-- A reach asks a tree for its rows and nodes alone.
use Rattle.pua_audit.proofs.Common.{◌≡◌, ℕ, zero, suc, List, [], ◌∷◌, ◌++◌, map, length, Bool, not, ◌&&◌, cond, refl, ap, ◌∙◌, Result, Ok}
use Rattle.pua_audit.proofs.Common.{Err, filter, ◌>>=◌, Tree, above, Errno, Ending, Part, Last, Found, Whole}
use Rattle.pua_audit.proofs.Common.{Slot, CallTable, rule_of, last_of, ProcessState, perms_kept, may_any, IsMissing, cover, verdict_of}
use Rattle.pua_audit.proofs.Common.{is_allowed, Call, Scope, is_reached, pairs, reach, path_of, RootedTree, rooted}
use Rattle.std.specs.Prelude.{Option, Some, None, ◌==◌, if◌then◌else◌, unwrap_or}
use Rattle.pua_tree.specs.Tree.{is_dir, look, climb_within}
use Rattle.pua_path.specs.Paths.{parts_of, path_fault}
use Rattle.pua_path.specs.Resolution.{Resolved, Standing, Directory, Linked, Plain, Nothing, standing_at, is_followed, slot_or, walk}
use Rattle.pua_path.specs.Resolution.{start_of, resolve_parts, resolution, resolution_of_text, most_links, above_in, seen_from, starts}
use Rattle.pua_path.specs.declared.errno.Errno.TheVariants.{ENOENT, ENOTDIR, ELOOP}
use Rattle.pua_path.specs.declared.text.Ending.TheVariants as ending
use Rattle.pua_path.specs.declared.found.Part.TheVariants as parts
use Rattle.pua_path.specs.declared.found.Start.{Start as PathStart}
use Rattle.pua_path.specs.declared.found.Way.{Way}
use Rattle.pua_path.specs.declared.found.Way.TheVariants as way
use Rattle.pua_calls.specs.Calls.{ending_of}
use Rattle.pua_calls.specs.declared.rules.Rules.{Rules}
use Rattle.pua_policy.specs.States.{has_veil}
use Rattle.pua_policy.specs.Verdict.{Object, IsDir, Is, object_fault, object_of, cover_fault, verdict_on, object_named}
use Rattle.pua_policy.specs.Verdict.{or_fault, nearest, place_of, directories_over, allowed_unless, if_promised}
use Rattle.pua_policy.specs.declared.answer.Cover.TheVariants.{All}
use Rattle.pua_policy.specs.declared.place.Place.TheVariants.{Dir}
use Rattle.pua_audit.specs.Renumbering.{ReachNeedsRows}

module _ (t : Tree) (n room : ℕ) where
  -- the tree with another next number, and other room
  abbrev v : Tree
  v = record t { next = n; room = room }

  same_above : (d : ℕ) → above v d ≡ above t d
  same_above zero = refl
  same_above (suc d) = refl

  same_climb : (k d : ℕ) → climb_within k v d ≡ climb_within k t d
  same_climb zero d = refl
  same_climb (suc k) zero = refl
  same_climb (suc k) (suc d) = ap (λ ds. suc d ∷ ds) (same_climb k (above t (suc d)))

  same_standing : (dir : ℕ) (name : List ℕ) → standing_at v dir name ≡ standing_at t dir name
  same_standing dir name = by (look t dir name) refl
    where
      by : (o : Option ℕ) → look t dir name ≡ o → standing_at v dir name ≡ standing_at t dir name
      by None e = rw e refl
      by (Some x) e = rw e refl

  same_above_in : (root d : ℕ) → above_in (rooted v root) d ≡ above_in (rooted t root) d
  same_above_in root d =
      ap (λ up. if not (root == 0) && (d == root) then root else unwrap_or (if is_dir t d then Some up else None) 0) (same_above d)

  -- what a name leads to, in a walk
  abbrev met : RootedTree → Last → ℕ → (ℕ → List ℕ → List Part → Resolved) → ℕ → List ℕ → List Part → Standing → Resolved
  met u mode links follow dir name ps s = elim s [
    | Directory x ↦ walk u mode links follow x (way.Named dir name) ps
    | Linked x target ↦ cond (is_followed mode ps) (follow dir target ps) (Ok (Slot dir name (Some x), links))
    | Plain x ↦ slot_or ps (Slot dir name (Some x)) ENOTDIR links
    | Nothing ↦ slot_or ps (Slot dir name None) ENOENT links
  ]

  module _ (root : ℕ) (mode : Last) (links : ℕ) (f g : ℕ → List ℕ → List Part → Resolved)
      (alike : (from : ℕ) (target : List ℕ) (rest : List Part) → f from target rest ≡ g from target rest) where
    same_met : (ps : List Part) (dir : ℕ) (name : List ℕ) →
        ((x : ℕ) → walk (rooted v root) mode links f x (way.Named dir name) ps
        ≡ walk (rooted t root) mode links g x (way.Named dir name) ps) →
        (s : Standing) → met (rooted v root) mode links f dir name ps s ≡ met (rooted t root) mode links g dir name ps s
    same_met ps dir name further (Directory x) = further x
    same_met ps dir name further (Linked x target) =
        ap (λ r. cond (is_followed mode ps) r (Ok (Slot dir name (Some x), links))) (alike dir target ps)
    same_met ps dir name further (Plain x) = refl
    same_met ps dir name further Nothing = refl

    same_walk : (ps : List Part) (dir : ℕ) (by : Way) →
        walk (rooted v root) mode links f dir by ps ≡ walk (rooted t root) mode links g dir by ps
    same_walk [] dir by = refl
    same_walk (parts.Dot ∷ ps) dir by = same_walk ps dir way.Dot
    same_walk (parts.DotDot ∷ ps) dir by = ap (λ d. walk (rooted v root) mode links f d way.DotDot ps) (same_above_in root dir) ∙
        same_walk ps (above_in (rooted t root) dir) way.DotDot
    same_walk (parts.Name name ∷ ps) dir by =
        ap (met (rooted v root) mode links f dir name ps) (same_standing dir name)
        ∙ same_met ps dir name (λ x. same_walk ps x (way.Named dir name)) (standing_at t dir name)

  same_resolve : (root links : ℕ) (mode : Last) (dir : ℕ) (by : Way) (ps : List Part) →
      resolve_parts links (rooted v root) mode dir by ps ≡ resolve_parts links (rooted t root) mode dir by ps
  same_resolve root zero mode dir by ps =
      same_walk root mode 0 (λ from target rest. Err ELOOP) (λ from target rest. Err ELOOP) (λ from target rest. refl) ps dir by
  same_resolve root (suc links) mode dir by ps =
      same_walk root mode (suc links) _ _
      (λ from target rest. same_resolve root links mode (start_of root target from) way.Top (parts_of ending.Dot target ++ rest)) ps dir by

  same_resolution : (from : PathStart) (end : Ending) (text : List ℕ) (mode : Last) →
      resolution v from end text mode ≡ resolution t from end text mode
  same_resolution from end text mode =
      ap (λ r. cond {A = Result Found Errno} (not (starts t from text)) (Err ENOENT) (r >>= λ found. Ok found.0))
      (same_resolve (seen_from t from).root most_links mode (start_of from.root text from.dir) way.Top (parts_of end text))

  same_named : (from : PathStart) (end : Ending) (text : List ℕ) (mode : Last) →
      resolution_of_text v from end text mode ≡ resolution_of_text t from end text mode
  same_named from end text mode = by (path_fault text) refl
    where
      by : (o : Option Errno) → path_fault text ≡ o → resolution_of_text v from end text mode ≡ resolution_of_text t from end text mode
      by None e = rw e (same_resolution from end text mode)
      by (Some errno) e = rw e refl

  same_over : (x : Found) → directories_over v x ≡ directories_over t x
  same_over (Whole dir w) = ap (climb_within (length t.nodes) v) (same_above dir) ∙ same_climb (length t.nodes) (above t dir)
  same_over (Slot dir name y) = same_climb (length t.nodes) dir

  same_cover : (h : ProcessState) (x : Found) → cover v h x ≡ cover t h x
  same_cover h x = ap (λ dirs. cond (has_veil h.veils) (nearest (perms_kept h (place_of x) ∷ map (λ dir. perms_kept h (Dir dir)) dirs))
      All) (same_over x)

  same_object : (x : Found) → object_of v x ≡ object_of t x
  same_object (Whole dir w) = refl
  same_object (Slot dir name None) = refl
  same_object (Slot dir name (Some y)) = refl

  same_fault : (whose : Rules) (c : Call) (o : Object) → object_fault whose v c o ≡ object_fault whose t c o
  same_fault whose c (IsDir dir way.Dot) = refl
  same_fault whose c (IsDir dir way.DotDot) = refl
  same_fault whose c (IsDir dir way.Top) = refl
  same_fault whose c (IsDir dir (way.Named parent name)) = refl
  same_fault whose c (Is kind) = refl
  same_fault whose c IsMissing = refl

  same_verdict : (table : CallTable) (h : ProcessState) (c : Call) (r : Result Found Errno) → verdict_of v table h c r ≡ verdict_of t table h c r
  same_verdict table h c (Ok x) =
      λ i. if_promised (may_any h (rule_of table c).alternatives)
      (allowed_unless (or_fault (cover_fault (same_cover h x i) (rule_of table c).perms) ((ap (object_fault table.whose v c) (same_object x) ∙
      same_fault table.whose c (object_of t x)) i)))
  same_verdict table h c (Err errno) = refl

  pub same_on : (table : CallTable) (h : ProcessState) (c : Call) (text : List ℕ) → verdict_on v table h c text ≡ verdict_on t table h c text
  same_on table h c text =
      ap (verdict_of v table h c) (same_named h.start (ending_of c) text (last_of c)) ∙
      same_verdict table h c (object_named t h c text)

module _ {A : Type 0} (p q : A → Bool) (alike : (x : A) → p x ≡ q x) where
  same_filter : (xs : List A) → filter p xs ≡ filter q xs
  same_filter [] = refl
  same_filter (x ∷ xs) = λ i. cond (alike x i) (x ∷ same_filter xs i) (same_filter xs i)

renumbered : (s : Scope) (n room : ℕ) → reach (record s { tree = record s.tree { next = n; room = room } }) ≡ reach s
renumbered s n room =
    same_filter (is_reached (record s { tree = record s.tree { next = n; room = room } })) (is_reached s)
    (λ pair. ap is_allowed (same_on s.tree n room s.table s.process pair.1 (path_of s.base pair.0))) (pairs s.alphabet s.limit)

pub reach_needs_rows : ReachNeedsRows
reach_needs_rows s u rows nodes =
    ap (λ (t : Tree). reach (record s { tree = t })) (λ i. record { rows = rows i; nodes = nodes i; next = u.next; room = u.room }) ∙
    renumbered s u.next u.room
