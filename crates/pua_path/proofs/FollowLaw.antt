-- What a part names where no link was used before tells it for any number of links used before.
use Rattle.pua_path.proofs.Common.{RootedTree, above_in}
use Rattle.pua_path.proofs.Common.{◌≡◌, ℕ, ◌+◌, ◌-◌, ◌≤◌, List, [], ◌∷◌, ◌++◌, Bool, true, false, Option, Some, None, refl, sym, ap, ◌∙◌}
use Rattle.pua_path.proofs.Common.{subst, arith, Result, Ok, Err, Node, node_at, Kind, ◌>>=◌, parts_of, Resolved, Standing}
use Rattle.pua_path.proofs.Common.{Directory, Linked, Plain, Nothing, standing_at, start_of, resolve_parts, step, last, most_links, Errno}
use Rattle.pua_path.proofs.Common.{ELOOP, Part, Followed, Kept, Found, Whole, Slot}
use Rattle.std.proofs.Common.{option_map}
use Rattle.std.proofs.Common.{inl, inr}
use Rattle.std.proofs.lemmas.Bool.{cases_lt}
use Rattle.std.specs.Prelude.{option_and_then}
use Rattle.pua_tree.specs.Tree.{look, kind_at}
use Rattle.pua_tree.specs.Tree as tree
use Rattle.pua_tree.specs.declared.node.Kind.TheVariants as kinds
use Rattle.pua_tree.proofs.ForCallers.{None≢Some, same_Some}
use Rattle.pua_path.specs.Kinds.{is_file}
use Rattle.pua_path.specs.Resolution.{standing_of}
use Rattle.pua_path.specs.Resolution.{found_with_links, follow}
use Rattle.pua_path.specs.Laws.{IsDecidedByLinks, FollowsLinks, dir_entered, IsFollowed, Fails, IsToldBy, FollowDecides, KeptFollowsNone}
use Rattle.pua_path.specs.declared.text.Ending.TheVariants as ending
use Rattle.pua_path.specs.declared.found.Part.TheVariants as parts
use Rattle.pua_path.specs.declared.found.Way.TheVariants as ways
use Rattle.pua_path.proofs.Steps.{resolve_end, resolve_dot, resolve_dotdot, resolve_directory, resolve_name, resolve_kept, resolve_linked}
use Rattle.pua_path.proofs.Arrival.{arrived, step_arrives}
use Rattle.pua_path.proofs.LinksLaw.{links_decide}

false≢true : ◌≡◌ {A = Bool} false true → ⊥
false≢true e = cc

-- what is arrived at with links left is entered with the others used
arrives_entered : (found : Found) (left used : ℕ) → most_links - left ≡ used → arrived (found, left) ≡ dir_entered used found
arrives_entered (Whole dir way) left used e = ap (λ n. Ok (dir, n)) e
arrives_entered (Slot dir name found) left used e = refl

module _ (t : RootedTree) (dir used : ℕ) (part : Part) (low : used ≤ most_links) where
  abbrev answer : ℕ → Resolved
  answer links = resolve_parts links t Followed dir ways.Top (part ∷ [])

  last_by : (r : Resolved) → answer (most_links - used) ≡ r → last t dir used part Followed ≡ (r >>= λ found. Ok found.0)
  last_by r e = ap (λ (r : Resolved). r >>= λ found. Ok found.0) e

  step_by : (r : Resolved) → answer (most_links - used) ≡ r → step t dir used part ≡ (r >>= arrived)
  step_by r e = sym (step_arrives t dir used part r (sym e))

  fails : (errno : Errno) → answer (most_links - used) ≡ Err errno → Fails t dir used part
  fails errno e = record { errno = errno; last_fails = last_by (Err errno) e; step_fails = step_by (Err errno) e }

  follows : (found : Found) (count : ℕ) → count ≤ most_links → FollowsLinks answer count (Ok found) → IsFollowed t dir used part found count
  follows found count within h = record {
    within = within;
    last_within = λ le. last_by (Ok (found, most_links - used - count)) (h.enough (most_links - used) (omega (arith, le)));
    step_within = λ le. step_by (Ok (found, most_links - used - count)) (h.enough (most_links - used) (omega (arith, le))) ∙
        arrives_entered found (most_links - used - count) (used + count) (omega (arith, le));
    last_beyond = λ lt. last_by (Err ELOOP) (h.too_few (most_links - used) (omega (arith, lt, low)));
    step_beyond = λ lt. step_by (Err ELOOP) (h.too_few (most_links - used) (omega (arith, lt, low)));
  }

  told_by : (count : ℕ) (outcome : Result Found Errno) → count ≤ most_links → FollowsLinks answer count outcome →
      IsToldBy t dir used part ((outcome >>= λ found. Ok (found, most_links - count)) >>= found_with_links)
  told_by count (Ok found) within h = let same : count ≡ most_links - (most_links - count) = omega (arith, within) in
      subst (IsFollowed t dir used part found) same (follows found count within h)
  told_by count (Err errno) within h = elim (cases_lt (most_links - used) count) [
    | inl few ↦ fails ELOOP (h.too_few (most_links - used) few)
    | inr enough ↦ fails errno (h.enough (most_links - used) enough)
  ]

  told : IsDecidedByLinks answer most_links → IsToldBy t dir used part (answer most_links >>= found_with_links)
  told (inl loops) = subst (λ r. IsToldBy t dir used part (r >>= found_with_links)) (sym (loops most_links (omega arith)))
      (fails ELOOP (loops (most_links - used) (omega arith)))
  told (inr (count, (outcome, (within, h)))) =
      subst (λ r. IsToldBy t dir used part (r >>= found_with_links)) (sym (h.enough most_links within)) (told_by count outcome within h)

pub follow_decides : FollowDecides
follow_decides t dir used part low = told t dir used part low (links_decide t Followed dir ways.Top (part ∷ []) most_links)

-- what a name is where the last part is kept
kept_at : ℕ → List ℕ → Standing → Found
kept_at dir name (Directory x) = Whole x (ways.Named dir name)
kept_at dir name (Linked x target) = Slot dir name (Some x)
kept_at dir name (Plain x) = Slot dir name (Some x)
kept_at dir name Nothing = Slot dir name None

kept_found : RootedTree → ℕ → Part → Found
kept_found t dir parts.Dot = Whole dir ways.Dot
kept_found t dir parts.DotDot = Whole (above_in t dir) ways.DotDot
kept_found t dir (parts.Name name) = kept_at dir name (standing_at t.tree dir name)

module _ (t : RootedTree) (links dir : ℕ) where
  kept_name : (name : List ℕ) (s : Standing) → s ≡ standing_at t.tree dir name →
      resolve_parts links t Kept dir ways.Top (parts.Name name ∷ []) ≡ Ok (kept_at dir name s, links)
  unfolding kept_at
  kept_name name (Directory x) e = resolve_directory t Kept links dir ways.Top name [] x e ∙
      resolve_end t Kept links x (ways.Named dir name)
  kept_name name (Linked x target) e = resolve_kept t Kept links dir ways.Top name [] x target e refl
  kept_name name (Plain x) e = resolve_name t Kept links dir ways.Top name [] (Plain x) e
  kept_name name Nothing e = resolve_name t Kept links dir ways.Top name [] Nothing e

  kept_free : (part : Part) → resolve_parts links t Kept dir ways.Top (part ∷ []) ≡ Ok (kept_found t dir part, links)
  unfolding kept_found
  kept_free parts.Dot = resolve_dot t Kept links dir ways.Top [] ∙ resolve_end t Kept links dir ways.Dot
  kept_free parts.DotDot = resolve_dotdot t Kept links dir ways.Top [] ∙ resolve_end t Kept links (above_in t dir) ways.DotDot
  kept_free (parts.Name name) = kept_name name (standing_at t.tree dir name) refl

pub kept_follows_none : KeptFollowsNone
kept_follows_none t dir used part =
    let after : (links : ℕ) → (resolve_parts links t Kept dir ways.Top (part ∷ []) >>= λ found. Ok found.0) ≡ Ok (kept_found t dir part) =
    λ links. ap (λ (r : Resolved). r >>= λ found. Ok found.0) (kept_free t links dir part) in
    after (most_links - used) ∙ sym (after (most_links - 0))

-- a name where nothing stands is found as such, by no link
pub missing_follows : (t : RootedTree) (dir : ℕ) (name : List ℕ) → look t.tree dir name ≡ None →
    follow t dir (parts.Name name) ≡ Ok (Slot dir name None, 0)
missing_follows t dir name none =
    ap (λ (r : Resolved). r >>= found_with_links) (resolve_name t Followed most_links dir ways.Top name [] Nothing (by none))
  where
    by : look t.tree dir name ≡ None → Nothing ≡ standing_at t.tree dir name
    by e = rw e refl

-- files stand plainly at their names
stands_plainly : (x : ℕ) (node : Node) (kind : Kind) → node.kind ≡ kind → is_file kind ≡ true → standing_of x (Some node) ≡ Plain x
stands_plainly x node kinds.File same file = rw same refl
stands_plainly x node kinds.Prog same file = rw same refl
stands_plainly x node (kinds.Known type) same file = rw same refl
stands_plainly x node kinds.Dir same file = absurd (false≢true file)
stands_plainly x node kinds.Link same file = absurd (false≢true file)

module _ (t : RootedTree) (dir : ℕ) (name : List ℕ) (x : ℕ) (kind : Kind) (file : is_file kind ≡ true) where
  by_node : (y : ℕ) (node : Option Node) → look t.tree dir name ≡ Some y → node_at t.tree y ≡ node →
      option_map {U = ℕ × Kind} (λ k. (y, k)) (option_map (λ n. n.kind) node) ≡ Some (x, kind) → Plain x ≡ standing_at t.tree dir name
  by_node y None here at e = absurd (None≢Some (x, kind) e)
  by_node y (Some node) here at e =
      let pair : ◌≡◌ {A = ℕ × Kind} (y, node.kind) (x, kind) = same_Some (y, node.kind) (x, kind) e in
      rw here (rw at (sym (stands_plainly y node kind (ap (λ (p : ℕ × Kind). p.1) pair) file ∙ ap Plain (ap (λ (p : ℕ × Kind). p.0) pair))))

  by_row : (row : Option ℕ) → look t.tree dir name ≡ row →
      option_and_then {U = ℕ × Kind} (λ y. option_map {U = ℕ × Kind} (λ k. (y, k)) (kind_at t.tree y)) row ≡ Some (x, kind) →
      Plain x ≡ standing_at t.tree dir name
  by_row None here e = absurd (None≢Some (x, kind) e)
  by_row (Some y) here e = by_node y (node_at t.tree y) here refl e

  -- a file is found at its name, by no link
  pub file_follows : tree.found_at t.tree dir name ≡ Some (x, kind) → follow t dir (parts.Name name) ≡ Ok (Slot dir name (Some x), 0)
  file_follows e = ap (λ (r : Resolved). r >>= found_with_links) (resolve_name t Followed most_links dir ways.Top name [] (Plain x)
      (by_row (look t.tree dir name) refl e))

-- the kind of what is found at a name
pub found_kind : (t : RootedTree) (dir : ℕ) (name : List ℕ) (x : ℕ) (kind : Kind) → tree.found_at t.tree dir name ≡ Some (x, kind) →
    kind_at t.tree x ≡ Some kind
found_kind t dir name x kind e = by_row (look t.tree dir name) e
  where
    by_kind : (y : ℕ) (k : Option Kind) → kind_at t.tree y ≡ k → option_map {U = ℕ × Kind} (λ k. (y, k)) k ≡ Some (x, kind) →
        kind_at t.tree x ≡ Some kind
    by_kind y None at e = absurd (None≢Some (x, kind) e)
    by_kind y (Some k) at e =
        let pair : ◌≡◌ {A = ℕ × Kind} (y, k) (x, kind) = same_Some (y, k) (x, kind) e in
        ap (kind_at t.tree) (sym (ap (λ (p : ℕ × Kind). p.0) pair)) ∙ at ∙ ap Some (ap (λ (p : ℕ × Kind). p.1) pair)

    by_row : (row : Option ℕ) → option_and_then {U = ℕ × Kind} (λ y. option_map {U = ℕ × Kind} (λ k. (y, k)) (kind_at t.tree y)) row ≡ Some (
      x,
      kind,
    ) → kind_at t.tree x ≡ Some kind
    by_row None e = absurd (None≢Some (x, kind) e)
    by_row (Some y) e = by_kind y (kind_at t.tree y) refl e

-- a link that is followed counts
abbrev count_of : Result (Found × ℕ) Errno → ℕ
count_of (Ok found) = found.1
count_of (Err errno) = 1

module _ (t : RootedTree) (from : ℕ) (ps : List Part) where
  counts_some : (outcome : Result Found Errno) (count : ℕ) → count_of ((outcome >>= λ found. Ok (found, 31 - count)) >>= found_with_links)
      ≡ 0 → ⊥
  counts_some (Ok found) count e = omega (arith, e)
  counts_some (Err errno) count e = omega (arith, e)

  link_counts : count_of (resolve_parts 31 t Followed from ways.Top ps >>= found_with_links) ≡ 0 → ⊥
  link_counts = by (links_decide t Followed from ways.Top ps 31)
    where
      by : IsDecidedByLinks (λ links. resolve_parts links t Followed from ways.Top ps) 31 →
          count_of (resolve_parts 31 t Followed from ways.Top ps >>= found_with_links) ≡ 0 → ⊥
      by (inl loops) e = let no : 1 ≡ 0 = sym (ap (λ (r : Resolved). count_of (r >>= found_with_links)) (loops 31 (omega arith))) ∙ e in
          omega (arith, no)
      by (inr (count, (outcome, (within, h)))) e =
          counts_some outcome count (sym (ap (λ (r : Resolved). count_of (r >>= found_with_links)) (h.enough 31 within)) ∙ e)

abbrev without_count : Result (Found × ℕ) Errno → Result Found Errno
without_count (Ok found) = Ok found.0
without_count (Err errno) = Err errno

-- what is found without a link is what is found where the last part is kept
module _ (t : RootedTree) (dir : ℕ) where
  found_at : (name : List ℕ) (found : Found) (s : Standing) → s ≡ standing_at t.tree dir name → follow t dir (parts.Name name) ≡ Ok (found, 0) →
      ◌≡◌ {A = Result Found Errno} (Ok found) (Ok (kept_at dir name s))
  unfolding kept_at
  found_at name found (Directory x) same e =
      ap without_count (sym e ∙
      ap (λ (r : Resolved). r >>= found_with_links) (resolve_directory t Followed most_links dir ways.Top name [] x same ∙
      resolve_end t Followed most_links x (ways.Named dir name)))
  found_at name found (Linked x target) same e =
      absurd (link_counts t (start_of t.root target dir) (parts_of ending.Dot target ++ [])
      (ap count_of (sym (ap (λ (r : Resolved). r >>= found_with_links) (resolve_linked t Followed most_links dir ways.Top name [] x
      target same refl)) ∙ e)))
  found_at name found (Plain x) same e =
      ap without_count (sym e ∙
      ap (λ (r : Resolved). r >>= found_with_links) (resolve_name t Followed most_links dir ways.Top name [] (Plain x) same))
  found_at name found Nothing same e =
      ap without_count (sym e ∙
      ap (λ (r : Resolved). r >>= found_with_links) (resolve_name t Followed most_links dir ways.Top name [] Nothing same))

  found_kept : (part : Part) (found : Found) → follow t dir part ≡ Ok (found, 0) →
      ◌≡◌ {A = Result Found Errno} (Ok found) (Ok (kept_found t dir part))
  unfolding kept_found
  found_kept parts.Dot found e =
      ap without_count (sym e ∙ ap (λ (r : Resolved). r >>= found_with_links) (resolve_dot t Followed most_links dir ways.Top [] ∙
      resolve_end t Followed most_links dir ways.Dot))
  found_kept parts.DotDot found e =
      ap without_count (sym e ∙ ap (λ (r : Resolved). r >>= found_with_links) (resolve_dotdot t Followed most_links dir ways.Top [] ∙
      resolve_end t Followed most_links (above_in t dir) ways.DotDot))
  found_kept (parts.Name name) found e = found_at name found (standing_at t.tree dir name) refl e

pub unlinked_alike : (t : RootedTree) (dir : ℕ) (part : Part) (found : Found) → follow t dir part ≡ Ok (found, 0) →
    last t dir 0 part Kept ≡ Ok found
unlinked_alike t dir part found e = ap (λ (r : Resolved). r >>= λ found. Ok found.0) (kept_free t most_links dir part) ∙
    sym (found_kept t dir part found e)
