-- Names at which no veil is kept, and where nothing, a file or a link stands.
use Rattle.pua_audit.proofs.Common.{ℕ, ◌+◌, ◌≤◌, ◌≡◌, List, Option, Some, None, Bool, true, cond, nat_le, ap, arith}
use Rattle.pua_audit.proofs.Common.{sym, subst, ◌∙◌, IsTrue, le-leb, Tree, WellFormed, is_dir, most_links, part_of, follow, Found, Slot}
use Rattle.pua_audit.proofs.Common.{Last, Followed, Kept, Top, CallTable, last_of, has, ProcessState, perms_kept, IsMissing, cover}
use Rattle.pua_audit.proofs.Common.{verdict_of, is_allowed, Call, allowed_within, allowed_kept, allowed_near, allowed_far, judge_of}
use Rattle.pua_audit.proofs.Common.{IsLetter, IsNamed, Base, seen_by, RootedTree, last, [], option_map, refl, same_Some, ◌>>=◌}
use Rattle.std.proofs.Common.{Ok}
use Rattle.std.specs.Prelude.{option_and_then, unwrap_or}
use Rattle.pua_tree.proofs.ForCallers.{None≢Some}
use Rattle.pua_tree.specs.Tree.{Node, node_at, kind_at, found_at, look}
use Rattle.pua_tree.specs.declared.node.Kind.{Kind}
use Rattle.pua_tree.specs.declared.node.Kind.TheVariants as kinds
use Rattle.pua_path.specs.Kinds.{is_file}
use Rattle.pua_path.specs.Resolution.{Resolved, Linked, standing_at, standing_of}
use Rattle.pua_path.specs.declared.found.Part.TheVariants as parts
use Rattle.pua_path.proofs.Steps.{resolve_kept}
use Rattle.pua_path.proofs.ForCallers.{missing_follows, file_follows, found_kind, unlinked_alike}
use Rattle.pua_policy.proofs.ForCallers.{unveiled_within}
use Rattle.pua_policy.specs.declared.place.Place.TheVariants as place
use Rattle.pua_policy.specs.Verdict.{covered_verdict, object_of_kind, verdict}
use Rattle.pua_audit.specs.Entries.{IsEntryAt}
use Rattle.pua_audit.proofs.Fresh.{entries_stand}

alike : (mode : Last) (followed kept both : Bool) → followed ≡ both → kept ≡ both → elim mode [ Followed ↦ followed | Kept ↦ kept ] ≡ both
alike Followed followed kept both e f = e
alike Kept followed kept both e f = f

-- a link is found at its name where it is kept
module _ (t : RootedTree) (dir : ℕ) (name : List ℕ) (x : ℕ) where
  by_standing : (target : List ℕ) → Linked x target ≡ standing_at t.tree dir name →
      last t dir 0 (parts.Name name) Kept ≡ Ok (Slot dir name (Some x))
  by_standing target e = ap (λ (r : Resolved). r >>= λ found. Ok found.0) (resolve_kept t Kept most_links dir Top name [] x target e refl)

  stands_linked : (y : ℕ) (node : Node) → node.kind ≡ kinds.Link → standing_of y (Some node) ≡ Linked y (unwrap_or node.target [])
  stands_linked y node same = rw same refl

  by_node : (y : ℕ) (node : Option Node) → look t.tree dir name ≡ Some y → node_at t.tree y ≡ node →
      option_map {U = ℕ × Kind} (λ k. (y, k)) (option_map (λ n. n.kind) node) ≡ Some (x, kinds.Link) →
      last t dir 0 (parts.Name name) Kept ≡ Ok (Slot dir name (Some x))
  by_node y None here at e = absurd (None≢Some (x, kinds.Link) e)
  by_node y (Some node) here at e =
      let pair : ◌≡◌ {A = ℕ × Kind} (y, node.kind) (x, kinds.Link) = same_Some (y, node.kind) (x, kinds.Link) e in
      by_standing (unwrap_or node.target []) (rw here (rw at (sym (stands_linked y node (ap (λ (p : ℕ × Kind). p.1) pair) ∙
      ap (λ (z : ℕ). Linked z (unwrap_or node.target [])) (ap (λ (p : ℕ × Kind). p.0) pair)))))

  by_row : (row : Option ℕ) → look t.tree dir name ≡ row →
      option_and_then {U = ℕ × Kind} (λ y. option_map {U = ℕ × Kind} (λ k. (y, k)) (kind_at t.tree y)) row ≡ Some (x, kinds.Link) →
      last t dir 0 (parts.Name name) Kept ≡ Ok (Slot dir name (Some x))
  by_row None here e = absurd (None≢Some (x, kinds.Link) e)
  by_row (Some y) here e = by_node y (node_at t.tree y) here refl e

  pub link_kept : found_at t.tree dir name ≡ Some (x, kinds.Link) → last t dir 0 (parts.Name name) Kept ≡ Ok (Slot dir name (Some x))
  link_kept e = by_row (look t.tree dir name) refl e

-- a name where nothing stands in a directory, and at which no veil is kept
pub record IsBare (t : Tree) (h : ProcessState) (dir : ℕ) (letter : List ℕ) : Type 0 where
  pub name : IsNamed letter
  pub none : look t dir letter ≡ None
  pub unveiled : perms_kept h (place.Slot dir letter) ≡ None

-- a name at which no directory stands is found without a link: one set of calls tells it
module _ (t : Tree) (table : CallTable) (base : Base) (h : ProcessState) (dir : ℕ) (letter : List ℕ) (node : Option ℕ) (calls kept : ℕ)
    (followed : follow (seen_by t h) dir (part_of letter) ≡ Ok (Slot dir letter node, 0)) (on_slot : (call : Call) →
    is_allowed (verdict t table h call (Slot dir letter node)) ≡ has calls call) where
  abbrev slot : Found
  slot = Slot dir letter node

  on_kept : (call : Call) → allowed_kept t table h dir letter call ≡ has calls call
  on_kept call =
      ap (λ r. is_allowed (verdict_of t table h call r)) (unlinked_alike (seen_by t h) dir (part_of letter) slot followed) ∙ on_slot call

  near : (call : Call) → allowed_near t table h dir letter (Ok (slot, 0)) call ≡ has calls call
  near call = alike (last_of call) (is_allowed (verdict t table h call slot)) (allowed_kept t table h dir letter call) (has calls call)
      (on_slot call) (on_kept call)

  entry : (used : ℕ) → used ≤ most_links → IsEntryAt t table base h dir letter (Ok (slot, 0)) used
  entry used low = subst (λ r. IsEntryAt t table base h dir letter r used) followed (entries_stand t table base h dir letter used low)

  slot_told : IsLetter (judge_of t table base h) dir letter calls kept 0 None
  slot_told = record {
    own = λ used call low.
        let within : nat_le (used + 0) most_links ≡ true = le-leb (used + 0) most_links (omega (arith, low)) in
        (entry used low).own call ∙
        ap (λ b. cond b (allowed_near t table h dir letter (Ok (slot, 0)) call) (allowed_far t table h dir letter call)) within
        ∙ near call ∙ ap (λ b. has (cond b calls kept) call) (sym within);
    step = λ used low. (entry used low).step;
  }

module _ (t : Tree) (table : CallTable) (base : Base) (h : ProcessState) (dir : ℕ) (letter : List ℕ) (fits : WellFormed t)
    (living : IsTrue (is_dir t dir)) where
  -- one set of calls tells all names where nothing stands
  pub bare_told : (missing : ℕ) → ((call : Call) → has missing call ≡ allowed_within t table h dir IsMissing call) → IsBare t h dir letter →
      IsLetter (judge_of t table base h) dir letter missing missing 0 None
  bare_told missing told is =
      slot_told t table base h dir letter None missing missing
      (ap (follow (seen_by t h) dir) is.name ∙ missing_follows (seen_by t h) dir letter is.none)
      (λ call. ap (λ left. is_allowed (covered_verdict t table h call left IsMissing)) (unveiled_within t h dir letter None Top fits living
      is.unveiled) ∙ sym (told call))

  -- one tells all files of a kind
  pub file_told : (x calls kept : ℕ) (kind : Kind) → is_file kind ≡ true →
      ((call : Call) → has calls call ≡ allowed_within t table h dir (object_of_kind (Some kind)) call)
      → IsNamed letter → found_at t dir letter ≡ Some (x, kind) → perms_kept h (place.Slot dir letter) ≡ None →
      IsLetter (judge_of t table base h) dir letter calls kept 0 None
  file_told x calls kept kind file told name found unveiled =
      slot_told t table base h dir letter (Some x) calls kept
      (ap (follow (seen_by t h) dir) name ∙ file_follows (seen_by t h) dir letter x kind file found)
      (λ call.
      ap (λ k. is_allowed (covered_verdict t table h call (cover t h (Slot dir letter (Some x))) (object_of_kind k)))
      (found_kind (seen_by t h) dir letter x kind found)
      ∙ ap (λ left. is_allowed (covered_verdict t table h call left (object_of_kind (Some kind))))
      (unveiled_within t h dir letter (Some x) Top fits living unveiled) ∙ sym (told call))

  -- one tells all links, where they are kept
  pub link_told : (x calls : ℕ) → ((call : Call) → has calls call ≡ allowed_within t table h dir (object_of_kind (Some kinds.Link)) call)
      → IsNamed letter → found_at t dir letter ≡ Some (x, kinds.Link) → perms_kept h (place.Slot dir letter) ≡ None →
      (call : Call) → has calls call ≡ allowed_kept t table h dir letter call
  link_told x calls told name found unveiled call =
      told call ∙ sym (ap (λ p. is_allowed (verdict_of t table h call (last (seen_by t h) dir 0 p Kept))) name
      ∙ ap (λ r. is_allowed (verdict_of t table h call r)) (link_kept (seen_by t h) dir letter x found)
      ∙ ap (λ k. is_allowed (covered_verdict t table h call (cover t h (Slot dir letter (Some x))) (object_of_kind k)))
      (found_kind (seen_by t h) dir letter x kinds.Link found)
      ∙ ap (λ left. is_allowed (covered_verdict t table h call left (object_of_kind (Some kinds.Link))))
      (unveiled_within t h dir letter (Some x) Top fits living unveiled))
