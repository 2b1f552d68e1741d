use Rattle.pua_audit.proofs.Common.{◌≡◌, ◌≤◌, ◌+◌, ◌∙◌, ℕ, length, refl, sym, ap, subst, arith, IfOk, Result, Tree, Errno, Found, part_cost}
use Rattle.pua_audit.proofs.Common.{FoundsFit, StandsAsNamed, follow, last, Kept, verdict_of, is_allowed, object_cost, seen_by, rooted}
use Rattle.pua_audit.proofs.Common.{true, is_dir, RootedTree}
use Rattle.std.specs.Prelude.{is_ok}
use Rattle.pua_audit.proofs.Covers.{kept_above}
use Rattle.pua_audit.proofs.Told.{kept_unlinked}
use Rattle.pua_audit.proofs.terms.Terms.calls_kept.Goals as goal

-- no link was followed
pub returns-then-is_ok-clause-exact : goal.returns-then-is_ok-clause-exact
returns-then-is_ok-clause-exact g c = λ covered followed links near call.
    let a = c.args.self.now in
    let t : Tree = a.seen.tree in
    let seen : RootedTree = seen_by t a.process in
    let alike = kept_unlinked seen c.args.dir c.args.part.now (follow seen c.args.dir c.args.part.now) refl (sym links ∙
    c.if-links-eq0.true) (ap is_ok (sym followed) ∙ sym c.is_ok.ensures.value ∙ c.if-is_ok.true) in
    near call ∙
    ap (λ (x : Result Found Errno). is_allowed (verdict_of t a.table a.process call x)) (followed ∙
    sym alike)

pub last-kept-requires : goal.last-kept-requires
last-kept-requires g c κs =
    let t : Tree = c.args.self.now.seen.tree in
    let living : is_dir t c.args.dir ≡ true = c.requires.living in (
      (refl, tt),
      ((λ i. is_dir (c.requires.tree i) (c.start_in.ensures.dir i)) ∙ living, omega arith),
    )

pub cover_of-cover-requires : goal.cover_of-cover-requires
cover_of-cover-requires g c κs =
    let root = (λ i. is_dir (c.requires.tree i) c.start_in.result.root) ∙ c.start_in.ensures.lives in (
      (refl, tt),
      (
        c.last-kept.ensures.tree ∙ c.requires.tree,
        subst (λ (u : Tree). FoundsFit u c.last-kept.result) c.requires.tree (c.last-kept.ensures.fits root),
      ),
    )

pub returns-clause-exact : goal.returns-clause-exact
returns-clause-exact g c = λ covered followed links near call.
    let a = c.args.self.now in
    let t : Tree = a.seen.tree in
    let kept : Result Found Errno = c.last-kept.result in
    let root = (λ i. is_dir (c.requires.tree i) c.start_in.result.root) ∙ c.start_in.ensures.lives in
    let named : IfOk kept (StandsAsNamed t) = subst (λ (u : Tree). IfOk kept (StandsAsNamed u)) c.requires.tree (c.last-kept.ensures.named root) in
    let is : kept ≡ last (seen_by t a.process) c.args.dir 0 c.args.part.now Kept =
    c.last-kept.ensures.exact
    ∙ (λ i. last (rooted (c.requires.tree i) (c.start_in.ensures.root i)) (c.start_in.ensures.dir i) 0 c.args.part.now Kept) in
    let left = c.cover_of-cover.ensures.exact named covered c.requires.living
    (kept_above (seen_by t a.process) c.args.dir c.args.part.now kept is) in
    let fit : FoundsFit t kept = subst (λ (u : Tree). FoundsFit u kept) c.requires.tree (c.last-kept.ensures.fits root) in
    c.calls_on.ensures.exact fit left call
    ∙ ap (λ (x : Result Found Errno). is_allowed (verdict_of t a.table a.process call x)) is

-- the looks at the tree

not_more : (n m : ℕ) → n ≤ n + m
not_more n m = omega arith

added_up : (old found kept made part nodes : ℕ) → found ≤ old + part → kept ≤ found + nodes → made ≤ kept + 1
    → made ≤ old + (part + (nodes + 1))
added_up old found kept made part nodes at_last at_cover at_calls = omega arith

looks : (old found kept made : ℕ) (t seen : Tree) → t ≡ seen → found ≤ old + part_cost t → kept ≤ found + length seen.nodes
    → made ≤ kept + 1
    → made ≤ old + (part_cost seen + object_cost seen)
looks old found kept made t seen same at_last at_cover at_calls =
    added_up old found kept made (part_cost seen) (length seen.nodes)
    (subst (λ (u : Tree). found ≤ old + part_cost u) same at_last) at_cover at_calls

pub returns-then-is_ok-clause-cost : goal.returns-then-is_ok-clause-cost
returns-then-is_ok-clause-cost g c =
    let t : Tree = c.args.self.now.seen.tree in
    not_more (g.P.Probe.count c.args.probe.now) (part_cost t + object_cost t)

pub returns-clause-cost : goal.returns-clause-cost
returns-clause-cost g c =
    looks _ _ _ _ (g.P.Probe.tree c.args.probe.now) c.args.self.now.seen.tree c.requires.tree c.last-kept.ensures.cost
    c.cover_of-cover.ensures.cost c.calls_on.ensures.cost
