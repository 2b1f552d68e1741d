use Rattle.pua_audit.proofs.Common.{◌≡◌, ◌∙◌, ℕ, List, Bool, not, ◌&&◌, ◌||◌, Option, refl, sym, ap, subst, arith, IfOk, IfSome}
use Rattle.pua_audit.proofs.Common.{Result, Tree, part_cost, FoundsFit, StandsAsNamed, part_of, follow, last, Errno, Found, Followed, Kept}
use Rattle.pua_audit.proofs.Common.{Part, last_of, has, keeps_link, cover_in, ProcessState, verdict_of, is_allowed, Call}
use Rattle.pua_audit.proofs.Common.{is_dir, judge_in, links_of, found_of, leads_to, allowed_kept, allowed_near, allowed_far, IsLetter}
use Rattle.pua_audit.proofs.Common.{seen_by, rooted, ◌+◌, ◌≤◌, object_cost}
use Rattle.pua_path.specs.Fits.{FoundFits}
use Rattle.pua_audit.proofs.Covers.{covered_lead, founds_are, founds_of, named_above}
use Rattle.pua_audit.proofs.Told.{letter_told, by_both, by_kept}
use Rattle.pua_audit.proofs.terms.Terms.followed.Goals as goal
use Rattle.pua_audit.proofs.terms.Terms.followed.Goals.{in-Some, in-None}

pub cover_of-cover-requires : goal.cover_of-cover-requires
cover_of-cover-requires g c κs =
    let t : Tree = c.args.self.now.seen.tree in
    let root = (λ i. is_dir (c.requires.tree i) c.start_in.result.root) ∙ c.start_in.ensures.lives in
    let here = (λ i. is_dir (c.requires.tree i) (c.start_in.ensures.dir i)) ∙ c.requires.living in
    let r : Result (Found × ℕ) Errno = c.follow.result in (
      (refl, tt),
      (
        c.follow.ensures.tree ∙ c.requires.tree,
        subst (FoundsFit t) (sym c.counted-followed.ensures.found)
            (founds_of t r (subst (λ (u : Tree). IfOk r (λ object. FoundFits u object.0)) c.requires.tree (c.follow.ensures.fits root here))),
      ),
    )

pub calls_kept-far-requires : goal.calls_kept-far-requires
calls_kept-far-requires g c κs = (
  (refl, tt),
  (
    c.calls_on-near.ensures.tree ∙ c.cover_of-cover.ensures.tree ∙ c.follow.ensures.tree ∙ c.requires.tree,
    c.requires.living,
  ),
)

pub returns-clause-exact : goal.returns-clause-exact
returns-clause-exact g c = λ covered known.
    let a = c.args.self.now in
    let t : Tree = a.seen.tree in
    let h : ProcessState = a.process in
    let dir : ℕ = c.args.dir in
    let root = (λ i. is_dir (c.requires.tree i) c.start_in.result.root) ∙ c.start_in.ensures.lives in
    let here = (λ i. is_dir (c.requires.tree i) (c.start_in.ensures.dir i)) ∙ c.requires.living in
    let letter : List ℕ = c.args.letter.now in
    let r : Result (Found × ℕ) Errno = follow (seen_by t h) dir (part_of letter) in
    let part : c.part-part.result ≡ part_of letter = c.part-part.ensures.part in
    let followed : c.follow.result ≡ r = c.follow.ensures.exact
    ∙ (λ i. follow (rooted (c.requires.tree i) (c.start_in.ensures.root i)) (c.start_in.ensures.dir i) c.part-part.result)
    ∙ ap (follow (seen_by t h) dir) part in
    let found : c.counted-followed.result.0 ≡ found_of r = c.counted-followed.ensures.found ∙ ap found_of followed in
    let links : c.counted-followed.result.1 ≡ links_of r = c.counted-followed.ensures.links ∙ ap links_of followed in
    let followed_here : c.follow.result ≡ follow (seen_by t h) dir c.part-part.result = c.follow.ensures.exact
    ∙ (λ i. follow (rooted (c.requires.tree i) (c.start_in.ensures.root i)) (c.start_in.ensures.dir i) c.part-part.result) in
    let found_here : c.counted-followed.result.0 ≡ found_of (follow (seen_by t h) dir c.part-part.result) =
    c.counted-followed.ensures.found ∙ ap found_of followed_here in
    let named : IfOk c.counted-followed.result.0 (StandsAsNamed t) =
    subst (λ (f : Result Found Errno). IfOk f (StandsAsNamed t)) (sym c.counted-followed.ensures.found)
    (founds_are (StandsAsNamed t) c.follow.result (subst (λ (u : Tree). IfOk c.follow.result (λ object. StandsAsNamed u object.0))
    c.requires.tree (c.follow.ensures.named root here))) in
    let fit : FoundsFit t c.counted-followed.result.0 =
    subst (FoundsFit t) (sym c.counted-followed.ensures.found)
    (founds_of t c.follow.result (subst (λ (u : Tree). IfOk c.follow.result (λ object. FoundFits u object.0)) c.requires.tree
    (c.follow.ensures.fits root here))) in
    let left = c.cover_of-cover.ensures.exact named covered c.requires.living
    (named_above (seen_by t h) dir c.part-part.result c.counted-followed.result.0 found_here) in
    let on = λ (call : Call). c.calls_on-near.ensures.exact fit left call ∙
    ap (λ (x : Result Found Errno). is_allowed (verdict_of t a.table h call x)) found in
    let on_kept : (call : Call) → has c.match-kept.far call ≡ allowed_kept t a.table h dir letter call = λ call. elim c.match-kept.branch [
      | in-Some w ↦ ap (λ (s : ℕ). has s call) w.far-is ∙
          subst (λ (o : Option ℕ). IfSome o (λ calls. (call : Call) → has calls call ≡ allowed_kept t a.table h dir letter call)) w.in-Some.is
          known call
      | in-None w ↦ ap (λ (s : ℕ). has s call) w.far-is ∙ w.calls_kept-far.ensures.exact covered found_here
          (c.counted-followed.ensures.links ∙ ap links_of followed_here) (c.calls_on-near.ensures.exact fit left) call ∙
          ap (λ (p : Part). is_allowed (verdict_of t a.table h call (last (seen_by t h) dir 0 p Kept))) part
    ] in
    let near : (call : Call) → has c.union-all.result call ≡ allowed_near t a.table h dir letter r call =
    λ call. c.union-all.ensures call ∙ ap (λ b. b || has c.keeping.result call) (c.following.ensures call) ∙
    ap (λ b. (has c.calls_on-near.result call && not (keeps_link call)) || b) (c.keeping.ensures call)
    ∙ by_both (last_of call) (has c.calls_on-near.result call) (has c.match-kept.far call)
    ∙ ap (λ (b : Bool). elim (last_of call) [ Followed ↦ b | Kept ↦ has c.match-kept.far call ]) (on call)
    ∙ ap (λ (b : Bool). elim (last_of call) [ Followed ↦ is_allowed (verdict_of t a.table h call (found_of r)) | Kept ↦ b ]) (on_kept call)
    in
    let far : (call : Call) → has c.keeping-2.result call ≡ allowed_far t a.table h dir letter call =
    λ call. c.keeping-2.ensures call ∙ ap (λ b. b && keeps_link call) (near call) ∙
    by_kept (last_of call) (is_allowed (verdict_of t a.table h call (found_of r))) (allowed_kept t a.table h dir letter call) in
    let told = letter_told t a.table a.base h dir letter c.union-all.result c.keeping-2.result near far in
    subst (λ (n : ℕ). IsLetter (judge_in a) dir letter c.union-all.result c.keeping-2.result n c.directory_of.result) (sym links)
    (subst (λ (o : Option ℕ). IsLetter (judge_in a) dir letter c.union-all.result c.keeping-2.result (links_of r) o)
    (sym (c.directory_of.ensures ∙ ap leads_to found)) told)

pub returns-clause-covered : goal.returns-clause-covered
returns-clause-covered g c = λ covered.
    let a = c.args.self.now in
    let h : ProcessState = a.process in
    let root = (λ i. is_dir (c.requires.tree i) c.start_in.result.root) ∙ c.start_in.ensures.lives in
    let here = (λ i. is_dir (c.requires.tree i) (c.start_in.ensures.dir i)) ∙ c.requires.living in
    let fit : FoundsFit a.seen.tree c.counted-followed.result.0 =
    subst (FoundsFit a.seen.tree) (sym c.counted-followed.ensures.found)
    (founds_of a.seen.tree c.follow.result (subst (λ (u : Tree). IfOk c.follow.result (λ found. FoundFits u found.0)) c.requires.tree
    (c.follow.ensures.fits root here))) in
    let followed_here : c.follow.result ≡ follow (seen_by a.seen.tree h) c.args.dir c.part-part.result = c.follow.ensures.exact
    ∙ (λ i. follow (rooted (c.requires.tree i) (c.start_in.ensures.root i)) (c.start_in.ensures.dir i) c.part-part.result) in
    let found_here : c.counted-followed.result.0 ≡ found_of (follow (seen_by a.seen.tree h) c.args.dir c.part-part.result) =
    c.counted-followed.ensures.found ∙ ap found_of followed_here in
    let named : IfOk c.counted-followed.result.0 (StandsAsNamed a.seen.tree) =
    subst (λ (f : Result Found Errno). IfOk f (StandsAsNamed a.seen.tree)) (sym c.counted-followed.ensures.found)
    (founds_are (StandsAsNamed a.seen.tree) c.follow.result (subst (λ (u : Tree). IfOk c.follow.result
    (λ object. StandsAsNamed u object.0)) c.requires.tree (c.follow.ensures.named root here))) in
    subst (λ (o : Option ℕ). IfSome o (λ to. c.cover_of-cover.result ≡ cover_in a.seen.tree h to)) (sym c.directory_of.ensures)
    (covered_lead a.seen.tree h a.tree c.counted-followed.result.0 c.cover_of-cover.result fit
    (c.cover_of-cover.ensures.exact named covered c.requires.living
    (named_above (seen_by a.seen.tree h) c.args.dir c.part-part.result c.counted-followed.result.0 found_here)))

not_more : (n m : ℕ) → n ≤ n + m
not_more n m = omega arith

pub returns-clause-cost : goal.returns-clause-cost
returns-clause-cost g c =
    let t : Tree = c.args.self.now.seen.tree in
    let near : ℕ = g.P.Probe.count c.calls_on-near.new.probe in
    let far : g.P.Probe.count c.match-kept.probe ≤ near + (part_cost t + object_cost t) = elim c.match-kept.branch [
      | in-Some w ↦ subst (λ (n : ℕ). n ≤ near + (part_cost t + object_cost t)) (sym (ap g.P.Probe.count w.probe-is))
          (not_more near (part_cost t + object_cost t))
      | in-None w ↦ subst (λ (n : ℕ). n ≤ near + (part_cost t + object_cost t)) (sym (ap g.P.Probe.count w.probe-is))
          w.calls_kept-far.ensures.cost
    ] in
    omega (arith, c.follow.ensures.cost, c.cover_of-cover.ensures.cost, c.calls_on-near.ensures.cost, far, ap part_cost c.requires.tree)
