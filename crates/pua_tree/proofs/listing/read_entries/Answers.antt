use Rattle.pua_tree.proofs.Common.{◌≡◌, ◌∷◌, ◌∙◌, ◌+◌, ◌≤◌, subst, refl, rules, err_from_is_err_and}
use Rattle.pua_tree.specs.Listing.{most_lines_of}
use Rattle.pua_tree.proofs.SoFar.{one_more, one_stops}
use Rattle.pua_tree.proofs.listing.read_entries.Goals as goal

pub loop-text-preserved : goal.loop-text-preserved
loop-text-preserved g c =
    let next : c.loop-text.text-iterator ≡ c.in-Some.text.now ∷ c.next.new.self = search rules in
    let held = g.T.FileTree.content in
    let same : c.loop-text.reading.form ≡ c.args.form = c.loop-text.invariant.0 in
    let exact = rw same at c.in_ok-read.ensures.exact in (
      c.in_ok-read.ensures.form ∙ same,
      one_more c.args.form c.args.lines _ _ c.loop-text.n _ (held c.loop-text.reading.tree) (held c.read.new.self.tree)
          c.loop-text.reading.greatest c.read.new.self.greatest c.in-Some.text.now
          c.loop-text.invariant.1 next refl (subst (λ f. c.loop-text.n + 1 ≤ most_lines_of f) same c.in_ok-read.ensures.room) exact,
    )

pub returns-in_err-read-clause-err : goal.returns-in_err-read-clause-err
returns-in_err-read-clause-err g c =
    let next : c.loop-text.text-iterator ≡ c.in-Some.text.now ∷ c.next.new.self = search rules in
    let failed = err_from_is_err_and c.from_residual-in_err-read.result c.from_residual-in_err-read.ensures.1 in
    let held = g.T.FileTree.content in
    let exact = rw c.loop-text.invariant.0 at c.in_err-read.ensures.exact in
    rw (failed.1, failed.2) (λ other. one_stops c.args.form c.args.lines _ _ c.loop-text.n _ (held c.loop-text.reading.tree)
    c.loop-text.reading.greatest c.in-Some.text.now _ c.loop-text.invariant.1 next refl (λ es h count. exact es h count other))
