use Rattle.pua_audit.proofs.Common.{◌≡◌, ℕ, Option, sym, subst, IfSome, has, Call, allowed_kept}
use Rattle.pua_audit.proofs.terms.Terms.letter.Goals as goal
use Rattle.pua_audit.proofs.terms.Terms.letter.Goals.{in-Some, in-None}

pub returns-in-Some-2-clause-exact : goal.returns-in-Some-2-clause-exact
returns-in-Some-2-clause-exact g c = λ within covered. c.in-Some.ensures.file c.if-bare.false c.requires.living within c.keeping.result

pub returns-clause-exact : goal.returns-clause-exact
returns-clause-exact g c = λ within covered.
    let a = c.args.self.now in
    let known : IfSome c.match-bare.kept (λ calls. (call : Call) → has calls call ≡
    allowed_kept a.seen.tree a.table a.process c.args.dir c.args.letter.now call) = elim c.match-bare.branch [
      | in-Some w ↦ subst (λ (o : Option ℕ). IfSome o (λ calls. (call : Call) → has calls call ≡
          allowed_kept a.seen.tree a.table a.process c.args.dir c.args.letter.now call)) (sym w.kept-is)
          (w.in-Some.ensures.link w.if-bare.true c.requires.living within)
      | in-None w ↦ subst (λ (o : Option ℕ). IfSome o (λ calls. (call : Call) → has calls call ≡
          allowed_kept a.seen.tree a.table a.process c.args.dir c.args.letter.now call)) (sym w.kept-is) tt
    ] in
    c.followed.ensures.exact covered known
