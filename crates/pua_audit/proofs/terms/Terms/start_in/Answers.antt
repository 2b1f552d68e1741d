use Rattle.pua_audit.proofs.Common.{ℕ, sym, subst, IsTrue, is_dir}
use Rattle.pua_path.proofs.ForCallers.{seen_root_lives}
use Rattle.pua_audit.proofs.terms.Terms.start_in.Goals as goal

pub returns-clause-lives : goal.returns-clause-lives
returns-clause-lives c =
    let a = c.args.self.now in
    subst (λ (n : ℕ). IsTrue (is_dir a.seen.tree n)) (sym a.by_root) (seen_root_lives a.seen.tree a.process.start a.tree)
