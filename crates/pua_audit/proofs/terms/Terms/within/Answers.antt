use Rattle.pua_audit.proofs.Common.{◌∙◌, refl, IsMissing}
use Rattle.pua_tree.specs.declared.node.Kind.TheVariants.{Known, Link}
use Rattle.pua_tree.specs.declared.node.FileType.TheVariants.{Plain, Sock, Fifo, Dev}
use Rattle.pua_policy.specs.Verdict.{Is, IsFile, IsProg}
use Rattle.pua_audit.proofs.Covers.{within_is}
use Rattle.pua_audit.proofs.terms.Terms.within.Goals as goal

pub returns : goal.returns
returns c = λ dir living over bare.
    let a = c.args.self.now in
    let t = a.seen.tree in
    let is = within_is t a.table a.process a.tree dir living c.args.cover over in
    record {
      missing = λ call. c.calls_over.ensures t IsMissing refl call ∙ is IsMissing call;
      file = λ call. c.calls_over-2.ensures t IsFile refl call ∙ is IsFile call;
      program = λ call. c.calls_over-3.ensures t IsProg refl call ∙ is IsProg call;
      plain = λ call. c.calls_over-4.ensures t (Is (Known Plain)) refl call ∙ is (Is (Known Plain)) call;
      socket = λ call. c.calls_over-5.ensures t (Is (Known Sock)) refl call ∙ is (Is (Known Sock)) call;
      fifo = λ call. c.calls_over-6.ensures t (Is (Known Fifo)) refl call ∙ is (Is (Known Fifo)) call;
      device = λ call. c.calls_over-7.ensures t (Is (Known Dev)) refl call ∙ is (Is (Known Dev)) call;
      link = λ call. c.calls_over-8.ensures t (Is Link) refl call ∙ is (Is Link) call;
      bare = bare;
    }
