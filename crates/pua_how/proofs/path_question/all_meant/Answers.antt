use Rattle.std.proofs.Common.{ap, sym, ◌∙◌}
use Rattle.std.specs.Prelude.{[], unwrap_or}
use Rattle.pua_how.specs.PathQuestion.{targets_asked, targets_by}
use Rattle.pua_how.specs.Asked.{asking_given}
use Rattle.pua_how.proofs.Meaning.{next_is_last}
use Rattle.pua_how.proofs.path_question.all_meant.Goals as goal

pub returns-in_ok-standing-in-Standing : goal.returns-in_ok-standing-in-Standing
returns-in_ok-standing-in-Standing g c =
    let t = g.T.FileTree.content c.args.tree.now in (
      t.next,
      next_is_last t c.known.ensures,
      c.in_ok-standing-in-Standing.ensures
          ∙ ap (λ names. unwrap_or (targets_by t c.args.process.now names) []) c.as_slice.ensures.value
          ∙ ap (λ asking. targets_asked t c.args.process.now t.next (asking_given asking)) (sym c.in-Standing.is),
    )
