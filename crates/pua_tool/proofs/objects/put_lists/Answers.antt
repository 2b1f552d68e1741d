use Rattle.pua_tool.proofs.Common.{Ok, List, ℕ, ◌++◌, subst, AnswersTo}
use Rattle.pua_texts.specs.ListLines.{lists_text}
use Rattle.pua_tool.proofs.objects.put_lists.Goals as goal

pub returns : goal.returns
returns g c = subst
    (λ (b : List ℕ). AnswersTo g.S.Sink.written g.S.Sink.failed (Ok (b ++ lists_text (g.T.FileTree.content c.args.tree.now) c.args.lists.items))
    c.put_behind.result c.args.sink.now c.put_behind.new.sink)
    c.as_bytes.ensures.value c.put_behind.ensures
