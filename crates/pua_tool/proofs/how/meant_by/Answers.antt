use Rattle.pua_tool.proofs.Common.{◌≡◌, ℕ, ◌∙◌, ap, sym, Some}
use Rattle.std.specs.Prelude.{◌==◌, option_map}
use Rattle.std.proofs.lemmas.Bool.{eqb-true, false≢true}
use Rattle.pua_how.specs.PathQuestion.{path_question}
use Rattle.pua_how.specs.Asked.{asking_given}
use Rattle.pua_tool.specs.HowTexts.{way_wanted}
use Rattle.pua_tool.proofs.HowTexts.{bad_path, none_meant, some_meant}
use Rattle.pua_tool.proofs.how.meant_by.Goals as goal

pub returns-in_default-clause-refused : goal.returns-in_default-clause-refused
returns-in_default-clause-refused g c = λ other. (
  0,
  bad_path (g.T.FileTree.content c.args.tree.now) c.args.process.now (way_wanted c.args.words.now) 0
      (sym c.in_ok-asking.ensures ∙ ap (option_map asking_given) c.in_default.is),
)

pub returns-then-is_empty-clause-refused : goal.returns-then-is_empty-clause-refused
returns-then-is_empty-clause-refused g c = λ other.
    let targets = c.in_ok-meant.meant.targets in
    let read : path_question c.args.words.now.path.now ≡ Some (asking_given c.in-Some.asking) =
    sym c.in_ok-asking.ensures ∙ ap (option_map asking_given) c.in-Some.is in
    let meant = c.in_ok-meant.ensures in (
      meant.last,
      none_meant (g.T.FileTree.content c.args.tree.now) c.args.process.now (way_wanted c.args.words.now) meant.last (asking_given c.in-Some.asking) targets.items read
          meant.are (sym targets.ok.0 ∙ eqb-true targets.len 0 (sym c.if-is_empty.ensures)),
    )

pub returns-clause-meant : goal.returns-clause-meant
returns-clause-meant g c =
    let targets = c.in_ok-meant.meant.targets in
    let read : path_question c.args.words.now.path.now ≡ Some (asking_given c.in-Some.asking) =
    sym c.in_ok-asking.ensures ∙ ap (option_map asking_given) c.in-Some.is in
    let meant = c.in_ok-meant.ensures in
    record {
      last = meant.last;
      above = meant.above;
      are = some_meant (g.T.FileTree.content c.args.tree.now) c.args.process.now (way_wanted c.args.words.now) meant.last (asking_given c.in-Some.asking)
          targets.items read meant.are
          (λ none. false≢true (c.if-is_empty.ensures ∙ ap (λ (n : ℕ). n == 0) (targets.ok.0 ∙ none)));
    }
