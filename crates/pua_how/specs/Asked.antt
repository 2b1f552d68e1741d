-- What contracts see of the words of a question.
use Rattle.std.specs.Prelude.{◌≡◌, ℕ, List, Option}
use Rattle.pua_tree.specs.Tree.{Tree}
use Rattle.pua_policy.specs.States.{ProcessState}
use Rattle.pua_objects.specs.declared.kind.ObjectKind.{ObjectKind}
use Rattle.pua_how.specs.PathQuestion.{PathQuestion, Standing, Making, targets_of}
use Rattle.pua_how.specs.Targets.{IsLast}
use Rattle.pua_how.specs.declared.path_question.PathQuestion as given
use Rattle.pua_how.specs.declared.path_question.PathQuestion.TheVariants as told
use Rattle.pua_how.specs.declared.target.Target.{Target}

abbrev pub asking_given : given.PathQuestion → PathQuestion
asking_given (told.Standing names) = Standing names.items
asking_given told.Making = Making

-- all that may be meant, by the last number before
pub record IsAskedBy (t : Tree) (h : ProcessState) (asking : PathQuestion) (kind : Option ObjectKind) (targets : List Target) : Type 0 where
  pub last : ℕ
  pub above : IsLast t last
  pub are : targets ≡ targets_of t h last asking kind
