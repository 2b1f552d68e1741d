use Rattle.pua_jointly.proofs.Common.{◌≡◌, Bool, false≢true, List, ProcessState, Tree}
use Rattle.std.specs.Bool.{Decides}
use Rattle.std.specs.List.{Contains}
use Rattle.std.specs.Prelude.{Err, IfOk, Ok, Result}
use Rattle.pua_ever.specs.declared.lasting_list.ExecBound.TheVariants.{Never}
use Rattle.pua_jointly.specs.JointFound.{AreFacts}
use Rattle.pua_jointly.specs.JointPrograms.{HasExec}
use Rattle.pua_jointly.proofs.JointCounting.{other_bound}
use Rattle.pua_jointly.proofs.counting.Actor.starts_after_all.Goals as goal

pub returns-in-Never-clause-starts : goal.returns-in-Never-clause-starts
returns-in-Never-clause-starts c = by c.has_exec.result c.has_exec.ensures
  where
    h : ProcessState
    h = c.args.self.now.process.now

    by : {E : Type 0} (r : Result Bool E) → IfOk r (λ has. (t : Tree) (crew : List ProcessState) →
        AreFacts t c.args.table.now crew c.args.facts.now → Contains crew h → Decides has (HasExec t c.args.table.now crew h)) →
        IfOk r (λ has. (t : Tree) (crew : List ProcessState) → AreFacts t c.args.table.now crew c.args.facts.now → Contains crew h →
        Decides has ((c.args.self.now.execs ≡ Never) × HasExec t c.args.table.now crew h))
    by (Err e) told = tt
    by (Ok has) told = λ t crew are among.
        let decided = told t crew are among in (λ yes. (c.in-Never.is, decided.0 yes), λ both. decided.1 both.1)

pub returns-in-Bounded-clause-starts : goal.returns-in-Bounded-clause-starts
returns-in-Bounded-clause-starts c = λ t crew are among. (
  λ no. absurd (false≢true no),
  λ both. absurd (other_bound c.args.self.now.execs c.in-Bounded.is both.0),
)
