-- Pairs of letters and calls that there are.
use Rattle.std.specs.Prelude.{◌<◌, ℕ, Option, IfSome}
use Rattle.std.specs.List.{AllByRecursion}
use Rattle.pua_steps.specs.Limits.{call_count}
use Rattle.pua_steps.specs.Graph.{Pair, graph_reach}
use Rattle.pua_steps.specs.Table.{IsTable, IsState, graph_of}
use Rattle.pua_steps.specs.declared.state.State.{State}
use Rattle.pua_steps.specs.declared.steps.Steps.{Steps}

-- the letters of its word are of an alphabet with so many, and its call is one of all
pub record IsPair (letters : ℕ) (p : Pair) : Type 0 where
  pub word : AllByRecursion (λ i. i < letters) p.0
  pub call : p.1 < call_count

-- so are those of all pairs that a table gives
abbrev pub ReachIsWithin : Type 0
ReachIsWithin = (t : Steps) (limit calls : ℕ) (base : Option State) → IsTable t → IfSome base (λ s. IsState t s) →
    AllByRecursion (λ p. IsPair t.letters p) (graph_reach (graph_of t) limit calls base)
