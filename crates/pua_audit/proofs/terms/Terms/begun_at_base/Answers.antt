use Rattle.pua_audit.proofs.Common.{◌≡◌, ◌∙◌, ℕ, List, [], None, arith, length, map, sym, ap, subst, AllByRecursion, has}
use Rattle.pua_audit.proofs.Common.{Call, pairs_at, pair_in_numbers, pair_in_letters, reach, judge_in}
use Rattle.pua_audit.proofs.Common.{scope_in, IsPair, Steps}
use Rattle.pua_audit.specs.Coming.{pairs_resumed}
use Rattle.pua_audit.proofs.AfterPair.{scope_after, pairs_stay}
use Rattle.pua_audit.proofs.Begun.{known_below}
use Rattle.pua_audit.proofs.NoLetters.{base_reach, none_live}
use Rattle.pua_audit.proofs.Starts.{all_along}
use Rattle.pua_steps.proofs.ForCallers.{reach_is_within}
use Rattle.pua_steps.specs.Graph as graph
use Rattle.pua_steps.specs.Table.{IsTable, graph_of}
use Rattle.pua_audit.proofs.terms.Terms.begun_at_base.Goals as goal

no_rows_table : (t : Steps) → t.rows.items ≡ [] → IsTable t
no_rows_table t none = λ d low. absurd (omega (arith, low, ap length none))

-- the calls of the empty word
all_within : (t : Steps) (n limit set : ℕ) → t.letters ≡ n → t.rows.items ≡ [] →
    AllByRecursion (λ p. IsPair n p) (graph.graph_reach (graph_of t) limit set None)
all_within t n limit set many none =
    subst (λ n. AllByRecursion (λ p. IsPair n p) (graph.graph_reach (graph_of t) limit set None)) many
    (reach_is_within t limit set None (no_rows_table t none) tt)

pub returns-clause-pairs : goal.returns-clause-pairs
returns-clause-pairs c = λ opened none told.
    let a = c.args.self.now in
    let t : Steps = c.no_rows.result in
    let set : ℕ = c.bits-calls.result in
    let own = λ (call : Call). ap (λ (n : ℕ). has n call) c.bits-calls.ensures.number ∙ told call in
    let ps : List graph.Pair = graph.graph_reach (graph_of t) a.limit set None in
    let same : map pair_in_numbers (reach (scope_in a)) ≡ map (pair_in_letters a.letters) ps =
    ap (map pair_in_numbers) (sym (all_along a opened)) ∙
    base_reach (judge_in a) a.letters set own (graph_of t) a.limit none in
    let within : AllByRecursion (λ p. IsPair (length a.letters) p) ps =
    all_within t (length a.letters) a.limit set c.no_rows.ensures.letters c.no_rows.ensures.rows in
    let left = c.in_ok-walk.ensures.left ∙
    ap (λ (t : Steps). pairs_resumed c.args.after (graph.graph_reach (graph_of t) a.limit set None)) c.in_ok-tables.ensures.steps in
    scope_after (scope_in a) c.args.after ps a.rises c.requires.word within same ∙ ap (pairs_at a.letters) (sym left)

pub returns-clause-within : goal.returns-clause-within
returns-clause-within c =
    let a = c.args.self.now in
    let t : Steps = c.no_rows.result in
    let set : ℕ = c.bits-calls.result in
    let ps : List graph.Pair = graph.graph_reach (graph_of t) a.limit set None in
    let within : AllByRecursion (λ p. IsPair (length a.letters) p) ps =
    all_within t (length a.letters) a.limit set c.no_rows.ensures.letters c.no_rows.ensures.rows in
    let left = c.in_ok-walk.ensures.left ∙
    ap (λ (t : Steps). pairs_resumed c.args.after (graph.graph_reach (graph_of t) a.limit set None)) c.in_ok-tables.ensures.steps in
    subst (λ (qs : List graph.Pair). AllByRecursion (λ p. IsPair (length a.letters) p) qs) (sym left)
    (pairs_stay (length a.letters) c.args.after ps within)

pub returns-clause-live : goal.returns-clause-live
returns-clause-live c = λ none. sym (none_live (scope_in c.args.self.now) none)

pub walk_after-requires-clause-word : goal.walk_after-requires-clause-word
walk_after-requires-clause-word c =
    let a = c.args.self.now in
    known_below a.letters a.limit c.in_ok-tables.tables.steps.letters c.args.after (ap (λ (t : Steps). t.letters)
    c.in_ok-tables.ensures.steps ∙ c.no_rows.ensures.letters) c.requires.word
