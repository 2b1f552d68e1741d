use Rattle.pua_audit.proofs.Common.{◌≡◌, ◌∙◌, [], List, length, sym, ap, subst, AllByRecursion, pairs_at, scope_in, IsPair}
use Rattle.pua_audit.proofs.Begun.{none_reach}
use Rattle.pua_audit.proofs.LiveStates.{live_states_count}
use Rattle.pua_audit.proofs.Starts.{audited, nothing_after}
use Rattle.pua_steps.specs.Graph as graph
use Rattle.pua_steps.specs.Ready.{trail}
use Rattle.pua_steps.specs.Trail.{pairs_of}
use Rattle.pua_audit.proofs.terms.Terms.begun_closed.Goals as goal

pub returns-clause-pairs : goal.returns-clause-pairs
returns-clause-pairs c = λ closed after.
    let a = c.args.self.now in
    let none : pairs_of (trail c.in_ok-walk.walk) ≡ [] = c.in_ok-walk.ensures.left ∙ none_reach _ a.limit in
    nothing_after a closed after ∙ ap (pairs_at a.letters) (sym none)

pub returns-clause-within : goal.returns-clause-within
returns-clause-within c =
    let a = c.args.self.now in
    let none : pairs_of (trail c.in_ok-walk.walk) ≡ [] = c.in_ok-walk.ensures.left ∙ none_reach _ a.limit in
    subst (λ (ps : List graph.Pair). AllByRecursion (λ p. IsPair (length a.letters) p) ps) (sym none) tt

pub returns-clause-live : goal.returns-clause-live
returns-clause-live c = λ closed. let a = c.args.self.now in
    sym (live_states_count.none (scope_in a) (audited a) closed)
