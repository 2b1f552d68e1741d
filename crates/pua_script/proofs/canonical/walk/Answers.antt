use Rattle.pua_script.proofs.Common.{◌≡◌, [], ◌∷◌, ◌++◌, sym, ap, ◌∙◌, ◌+◌, ◌≤◌, rules, arith, length, nat_eq, ◌==◌}
use Rattle.std.proofs.Common.{tests, drop}
use Rattle.std.specs.List.{slice_split}
use Rattle.std.proofs.lemmas.Iterator.Splits.{YieldsList-from_slice_split}
use Rattle.std.proofs.lemmas.Iterator.Consumers.{YieldsList-turn, YieldsList-end}
use Rattle.std.proofs.lemmas.List.{length_push}
use Rattle.pua_tree.specs.Names.{components}
use Rattle.pua_script.specs.Beside.{at_root, beside, beside_with}
use Rattle.pua_script.specs.declared.canonical.Beside.{Beside}
use Rattle.pua_script.proofs.Named.{next, none_left}
use Rattle.pua_script.proofs.canonical.walk.Goals as goal
use Rattle.pua_script.proofs.canonical.walk.Goals.{In-Some, else-at-eq0-via-then-at-eq0+else-is_same, else-at-eq0-via-else-at-eq0}

-- what the loop keeps after a further piece, by which the names lie there
goes_on : (c : In-Some) (after : Beside) →
    beside_with (components c.args.path.now) c.loop-piece.at c.in-Some.piece.now ≡ after →
    after.come + after.beyond ≤ c.loop-piece.at.come + c.loop-piece.at.beyond + 1 →
    (beside (components c.args.path.now) after
    (drop (length (c.loop-piece.yielded ++ c.in-Some.piece ∷ [])) (slice_split (λ b. b == 47) c.args.text.now))
    ≡ beside (components c.args.path.now) at_root (slice_split (λ b. b == 47) c.args.text.now))
    × (after.come + after.beyond ≤ length (c.loop-piece.yielded ++ c.in-Some.piece ∷ []))
goes_on c after is within =
    let names = components c.args.path.now in
    let pieces = slice_split (λ b. nat_eq b 47) c.args.text.now in
    let done = length c.loop-piece.yielded in
    let turn = YieldsList-turn (YieldsList-from_slice_split _ (λ b. nat_eq b 47) c.args.text.now (cc) (cc) (cc) (λ x b q k. search (
      rules,
      tests,
    ))) c.loop-piece.yielded _ c.loop-piece.yielded_by _ _ c.in-Some.piece c.in-Some.is c.next.ensures.steps in
    let step = ap (λ a. beside names a (drop (done + 1) pieces)) (sym is)
    ∙ sym (next names pieces c.loop-piece.at done c.in-Some.piece.now turn) ∙ c.loop-piece.invariant.0 in (
      rw (length_push c.loop-piece.yielded c.in-Some.piece) step,
      omega (arith, within, c.loop-piece.invariant.1, length_push c.loop-piece.yielded c.in-Some.piece),
    )

pub loop-piece-preserved-then-adds_none : goal.loop-piece-preserved-then-adds_none
loop-piece-preserved-then-adds_none c =
    goes_on (goal.at.loop-piece-preserved-then-adds_none c).In-Some c.loop-piece.at (search (rules, tests)) (omega arith)

pub loop-piece-preserved-then-eq : goal.loop-piece-preserved-then-eq
loop-piece-preserved-then-eq c =
    goes_on (goal.at.loop-piece-preserved-then-eq c).In-Some c.up-at.result (search (rules, tests)) (omega (arith, c.up-at.ensures.within))

pub loop-piece-preserved-then-is_same : goal.loop-piece-preserved-then-is_same
loop-piece-preserved-then-is_same c =
    goes_on (goal.at.loop-piece-preserved-then-is_same c).In-Some
    (record { come = c.loop-piece.at.come + 1; beyond = c.loop-piece.at.beyond }) (search (rules, tests)) (omega arith)

pub loop-piece-preserved : goal.loop-piece-preserved
loop-piece-preserved c =
    goes_on (goal.at.loop-piece-preserved c).In-Some
    (record { come = c.loop-piece.at.come; beyond = c.loop-piece.at.beyond + 1 }) (elim c.else-at-eq0.branch [
      | else-at-eq0-via-then-at-eq0+else-is_same w ↦ search (rules, tests)
      | else-at-eq0-via-else-at-eq0 w ↦ search (rules, tests)
    ]) (omega arith)

pub returns : goal.returns
returns c =
    let names = components c.args.path.now in
    let pieces = slice_split (λ b. nat_eq b 47) c.args.text.now in
    let all = YieldsList-end (YieldsList-from_slice_split _ (λ b. nat_eq b 47) c.args.text.now (cc) (cc) (cc) (λ x b q k. search (
      rules,
      tests,
    ))) c.loop-piece.yielded _ c.loop-piece.yielded_by _ _ c.in-None.is c.next.ensures.steps in
    sym (none_left names pieces c.loop-piece.at (length c.loop-piece.yielded) (omega (arith, all.1))) ∙ c.loop-piece.invariant.0
