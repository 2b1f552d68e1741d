use Rattle.pua_script.proofs.Common.{◌≡◌, ◌≢◌, ◌<◌, ◌+◌, suc, arith, sym, ap, ◌∙◌, lines}
use Rattle.std.proofs.Common.{Err, add-one}
use Rattle.std.proofs.lemmas.Result.{err_from_is_err_and}
use Rattle.pua_tree.proofs.ForCallers.{lines_agree}
use Rattle.pua_script.specs.declared.fault.ScriptFault.TheVariants.{OutOfMemory}
use Rattle.pua_script.specs.Scripts.{script_by}
use Rattle.pua_script.proofs.Onwards.{onwards, begins, full, ends, refused, goes_on}
use Rattle.pua_script.proofs.script.read_script_by.Goals as goal

pub loop-line-init : goal.loop-line-init
loop-line-init c =
    let left : c.into_iter-line-iterator.result ≡ lines c.args.bytes.now = c.into_iter-line-iterator.ensures.into_iter_gives ∙
    c.lines-line-items.ensures.value ∙ lines_agree c.args.bytes.now in
    record {
      few = omega arith;
      so_far = begins c.args.rules 60000 (lines c.args.bytes.now) ∙ (λ i. onwards c.args.rules 60000 0 (sym c.new-requests.ensures.items i) (sym left i));
    }

pub returns-then-number-eq-MOST_SCRIPT_LINES : goal.returns-then-number-eq-MOST_SCRIPT_LINES
returns-then-number-eq-MOST_SCRIPT_LINES c = λ other.
    c.loop-line.invariant.so_far
    ∙ (λ i. onwards c.args.rules 60000 (c.if-number-eq-MOST_SCRIPT_LINES.true i) c.loop-line.requests.items (c.in-Some.ensures.steps i))
    ∙ full c.args.rules 60000 c.loop-line.requests.items c.in-Some.line.now c.next.new.self

pub overflow_add-number : goal.overflow_add-number
overflow_add-number c = let few = c.loop-line.invariant.few in omega (arith, few)

pub returns-in_err-add_request : goal.returns-in_err-add_request
returns-in_err-add_request c =
    let few = c.loop-line.invariant.few in
    let apart = c.if-number-eq-MOST_SCRIPT_LINES.false in
    let less : c.loop-line.number < 60000 = omega (arith, few, apart) in
    let fault = c.in_err-add_request.field-0.0 in
    let refuses : fault ≢ OutOfMemory → script_by c.args.rules c.args.bytes.now ≡ Err fault = λ other.
    c.loop-line.invariant.so_far
    ∙ ap (onwards c.args.rules 60000 c.loop-line.number c.loop-line.requests.items) c.in-Some.ensures.steps
    ∙ refused c.args.rules 60000 c.loop-line.number c.loop-line.requests.items c.in-Some.line.now c.next.new.self fault less
    (rw add-one at (c.in_err-add_request.ensures other)) in
    let p = err_from_is_err_and c.from_residual.result c.from_residual.ensures.1 in
    rw (p.1, p.2) refuses

pub loop-line-preserved : goal.loop-line-preserved
loop-line-preserved c =
    let few = c.loop-line.invariant.few in
    let apart = c.if-number-eq-MOST_SCRIPT_LINES.false in
    let less : c.loop-line.number < 60000 = omega (arith, few, apart) in
    let next : c.loop-line.number + 1 ≡ suc c.loop-line.number = add-one c.loop-line.number in
    let added = c.in_ok-add_request.ensures in
    record {
      few = omega (arith, less);
      so_far = c.loop-line.invariant.so_far
          ∙ ap (onwards c.args.rules 60000 c.loop-line.number c.loop-line.requests.items) c.in-Some.ensures.steps
          ∙ goes_on c.args.rules 60000 c.loop-line.number c.loop-line.requests.items c.in-Some.line.now c.next.new.self added.0 less
          (rw add-one at added.1)
          ∙ (λ i. onwards c.args.rules 60000 (sym next i) (sym added.2 i) c.next.new.self);
    }

pub returns : goal.returns
returns c =
    c.loop-line.invariant.so_far
    ∙ ap (onwards c.args.rules 60000 c.loop-line.number c.loop-line.requests.items) c.in-None.ensures.steps.0
    ∙ ends c.args.rules 60000 c.loop-line.number c.loop-line.requests.items c.loop-line.invariant.few
