use Rattle.std.proofs.Common.{◌∷◌, ◌+◌, ◌≤◌, List, suc, length, sym, subst, arith}
use Rattle.std.specs.Prelude.{◌*◌}
use Rattle.std.proofs.Math.Nat.{mul-le-mul_right, suc-mul}
use Rattle.pua_calls.specs.Calls.{call_count}
use Rattle.pua_audit.specs.Coming.{calls_at}
use Rattle.pua_calls.specs.declared.call.Call.{Call}
use Rattle.pua_texts.specs.Copied.{Copied}
use Rattle.pua_texts.specs.PathLines.{printed_lines}
use Rattle.pua_texts.proofs.Copying.{copied_then}
use Rattle.pua_texts.proofs.Pairs.{few_calls}
use Rattle.pua_texts.proofs.line.copy_lines.Goals as goal

pub calls-init : goal.calls-init
calls-init c =
    let path = c.args.lines.path.now in
    let many = suc (length (calls_at c.later_calls-later.result)) in
    record {
      room = λ fits. omega (
        arith,
        fits,
        mul-le-mul_right {m = many} {n = suc call_count} (length path + 16)
            (omega (arith, few_calls c.later_calls-later.result)),
      );
      lines = λ _ new e. subst (λ (later : List Call). Copied c.args.buffer.now new c.args.at
          (printed_lines path (c.args.lines.call ∷ later)) e) c.later_calls-later.ensures;
    }

pub calls-preserved : goal.calls-preserved
calls-preserved c =
    let path = c.args.lines.path.now in
    let width = length path + 16 in
    let left = suc (length (calls_at c.take_first.new.self)) in
    let room : c.args.at + suc call_count * width ≤ length c.args.buffer.now → c.calls.end + suc left * width ≤ length c.calls.buffer =
    rw c.in-Some.ensures at c.calls.invariant.room in
    let fits : c.args.at + suc call_count * width ≤ length c.args.buffer.now → c.calls.end + width ≤ length c.calls.buffer =
    λ all. omega (arith, room all, suc-mul left width) in
    record {
      room = λ all. omega (
        arith,
        room all,
        suc-mul left width,
        c.copy_line-end.ensures.short (fits all),
        (c.copy_line-end.ensures.copied (fits all)).len,
      );
      lines = λ all new e copied. c.calls.invariant.lines all new e (subst (λ (later : List Call). Copied c.calls.buffer new c.calls.end
          (printed_lines path (c.calls.call ∷ later)) e) (sym c.in-Some.ensures)
          (copied_then (c.copy_line-end.ensures.copied (fits all)) copied));
    }
