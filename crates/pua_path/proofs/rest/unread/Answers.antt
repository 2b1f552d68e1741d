use Rattle.pua_path.proofs.Common.{sym, ap, ◌∙◌, parts_of, rest_parts}
use Rattle.pua_path.specs.Paths.{path_fault}
use Rattle.pua_path.specs.declared.text.Ending.TheVariants as ending
use Rattle.pua_path.proofs.Pieces.{begin_readable, trimmed_readable, parts_of-begin, parts_of-trimmed}
use Rattle.pua_path.proofs.rest.unread.Goals as goal

pub invariant_of-result : goal.invariant_of-result
invariant_of-result c =
    record {
      readable =
          trimmed_readable c.bytes-bytes.result.now c.before_slashes.result.now c.after_slashes-bytes.result.now
          (ap path_fault c.bytes-bytes.ensures.bytes ∙ c.bytes-bytes.ensures.path) c.before_slashes.ensures.components
          c.before_slashes.ensures.nul c.after_slashes-bytes.ensures;
    }

pub invariant_of-result-2 : goal.invariant_of-result-2
invariant_of-result-2 c =
    record {
      readable =
          begin_readable c.bytes-bytes.result.now c.after_slashes-bytes-2.result.now (ap path_fault c.bytes-bytes.ensures.bytes ∙
          c.bytes-bytes.ensures.path) c.after_slashes-bytes-2.ensures;
    }

pub returns : goal.returns
returns c =
    ap rest_parts c.after_slashes-bytes-2.ensures ∙ sym (parts_of-begin c.bytes-bytes.result.now)
    ∙ ap (parts_of ending.Dot) c.bytes-bytes.ensures.bytes ∙ ap (λ e. parts_of e c.args.text.now.bytes) c.in_default.ensures

pub returns-in-Dropped : goal.returns-in-Dropped
returns-in-Dropped c =
    ap rest_parts c.after_slashes-bytes.ensures
    ∙ sym (parts_of-trimmed c.bytes-bytes.result.now c.before_slashes.result.now c.before_slashes.ensures.components
    c.before_slashes.ensures.end)
    ∙ ap (parts_of ending.Dropped) c.bytes-bytes.ensures.bytes ∙ ap (λ e. parts_of e c.args.text.now.bytes) c.in-Dropped.ensures
