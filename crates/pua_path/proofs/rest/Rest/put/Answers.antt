use Rattle.pua_path.proofs.Common.{sym, ap, ◌∙◌, ◌++◌, ◌<◌, length, take, arith, Remaining, parts_of}
use Rattle.pua_path.specs.declared.text.Ending.TheVariants as ending
use Rattle.pua_path.proofs.Pieces.{no_parts, not_empty, text_readable}
use Rattle.pua_path.proofs.Stack.{stack_on_empty, stack_pushed, parts_on_empty, parts_pushed}
use Rattle.pua_path.proofs.rest.Rest.put.Goals.{then-not-is_empty, else-not-is_empty}
use Rattle.pua_path.proofs.rest.Rest.put.Goals as goal

pub returns-then-is_empty-clause-parts : goal.returns-then-is_empty-clause-parts
returns-then-is_empty-clause-parts c may =
    ap (λ (rest : Remaining). rest.parts) c.self.view_is
    ∙ sym (ap (λ parts. parts ++ c.args.self.now.parts) (no_parts c.args.target.bytes.now c.after_slashes-text.result.now
    c.after_slashes-text.ensures (sym c.is_empty.ensures ∙ c.if-is_empty.true)))

pub invariant_of-self-2 : goal.invariant_of-self-2
invariant_of-self-2 c =
    let readable = text_readable c.args.target.bytes.now c.after_slashes-text.result.now c.args.target.readable
    c.after_slashes-text.ensures in
    let full = not_empty c.after_slashes-text.result.now (sym c.is_empty.ensures ∙ c.if-is_empty.false) in
    elim c.if-not-is_empty.branch [
      | then-not-is_empty w ↦
          let lt : c.self.inside.depth < length c.self.inside.below = omega arith in
          rw w.self-inside-is (
            omega arith,
            stack_pushed c.self.inside.top c.after_slashes-text.result.now c.self.inside.depth c.self.inside.below c.self.invariant.1
                (not_empty c.self.inside.top.now (sym c.is_empty-2.ensures ∙ w.if-not-is_empty.true)) lt readable full,
          )
      | else-not-is_empty w ↦
          rw w.self-inside-is (
            omega arith,
            stack_on_empty c.self.inside.top.now c.after_slashes-text.result.now (take c.self.inside.depth c.self.inside.below)
                c.self.invariant.1 readable full,
          )
    ]

pub returns-clause-parts : goal.returns-clause-parts
returns-clause-parts c may =
    elim c.if-not-is_empty.branch [
      | then-not-is_empty w ↦
          let lt : c.self.inside.depth < length c.self.inside.below = omega arith in
          rw w.self-inside-is (parts_pushed c.args.target.bytes.now c.after_slashes-text.result.now c.self.inside.top c.self.inside.depth
          c.self.inside.below c.after_slashes-text.ensures lt
          ∙ ap (λ (rest : Remaining). parts_of ending.Dot c.args.target.bytes.now ++ rest.parts) c.self.view_is)
      | else-not-is_empty w ↦
          rw w.self-inside-is (parts_on_empty c.args.target.bytes.now c.after_slashes-text.result.now c.self.inside.top.now
          (take c.self.inside.depth c.self.inside.below) c.after_slashes-text.ensures (sym c.is_empty-2.ensures ∙
          w.if-not-is_empty.false)
          ∙ ap (λ (rest : Remaining). parts_of ending.Dot c.args.target.bytes.now ++ rest.parts) c.self.view_is)
    ]
