use Rattle.pua_path.proofs.Common.{ℕ, List, ◌∷◌, [], sym, ap, ◌∙◌, take, arith, Bor, part_of, Remaining}
use Rattle.pua_path.proofs.Stack.{nothing_below, stack_popped, taken_off, taken_off_last}
use Rattle.pua_path.proofs.rest.Rest.next.Goals.{then-is_empty-2+then-self-gt0, else-is_empty-2}
use Rattle.pua_path.proofs.rest.Rest.next.Goals as goal

pub returns-clause-parts : goal.returns-clause-parts
returns-clause-parts c =
    elim c.if-is_empty-2.branch [
      | then-is_empty-2+then-self-gt0 w ↦
          let nothing : Bor (List ℕ) = record { ref_ptr = (0, 0); now = [] } in
          sym (ap (λ (rest : Remaining). rest.parts) c.self.view_is)
          ∙ taken_off_last c.self.inside.top.now c.next_piece.result.1.bytes.now (part_of c.next_piece.result.0.bytes.now)
          c.self.inside.depth c.self.inside.below nothing
          c.next_piece.ensures (sym c.is_empty-2.ensures ∙ w.if-is_empty-2.true) w.if-self-gt0.true (omega arith)
          ∙ sym (ap (λ (rest : Remaining). part_of c.next_piece.result.0.bytes.now ∷ rest.parts) w.self-is)
      | else-is_empty-2 w ↦
          sym (ap (λ (rest : Remaining). rest.parts) c.self.view_is)
          ∙ taken_off c.self.inside.top.now c.next_piece.result.1.bytes.now (part_of c.next_piece.result.0.bytes.now)
          (take c.self.inside.depth c.self.inside.below) c.next_piece.ensures
          ∙ sym (ap (λ (rest : Remaining). part_of c.next_piece.result.0.bytes.now ∷ rest.parts) w.self-is)
    ]

pub returns-then-is_empty-clause-parts : goal.returns-then-is_empty-clause-parts
returns-then-is_empty-clause-parts c =
    let none = sym (ap (λ (rest : Remaining). rest.parts) c.self.view_is) ∙
    nothing_below c.self.inside.top.now (take c.self.inside.depth c.self.inside.below) c.self.invariant.1 (sym c.is_empty.ensures ∙
    c.if-is_empty.true) in
    (none, none)

pub invariant_of-self : goal.invariant_of-self
invariant_of-self c =
    let nothing : Bor (List ℕ) = record { ref_ptr = (0, 0); now = [] } in (
      omega arith,
      stack_popped c.self.inside.top.now c.self.inside.depth c.self.inside.below nothing c.self.invariant.1 c.if-self-gt0.true
          (omega arith),
    )
