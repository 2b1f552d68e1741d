use Rattle.pua_texts.proofs.Common.{◌≡◌, ◌∷◌, ◌++◌, ◌+◌, ◌<◌, [], ap, sym, ◌∙◌, map, take, drop, length, arith, length-map, map-append}
use Rattle.pua_texts.proofs.Common.{drop_more, option_map, None, Some, Word}
use Rattle.std.proofs.lemmas.Bool.{ltb-true}
use Rattle.std.proofs.lemmas.List.{take-map}
use Rattle.pua_objects.specs.ListItems.{with_name}
use Rattle.pua_texts.specs.ListLines.{NamedState, word_after}
use Rattle.pua_texts.proofs.ListLines.{long_enough, shared_names}
use Rattle.pua_texts.proofs.named_lines.NamedLines.next_line.Goals.{in-Some, in_default}
use Rattle.pua_texts.proofs.named_lines.NamedLines.next_line.Goals as goal

pub invariant_of-self : goal.invariant_of-self
invariant_of-self c =
    let p = c.self.inside in
    let depth = c.same-line.result.depth in
    let before : Word = map (λ name. name.now) p.word.items in
    let cut : map (λ name. name.now) c.truncate.new.self.items ≡ take depth before =
    ap (map (λ name. name.now)) c.truncate.ensures.items ∙ sym (take-map (λ name. name.now) depth p.word.items) in
    let new : map (λ name. name.now) c.push_reserved.new.self.items ≡ with_name (take depth before) (Some c.in-Some.name.now) =
    ap (map (λ name. name.now)) c.push_reserved.ensures.items
    ∙ map-append (λ name. name.now) c.truncate.new.self.items (c.in-Some.name ∷ [])
    ∙ ap (λ (w : Word). w ++ c.in-Some.name.now ∷ []) cut in
    let count : c.len.result ≡ length (take depth before) =
    omega (arith, c.len.ensures, ap length cut, length-map c.truncate.new.self.items (λ name. name.now)) in (
      c.cut.ensures before (map (λ name. name.now) c.push_reserved.new.self.items) c.self.invariant.0
          (omega (arith, count, long_enough (take depth before) (Some c.in-Some.name.now), ap length new))
          (shared_names before (Some c.in-Some.name.now) depth c.len.result count ∙ ap (take c.len.result) (sym new)),
      omega (arith, c.push_reserved.ensures.len, c.truncate.ensures.len, c.self.invariant.1),
      omega (arith, c.push_reserved.ensures.capacity, c.truncate.ensures.capacity, c.self.invariant.2),
    )

pub invariant_of-self-in_default : goal.invariant_of-self-in_default
invariant_of-self-in_default c =
    let p = c.self.inside in
    let depth = c.same-line.result.depth in
    let before : Word = map (λ name. name.now) p.word.items in
    let cut : map (λ name. name.now) c.truncate.new.self.items ≡ take depth before =
    ap (map (λ name. name.now)) c.truncate.ensures.items ∙ sym (take-map (λ name. name.now) depth p.word.items) in
    let count : c.len.result ≡ length (take depth before) =
    omega (arith, c.len.ensures, ap length cut, length-map c.truncate.new.self.items (λ name. name.now)) in (
      c.cut.ensures before (map (λ name. name.now) c.truncate.new.self.items) c.self.invariant.0 (omega (arith, count, ap length cut))
          (shared_names before None depth c.len.result count ∙ ap (take c.len.result) (sym cut)),
      omega (arith, c.truncate.ensures.len, c.self.invariant.1),
      omega (arith, c.truncate.ensures.capacity, c.self.invariant.2),
    )

pub returns : goal.returns
returns c =
    let p = c.self.inside in
    let line = c.same-line.result in
    let lent = c.in_ok-get.field-0.now in
    let seen = c.in_ok-get.ensures.lookup in
    let before : Word = map (λ name. name.now) p.word.items in
    let cut : map (λ name. name.now) c.truncate.new.self.items ≡ take line.depth before =
    ap (map (λ name. name.now)) c.truncate.ensures.items ∙ sym (take-map (λ name. name.now) line.depth p.word.items) in
    let within : p.count < length c.as_slice.result.now = ltb-true _ _ (sym seen.0) in
    let left : c.args.self.now.left ≡ line ∷ drop (p.count + 1) p.lines.items =
    sym (ap (λ (s : NamedState). s.left) c.self.view_is)
    ∙ ap (drop p.count) (sym c.as_slice.ensures.value)
    ∙ drop_more c.as_slice.result.now p.count lent within
    ∙ (λ i. (sym seen.1 ∙ sym c.same-line.ensures) i ∷ drop (p.count + 1) (c.as_slice.ensures.value i)) in
    elim c.match-line.branch [
      | in-Some w ↦ (
        left ∙ ap (λ (s : NamedState). line ∷ s.left) (sym w.self-is),
        ap (λ (s : NamedState). s.word) w.self-is
            ∙ ap (map (λ name. name.now)) w.push_reserved.ensures.items
            ∙ map-append (λ name. name.now) c.truncate.new.self.items (w.in-Some.name ∷ [])
            ∙ ap (λ (word : Word). word ++ w.in-Some.name.now ∷ []) cut
            ∙ ap (λ own. with_name (take line.depth before) (option_map (λ name. name.now) own)) (sym w.in-Some.is)
            ∙ ap (λ (s : NamedState). word_after s.word line) c.self.view_is,
      )
      | in_default w ↦ (
        left ∙ ap (λ (s : NamedState). line ∷ s.left) (sym w.self-is),
        ap (λ (s : NamedState). s.word) w.self-is
            ∙ cut
            ∙ ap (λ own. with_name (take line.depth before) (option_map (λ name. name.now) own)) (sym w.in_default.is)
            ∙ ap (λ (s : NamedState). word_after s.word line) c.self.view_is,
      )
    ]
