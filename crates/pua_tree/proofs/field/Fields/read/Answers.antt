use Rattle.pua_tree.proofs.Common.{◌≡◌, ◌≤◌, ℕ, List, [], length, map, take, sym, ap, ◌∙◌, arith, fields}
use Rattle.std.specs.Option.{option_map_or}
use Rattle.std.proofs.lemmas.List.{length-map, length-take-le}
use Rattle.pua_tree.proofs.Filling.{filled, filled-full, filled-end, filled-badly}
use Rattle.pua_tree.proofs.field.Fields.read.Goals as goal

pub loop-rest-preserved : goal.loop-rest-preserved
loop-rest-preserved c =
    let kept : List (List ℕ) = map (λ field. field.now) (take c.loop-rest.count c.loop-rest.fields) in
    let many : length kept ≡ c.loop-rest.count =
    length-map (take c.loop-rest.count c.loop-rest.fields) (λ field. field.now) ∙
    length-take-le c.loop-rest.count c.loop-rest.fields (omega arith) in
    let full : 6 ≤ length kept = omega arith in
    record {
      same =
          c.loop-rest.invariant.same ∙ ap (λ rest. filled kept (option_map_or (λ text. fields text.now) rest [])) c.in-Some.is ∙
          ap (filled kept) c.in_ok-field.ensures.fields
          ∙ filled-full kept c.in_ok-field.field.now (option_map_or (λ text. fields text.now) c.in_ok-field.behind [])
          c.in_ok-field.ensures.field full;
      few = c.loop-rest.invariant.few;
      room = c.loop-rest.invariant.room;
    }

pub returns-in_err-field : goal.returns-in_err-field
returns-in_err-field c =
    let kept : List (List ℕ) = map (λ field. field.now) (take c.loop-rest.count c.loop-rest.fields) in
    c.from_residual.ensures
    ∙ sym
    (c.loop-rest.invariant.same ∙ ap (λ rest. filled kept (option_map_or (λ text. fields text.now) rest [])) c.in-Some.is ∙
    filled-badly kept (fields c.in-Some.text.now) c.in_err-field.ensures.none)

pub returns : goal.returns
returns c =
    let kept : List (List ℕ) = map (λ field. field.now) (take c.loop-rest.count c.loop-rest.fields) in
    let many : length kept ≡ c.loop-rest.count =
    length-map (take c.loop-rest.count c.loop-rest.fields) (λ field. field.now) ∙
    length-take-le c.loop-rest.count c.loop-rest.fields (omega arith) in
    sym
    (c.loop-rest.invariant.same ∙ ap (λ rest. filled kept (option_map_or (λ text. fields text.now) rest [])) c.in_default.is ∙
    filled-end kept (omega arith))
