use Rattle.pua_tool.proofs.Common.{◌≡◌, ◌∙◌, ℕ, List, ◌∷◌, ◌++◌, [], Some, sym, ap, map, arith, if_ok, ProcessState}
use Rattle.std.proofs.Common.{take, take_all, slice_index_or}
use Rattle.std.proofs.lemmas.List.{map-append, take_more}
use Rattle.std.proofs.lemmas.Simd.{map-map}
use Rattle.std.specs.Borrow.{Bor}
use Rattle.pua_ever.specs.Together.{joined}
use Rattle.pua_texts.specs.Members.{named_by}
use Rattle.pua_texts.specs.declared.members.Member.{Member}
use Rattle.pua_tool.proofs.together.join_all.Goals as goal

pub loop-member-preserved : goal.loop-member-preserved
loop-member-preserved c =
    let more : List Member = c.args.more.now in
    let i : ℕ = c.loop-member.member-index in
    let item : Member = c.member-item.result in
    c.in_ok-push.ensures.items
    ∙ ap (λ (others : List (Bor ProcessState)). others ++ item.process ∷ []) c.loop-member.invariant
    ∙ sym (ap (map (λ (m : Member). m.process)) (take_more more i item c.loop-member-test.true)
    ∙ map-append (λ (m : Member). m.process) (take i more) (slice_index_or more i item ∷ [])
    ∙ ap (λ (m : Member). map (λ (m : Member). m.process) (take i more) ++ m.process ∷ []) (sym c.member-item.is))

pub returns : goal.returns
returns c =
    let more : List Member = c.args.more.now in
    let lent : c.as_slice.result.now ≡ map (λ (m : Member). m.process) more =
    c.as_slice.ensures.value ∙ c.loop-member.invariant
    ∙ ap (map (λ (m : Member). m.process)) (take_all c.loop-member.member-index more (omega (arith, c.loop-member-test.false))) in
    let states : map (λ (p : Bor ProcessState). p.now) c.as_slice.result.now ≡ map (λ named. named.1) (named_by more) =
    ap (map (λ (p : Bor ProcessState). p.now)) lent
    ∙ map-map (λ (p : Bor ProcessState). p.now) (λ (m : Member). m.process) more
    ∙ sym (map-map (λ (named : ℕ × ProcessState). named.1) (λ (m : Member). (m.number, m.process.now)) more) in
    if_ok c.join.result (λ one is. ap Some (sym (is ∙ ap (joined c.args.table.now c.args.first.now.process.now) states))) c.join.ensures
