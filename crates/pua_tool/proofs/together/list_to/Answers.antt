use Rattle.pua_tool.proofs.Common.{map, line_seen}
use Rattle.pua_tool.proofs.Common.{◌≡◌, ℕ, List, [], ◌++◌, Ok, ap, sym, subst, ◌∙◌, None, Some, CallTable, refl, arith, ◌∷◌}
use Rattle.pua_tool.proofs.Common.{answer_lines, err_from_is_err_and, AnswersTo, as_replayed}
use Rattle.std.proofs.Common.{length}
use Rattle.pua_calls.specs.TmpTable.{tmp_table}
use Rattle.pua_texts.specs.Members.{named_by}
use Rattle.pua_texts.specs.TogetherLines.{living, one_for, together_list}
use Rattle.pua_texts.specs.declared.members.Member.{Member}
use Rattle.pua_tool.specs.TogetherTexts.{first_refused, other_veils, together_lines, together_of, unless_fault}
use Rattle.pua_tool.proofs.TextAnswers.{answers_refused, answers_told}
use Rattle.pua_tool.proofs.TogetherTexts.{fault_listed, fault_veils}
use Rattle.pua_tool.proofs.together.list_to.Goals as goal

nobody_named : (members : List Member) → length members ≡ 0 → named_by members ≡ []
nobody_named [] none = refl
nobody_named (member ∷ members) none = absurd (omega (arith, none))

pub returns-in_err-check_members : goal.returns-in_err-check_members
returns-in_err-check_members g c =
    let done = as_replayed c.args.replay.now in
    let named = named_by c.args.members.now in
    let p = err_from_is_err_and c.from_residual.result c.from_residual.ensures.1 in
    let refused = subst (λ (table : CallTable). first_refused table named ≡ Some c.in_err-check_members.field-0.0) c.table.ensures
    c.in_err-check_members.ensures.refused in
    rw (p.1, p.2) (answers_refused g.S.Sink.written g.S.Sink.failed (together_of c.args.rules done named) c.in_err-check_members.field-0.0
    c.args.sink.now
    (λ other. ap (λ fault. unless_fault fault (together_lines c.args.rules done named)) (fault_listed done.table named _ refused)))

pub returns-in_err-living : goal.returns-in_err-living
returns-in_err-living g c =
    let p = err_from_is_err_and c.from_residual-in_err-living.result c.from_residual-in_err-living.ensures.1 in
    rw (p.1, p.2) (λ other. absurd (other refl), refl)

pub returns-in_err-check_veils : goal.returns-in_err-check_veils
returns-in_err-check_veils g c =
    let done = as_replayed c.args.replay.now in
    let named = named_by c.args.members.now in
    let p = err_from_is_err_and c.from_residual-in_err-check_veils.result c.from_residual-in_err-check_veils.ensures.1 in
    let none = subst (λ (table : CallTable). first_refused table named ≡ None) c.table.ensures c.in_ok-check_members.ensures.listed in
    let live = ap named_by c.as_slice.ensures.value ∙ c.in_ok-living.ensures in
    rw (p.1, p.2) (answers_refused g.S.Sink.written g.S.Sink.failed (together_of c.args.rules done named) c.in_err-check_veils.field-0.0
    c.args.sink.now
    (λ other. ap (λ fault. unless_fault fault (together_lines c.args.rules done named)) (fault_veils done.table named none
    ∙ ap other_veils (sym live) ∙ c.in_err-check_veils.ensures.refused other)))

pub returns-in-Some : goal.returns-in-Some
returns-in-Some g c =
    let done = as_replayed c.args.replay.now in
    let named = named_by c.args.members.now in
    let none = subst (λ (table : CallTable). first_refused table named ≡ None) c.table.ensures c.in_ok-check_members.ensures.listed in
    let live = ap named_by c.as_slice.ensures.value ∙ c.in_ok-living.ensures in
    let behind = ap named_by (sym (c.as_slice-3.ensures.value) ∙ c.in-Some.ensures.cases.0) in
    let front : c.as_str-front.result.now ≡ answer_lines 1 done.answers = c.as_str-front.ensures.value ∙ c.in_ok-front.ensures ∙
    ap (λ told. answer_lines 1 (map line_seen told)) c.as_slice-2.ensures.value in
    answers_told g.S.Sink.written g.S.Sink.failed (together_of c.args.rules done named) (together_lines c.args.rules done named)
    c.joint_to.result c.args.sink.now c.joint_to.new.sink
    (ap (λ fault. unless_fault fault (together_lines c.args.rules done named)) (fault_veils done.table named none
    ∙ ap other_veils (sym live) ∙ c.in_ok-check_veils.ensures.alike))
    (subst (λ (text : List ℕ). AnswersTo g.S.Sink.written g.S.Sink.failed (Ok text) c.joint_to.result c.args.sink.now c.joint_to.new.sink)
    (ap (λ front. front ++ together_list c.args.rules (tmp_table done.table) done.world.tree named) front)
    (c.joint_to.ensures (sym behind ∙ c.in_ok-living.ensures) none))

pub returns : goal.returns
returns g c =
    let done = as_replayed c.args.replay.now in
    let tmp : CallTable = tmp_table done.table in
    let named = named_by c.args.members.now in
    let none = subst (λ (table : CallTable). first_refused table named ≡ None) c.table.ensures c.in_ok-check_members.ensures.listed in
    let live = ap named_by c.as_slice.ensures.value ∙ c.in_ok-living.ensures in
    let nobody : [] ≡ living named = sym (nobody_named c.as_slice-3.result.now c.in-None.ensures.cases)
    ∙ ap named_by c.as_slice-3.ensures.value ∙ c.in_ok-living.ensures in
    let front : c.as_str-front.result.now ≡ answer_lines 1 done.answers = c.as_str-front.ensures.value ∙ c.in_ok-front.ensures ∙
    ap (λ told. answer_lines 1 (map line_seen told)) c.as_slice-2.ensures.value in
    answers_told g.S.Sink.written g.S.Sink.failed (together_of c.args.rules done named) (together_lines c.args.rules done named)
    c.put_lists.result c.args.sink.now c.put_lists.new.sink
    (ap (λ fault. unless_fault fault (together_lines c.args.rules done named)) (fault_veils done.table named none
    ∙ ap other_veils (sym live) ∙ c.in_ok-check_veils.ensures.alike))
    (subst (λ (text : List ℕ). AnswersTo g.S.Sink.written g.S.Sink.failed (Ok text) c.put_lists.result c.args.sink.now c.put_lists.new.sink)
    ((λ i. front i ++ c.in_ok-lists-in-None.ensures tmp (record { is = ap (one_for tmp) nobody; lasting = tt }) i)
    ∙ (λ i. answer_lines 1 done.answers ++ together_list c.args.rules tmp (c.tree-tree.ensures i) named)) c.put_lists.ensures)
