use Rattle.pua_tool.proofs.Common.{◌≡◌, ℕ, List, ◌++◌, ◌∷◌, Ok, ap, sym, subst, ◌∙◌, None, CallTable, unless_reason, AnswersTo}
use Rattle.pua_tool.proofs.Common.{err_from_is_err_and, refl}
use Rattle.pua_calls.specs.TmpTable.{tmp_table}
use Rattle.pua_ever.specs.LastingList.{IsBoundedExecOf}
use Rattle.pua_texts.specs.Members.{named_by}
use Rattle.pua_texts.specs.TogetherLines.{one_for, together_list}
use Rattle.pua_tool.specs.TogetherTexts.{first_refused}
use Rattle.pua_tool.proofs.TmpTables.{firsts_too}
use Rattle.pua_tool.proofs.TogetherTexts.{one_living}
use Rattle.pua_tool.proofs.together.joint_to.Goals as goal

pub returns-in_err-one : goal.returns-in_err-one
returns-in_err-one g c =
    let p = err_from_is_err_and c.from_residual.result c.from_residual.ensures.1 in
    rw (p.1, p.2) (λ live none. (λ other. absurd (other refl), refl))

pub returns-in_err-both : goal.returns-in_err-both
returns-in_err-both g c =
    let p = err_from_is_err_and c.from_residual-in_err-both.result c.from_residual-in_err-both.ensures.1 in
    rw (p.1, p.2) (λ live none. (λ other. absurd (other refl), refl))

pub returns-in_err-lists : goal.returns-in_err-lists
returns-in_err-lists g c =
    let p = err_from_is_err_and c.from_residual-in_err-lists.result c.from_residual-in_err-lists.ensures.1 in
    rw (p.1, p.2) (λ live none. (λ other. absurd (other refl), refl))

pub returns-in-Err : goal.returns-in-Err
returns-in-Err g c = λ live none.
    let w = c.args.world.now in
    let of = c.with_tmppath-wide.result in
    let ruled : of ≡ tmp_table w.table = c.with_tmppath-wide.ensures ∙ ap tmp_table c.table.ensures in
    let one = c.in_ok-one.one in
    let named = named_by c.args.members.now in
    let listed = one_living of named (named_by (c.args.first.now ∷ c.args.more.now)) one
    (subst (λ (table : CallTable). first_refused table named ≡ None) (sym ruled) (firsts_too w.table named ∙ none)) (sym live)
    c.in_ok-one.ensures in
    let whose = subst (IsBoundedExecOf of one) (sym c.as_ref.ensures.value) c.in_ok-both.ensures in
    let text = c.args.front.now ++ together_list c.args.rules (tmp_table w.table) w.tree named in (
      λ other. ap (λ reason. unless_reason c.args.first.now.number reason text) (sym listed ∙ c.in-Err.ensures.refused whose)
          ∙ c.fault_of.ensures text other,
      refl,
    )

pub returns : goal.returns
returns g c = λ live none.
    let w = c.args.world.now in
    let of = c.with_tmppath-wide.result in
    let ruled : of ≡ tmp_table w.table = c.with_tmppath-wide.ensures ∙ ap tmp_table c.table.ensures in
    let one = c.in_ok-one.one in
    let named = named_by c.args.members.now in
    let whose = subst (IsBoundedExecOf of one) (sym c.as_ref.ensures.value) c.in_ok-both.ensures in
    subst (λ (text : List ℕ). AnswersTo g.S.Sink.written g.S.Sink.failed (Ok text) c.put_lists.result c.args.sink.now c.put_lists.new.sink)
    (ap (λ text. c.args.front.now ++ text) (c.in_ok-lists.ensures of
    (record { is = sym c.in_ok-one.ensures ∙ ap (one_for of) live; lasting = c.in-Ok.ensures.list whose }))
    ∙ (λ i. c.args.front.now ++ together_list c.args.rules (ruled i) (c.tree-tree.ensures i) named)) c.put_lists.ensures
