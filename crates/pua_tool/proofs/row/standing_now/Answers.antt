use Rattle.pua_tool.proofs.Common.{◌≡◌, ◌∙◌, ap, sym}
use Rattle.std.specs.Prelude.{◌&&◌, option_map}
use Rattle.pua_tree.proofs.ForCallers.{same_Some, None≢Some}
use Rattle.pua_policy.specs.Verdict.{is_allowed}
use Rattle.pua_objects.specs.Items.{subject_given}
use Rattle.pua_objects.specs.Objects.{is_named_by, subject_verdict}
use Rattle.pua_tool.specs.RowColumns.{is_there}
use Rattle.pua_tool.proofs.RowColumns.{item_there}
use Rattle.pua_tool.proofs.row.standing_now.Goals as goal

pub returns-in_default : goal.returns-in_default
returns-in_default c = λ t about at on call.
    absurd (None≢Some about (sym (ap (option_map (subject_given t)) c.in_default.is) ∙ c.subject_of.ensures t ∙ at))

pub returns : goal.returns
returns c = λ t about at on call.
    let h = c.args.process.now in
    let table = c.args.table.now in
    let same : subject_given t c.in-Some.subject ≡ about =
    same_Some (subject_given t c.in-Some.subject) about (sym (ap (option_map (subject_given t)) c.in-Some.is) ∙ c.subject_of.ensures t ∙ at) in
    let there : is_there t about ≡ _ = ap (is_there t) (sym same) ∙ item_there t c.in-Some.subject in
    (c.line_of.ensures t about (record { subject = same; object = on.object; cover = on.cover })).calls call
    ∙ ap (λ b. b && (is_named_by t call about && is_allowed (subject_verdict t table h call about))) (sym there)
