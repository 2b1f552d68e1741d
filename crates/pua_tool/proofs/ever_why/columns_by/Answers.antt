use Rattle.pua_tool.proofs.Common.{◌≡◌, map, subst, sym, if_ok, ProcessState}
use Rattle.std.specs.List.{AllByRecursion}
use Rattle.std.specs.Prelude.{string_bytes}
use Rattle.pua_calls.specs.TmpTable.{tmp_table}
use Rattle.pua_ever.specs.EverList.{IsRowOn}
use Rattle.pua_texts.specs.WhyLines.{world_left}
use Rattle.pua_tool.specs.EverColumns.{AreTexts}
use Rattle.pua_tool.specs.EverWhyTexts.{holder_by}
use Rattle.pua_tool.proofs.EverColumns.{rows_held}
use Rattle.pua_tool.proofs.ever_why.columns_by.Goals as goal

pub returns : goal.returns
returns g c =
    let h = c.args.process.now in
    let execs = c.args.list.now.execs in
    let rows = c.args.list.now.rows.items in
    let lent : c.as_slice.result.now ≡ rows = c.as_slice.ensures.value in
    let holder : ProcessState = c.holder_by-holder.result.now in
    if_ok c.columns_of.result
    (λ columns made. λ p number same ruled whose on dated.
    let t = (world_left p).tree in
    let table = tmp_table p.table in
    let held : holder ≡ holder_by table h execs = c.holder_by-holder.ensures table whose in
    let all = subst (λ rows. AllByRecursion (IsRowOn t holder) rows) (sym lent)
    (subst (λ k. AllByRecursion (IsRowOn t k) rows) (sym held) (rows_held t table h execs rows on)) in
    subst (λ rows. AreTexts p number h (holder_by table h execs) execs rows (map string_bytes columns.items)) lent
    (subst (λ k. AreTexts p number h k execs c.as_slice.result.now (map string_bytes columns.items)) held
    (made p number h execs same ruled (c.in_ok-reasons.ensures p number same ruled dated) all))) c.columns_of.ensures
