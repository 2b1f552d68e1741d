use Rattle.pua_tool.proofs.Common.{map, line_seen}
use Rattle.pua_tool.proofs.Common.{◌≡◌, ◌∙◌, ◌++◌, ℕ, List, Ok, Some, None, ap, refl, subst, CallTable, Tree, answer_lines, err_from_is_err_and}
use Rattle.pua_tool.proofs.Common.{AnswersTo, Err, OutOfMemory, as_replayed, flat_map}
use Rattle.std.proofs.Common.{inl, inr}
use Rattle.pua_calls.specs.TmpTable.{tmp_table}
use Rattle.pua_texts.specs.ListLines.{ListState, list_text, lists_text}
use Rattle.pua_texts.specs.Members.{named_by}
use Rattle.pua_tool.specs.BesideTexts.{AreBesideLists, IsBesideOf}
use Rattle.pua_tool.specs.TogetherTexts.{first_refused}
use Rattle.pua_tool.proofs.BesideTexts.{fault_answered, lists_joined, refused_of, whole_of}
use Rattle.pua_tool.proofs.beside.lists_to.Goals as goal

pub returns-in_err-check_all : goal.returns-in_err-check_all
returns-in_err-check_all g c =
    let done = as_replayed c.args.replay.now in
    let members = named_by c.args.members.now in
    let helpers = named_by c.args.helpers.now in
    let p = err_from_is_err_and c.from_residual.result c.from_residual.ensures.1 in
    let refused = subst (λ (table : CallTable). first_refused table (members ++ helpers) ≡ Some c.in_err-check_all.field-0.0) c.table.ensures
    c.in_err-check_all.ensures.refused in
    rw (p.1, p.2) (fault_answered g.S.Sink.written g.S.Sink.failed (IsBesideOf c.args.rules done members helpers) c.in_err-check_all.field-0.0
    c.args.sink.now (λ other. refused_of c.args.rules done members helpers _ refused))

pub returns-in_err-lists : goal.returns-in_err-lists
returns-in_err-lists g c =
    let p = err_from_is_err_and c.from_residual-in_err-lists.result c.from_residual-in_err-lists.ensures.1 in
    rw (p.1, p.2) (Err OutOfMemory, inl refl, (λ other. refl, refl))

pub returns-in_err-front : goal.returns-in_err-front
returns-in_err-front g c =
    let p = err_from_is_err_and c.from_residual-in_err-front.result c.from_residual-in_err-front.ensures.1 in
    rw (p.1, p.2) (Err OutOfMemory, inl refl, (λ other. refl, refl))

pub returns : goal.returns
returns g c =
    let done = as_replayed c.args.replay.now in
    let rules = c.args.rules in
    let members = named_by c.args.members.now in
    let helpers = named_by c.args.helpers.now in
    let wide : CallTable = c.with_tmppath-wide.result in
    let t : Tree = c.tree-tree.result.now in
    let at : t ≡ done.world.tree = c.tree-tree.ensures in
    let ruled : wide ≡ tmp_table done.table = c.with_tmppath-wide.ensures ∙ ap tmp_table c.table-2.ensures in
    let none = subst (λ (table : CallTable). first_refused table (members ++ helpers) ≡ None) c.table.ensures c.in_ok-check_all.ensures.listed in
    let lists : List ListState = c.in_ok-lists.lists.items in
    let texts : List (List ℕ) = map (list_text done.world.tree) lists in
    let are : AreBesideLists rules (tmp_table done.table) done.world.tree helpers members texts =
    subst (λ (table : CallTable). AreBesideLists rules table done.world.tree helpers members texts) ruled
    (subst (λ (t : Tree). AreBesideLists rules wide t helpers members (map (list_text t) lists)) at c.in_ok-lists.ensures) in
    let front : c.as_str.result.now ≡ answer_lines 1 done.answers = c.as_str.ensures.value ∙ c.in_ok-front.ensures ∙
    ap (λ told. answer_lines 1 (map line_seen told)) c.as_slice.ensures.value in
    let text : List ℕ = answer_lines 1 done.answers ++ flat_map (λ list. list) texts in (
      Ok text,
      inr (whole_of rules done members helpers text none (record { lists = texts; are = are; is = refl })),
      subst (λ (text : List ℕ). AnswersTo g.S.Sink.written g.S.Sink.failed (Ok text) c.put_lists.result c.args.sink.now c.put_lists.new.sink)
          ((λ i. front i ++ lists_text (at i) lists) ∙ ap (λ more. answer_lines 1 done.answers ++ more) (lists_joined done.world.tree lists))
          c.put_lists.ensures,
    )
