use Rattle.pua_texts.proofs.Common.{[], map, ap, sym, subst, ◌++◌, ◌∙◌, Option, option_map, string_bytes, Tree}
use Rattle.std.specs.Prelude.{IfSome}
use Rattle.pua_ever.specs.EverList.{AreEverTold}
use Rattle.pua_ever.specs.LastingList.{IsLasting}
use Rattle.pua_ever.specs.ShownForEver.{shown_lasting}
use Rattle.pua_texts.specs.EndingsState.{EndingsState}
use Rattle.pua_texts.specs.ListLines.{lines_text}
use Rattle.pua_texts.specs.Members.{named_by}
use Rattle.pua_texts.specs.States.{bound_lines}
use Rattle.pua_texts.specs.declared.members.Joined.{Joined}
use Rattle.pua_texts.specs.declared.state.Time.TheVariants.{Ever}
use Rattle.pua_texts.proofs.Outcomes.{if_ok}
use Rattle.pua_texts.proofs.States.{shown}
use Rattle.pua_texts.proofs.TogetherList.{some_listed}
use Rattle.pua_texts.proofs.together_list.begin_list.Goals as goal

pub returns : goal.returns
returns g c = if_ok c.new-2.result (λ list is table joint.
    let t : Tree = g.T.FileTree.content c.args.tree.now in
    let named = named_by c.args.members.now in
    let one = c.in-Some.joint.one.now in
    let lasting = subst (λ (o : Option Joined). IfSome o (λ j. IsLasting t table j.one.now j.list.now)) c.in-Some.is joint.lasting in
    let told = ap (λ (s : EndingsState). lines_text s [] c.in_ok-lines.lines.items) c.plain-2.ensures ∙
    c.in_ok-lines.ensures t (shown_lasting t table one)
    (subst (λ rows. AreEverTold t [] rows (shown_lasting t table one) []) (sym c.as_slice.ensures.value) lasting.rows) in
    some_listed c.args.rules table t named list c.of-head-2.result (string_bytes c.push_bounds.new.text) (string_bytes c.new-files.result)
    (map shown c.in_ok-veils.field-0.items) c.in_ok-lines.lines.items c.plain-2.result one is c.of-head-2.ensures c.new-files.ensures.bytes
    (c.in_ok-push_bounds.ensures
    ∙ (λ j. c.in_ok-text.ensures j ++ bound_lines c.args.rules (Ever (lasting.execs j)) [] one))
    c.in_ok-veils.ensures.state told (sym joint.is ∙ ap (option_map (λ (joint : Joined). joint.one.now)) c.in-Some.is))
    c.new-2.ensures
