use Rattle.pua_ever.proofs.Common.{◌≡◌, Bool, true, false, refl, sym, ap, ◌∙◌, ◌&&◌, ◌||◌, list_any, List, Some, if◌then◌else◌, has, Call}
use Rattle.pua_ever.proofs.Common.{Cover, is_allowed_under}
use Rattle.pua_tree.specs.declared.node.Kind.TheVariants.{Prog}
use Rattle.pua_policy.specs.Verdict.{Is, IsProg}
use Rattle.pua_ever.proofs.MadeKinds.{start_covers}
use Rattle.pua_ever.specs.Ever.{is_exec_call, may_start, named_covers, starts_under, turning_calls}
use Rattle.pua_ever.specs.Prospects.{is_startable}
use Rattle.pua_ever.proofs.prospects.Prospects.on_thing.Goals as goal

pub returns-then-not-is_startable : goal.returns-then-not-is_startable
returns-then-not-is_startable c = λ t on kind found finds sees call.
    let table = c.args.table.now in
    let h = c.args.process.now in
    let covers : List Cover = named_covers t table h on (Some kind) c.args.item.now.cover in
    let stays : may_start kind ≡ false =
    sym (ap is_startable sees) ∙ sym c.is_startable.ensures ∙ c.if-not-is_startable.true in
    let started : Bool =
    (c.args.turned || list_any (is_allowed_under table h covers (Is kind)) turning_calls) && starts_under table h covers call in
    c.on_seen-calls.ensures t on kind found finds sees call
    ∙ (λ i. if sym stays i then (is_allowed_under table h covers (Is kind) call || started)
    else is_allowed_under table h covers (Is kind) call)

pub returns : goal.returns
returns c = λ t on kind found finds sees call.
    let table = c.args.table.now in
    let h = c.args.process.now in
    let covers : List Cover = named_covers t table h on (Some kind) c.args.item.now.cover in
    let starts : may_start kind ≡ true =
    sym (ap is_startable sees) ∙ sym c.is_startable.ensures ∙ c.if-not-is_startable.false in
    let as_file : (x : Call) → has c.on_seen-calls.result x ≡ is_allowed_under table h covers (Is kind) x =
    λ x. c.on_seen-calls.ensures t on kind found finds sees x in
    let as_program : has c.on_seen-as_program.result call ≡ is_allowed_under table h covers IsProg call =
    c.on_seen-as_program.ensures t on Prog found finds refl call
    ∙ ap (λ ks. is_allowed_under table h ks IsProg call) (start_covers t table h on c.args.item.now.cover kind starts) in
    c.on_file.ensures call
    ∙ (λ i. as_file call i || ((c.args.turned || list_any (λ x. as_file x i) turning_calls) && (is_exec_call call && as_program i)))
    ∙ (λ i. if sym starts i then (is_allowed_under table h covers (Is kind) call
    || ((c.args.turned || list_any (is_allowed_under table h covers (Is kind)) turning_calls) && starts_under table h covers call))
    else is_allowed_under table h covers (Is kind) call)
