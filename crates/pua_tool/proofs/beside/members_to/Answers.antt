use Rattle.pua_tool.proofs.Common.{◌∙◌, Ok, List, ap, sym, err_from_is_err_and, as_replayed}
use Rattle.pua_texts.specs.Members.{named_by}
use Rattle.pua_texts.specs.declared.members.Member.{Member}
use Rattle.pua_tool.specs.BesideTexts.{IsBehind, IsBesideAfter, IsBesideOf}
use Rattle.pua_tool.specs.TogetherTexts.{all_made, numbers_in}
use Rattle.pua_tool.proofs.BesideTexts.{behind_err, behind_ok, fault_answered, or_memory}
use Rattle.pua_tool.proofs.beside.members_to.Goals as goal

pub returns-in_err-members : goal.returns-in_err-members
returns-in_err-members g c =
    let done = as_replayed c.args.replay.now in
    let p = err_from_is_err_and c.from_residual.result c.from_residual.ensures.1 in
    rw (p.1, p.2) (fault_answered g.S.Sink.written g.S.Sink.failed (IsBesideAfter c.args.rules done c.args.whose.now c.args.helping.now)
    c.in_err-members.field-0.0 c.args.sink.now
    (λ other. behind_err
    (λ members. IsBehind (λ helpers. IsBesideOf c.args.rules done members helpers) (all_made done.world (numbers_in done.world c.args.helping.now)))
    (all_made done.world (numbers_in done.world c.args.whose.now)) _ (c.in_err-members.ensures.refused other)))

pub returns-in_err-helpers : goal.returns-in_err-helpers
returns-in_err-helpers g c =
    let done = as_replayed c.args.replay.now in
    let p = err_from_is_err_and c.from_residual-in_err-helpers.result c.from_residual-in_err-helpers.ensures.1 in
    rw (p.1, p.2) (fault_answered g.S.Sink.written g.S.Sink.failed (IsBesideAfter c.args.rules done c.args.whose.now c.args.helping.now)
    c.in_err-helpers.field-0.0 c.args.sink.now
    (λ other. behind_ok
    (λ members. IsBehind (λ helpers. IsBesideOf c.args.rules done members helpers) (all_made done.world (numbers_in done.world c.args.helping.now)))
    (all_made done.world (numbers_in done.world c.args.whose.now)) (named_by c.in_ok-members.members.items) _ c.in_ok-members.ensures.made
    (behind_err (λ helpers. IsBesideOf c.args.rules done (named_by c.in_ok-members.members.items) helpers)
    (all_made done.world (numbers_in done.world c.args.helping.now)) _ (c.in_err-helpers.ensures.refused other))))

pub returns : goal.returns
returns g c =
    let done = as_replayed c.args.replay.now in
    let rules = c.args.rules in
    let members = named_by c.as_slice.result.now in
    let helpers = named_by c.as_slice-2.result.now in
    let listed = c.lists_to.ensures in (
      listed.0,
      or_memory (IsBesideOf rules done members helpers) (IsBesideAfter rules done c.args.whose.now c.args.helping.now) listed.0
          (λ of. behind_ok
          (λ members. IsBehind (λ helpers. IsBesideOf rules done members helpers) (all_made done.world (numbers_in done.world c.args.helping.now)))
          (all_made done.world (numbers_in done.world c.args.whose.now)) members listed.0
          (c.in_ok-members.ensures.made ∙ ap (λ (members : List Member). Ok (named_by members)) (sym c.as_slice.ensures.value))
          (behind_ok (λ helpers. IsBesideOf rules done members helpers) (all_made done.world (numbers_in done.world c.args.helping.now)) helpers
          listed.0 (c.in_ok-helpers.ensures.made ∙ ap (λ (members : List Member). Ok (named_by members)) (sym c.as_slice-2.ensures.value)) of))
          listed.1,
      listed.2,
    )
