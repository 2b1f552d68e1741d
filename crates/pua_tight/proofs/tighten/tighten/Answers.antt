use Rattle.std.proofs.Common.{◌≡◌, ◌∙◌, ap}
use Rattle.std.proofs.lemmas.Result.{IfOk-weaker}
use Rattle.pua_tight.specs.Left.{lines_by}
use Rattle.pua_tight.specs.Trials.{trials_from}
use Rattle.pua_tight.specs.Tight.{asked_in}
use Rattle.pua_tight.proofs.WithoutSeveral.{to_try}
use Rattle.pua_tight.proofs.Trying.{tightens_all}
use Rattle.pua_tight.proofs.tighten.tighten.Goals as goal

pub returns : goal.returns
returns c =
    let table = c.args.wanted.now.table.now in
    let t = c.args.wanted.now.tree in
    let answers = c.args.wanted.now.answers.items in
    let trials = c.as_slice-4.result.now in
    let are : trials ≡ trials_from 0 (lines_by (asked_in table c.args.requests.now.items) c.args.requests.now.items answers) =
    c.as_slice-4.ensures.value ∙ c.in_ok-trials.ensures
    ∙ (λ j. trials_from 0 (lines_by ((c.asked_in-asked.ensures ∙ ap (asked_in table) c.as_slice.ensures.value) j) (c.as_slice-2.ensures.value j)
    (c.as_slice-3.ensures.value j))) in
    IfOk-weaker c.try_all.result _ _ (λ x done told.
    tightens_all table t answers trials c.args.requests.now.items c.try_all.new.requests.items told are
    (done (to_try table t answers trials c.args.requests.now.items told are))) c.try_all.ensures
