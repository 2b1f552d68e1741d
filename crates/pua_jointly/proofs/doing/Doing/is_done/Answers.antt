use Rattle.pua_jointly.proofs.Common.{◌≡◌, ◌∙◌, ◌&&◌, ◌||◌, ap, Bool, Call, empty_tree, false, refl, sym, true}
use Rattle.std.specs.List.{list_any}
use Rattle.pua_calls.specs.declared.call.Call.TheVariants as call
use Rattle.pua_policy.specs.Verdict.{IsFile, IsMissing}
use Rattle.pua_ever.specs.Ever.{is_made_by, turning_calls}
use Rattle.pua_ever.specs.EverLines.{new_of}
use Rattle.pua_jointly.specs.Jointly.{turning_by}
use Rattle.pua_jointly.specs.JointCovers.{does}
use Rattle.pua_jointly.proofs.doing.Doing.is_done.Goals as goal

-- one of the calls that count
turns_by : (sends : Bool) (passes : Call → Bool) → ((sends && passes call.OpenRead) || list_any passes turning_calls) ≡ list_any passes (turning_by sends)
turns_by true passes = refl
turns_by false passes = refl

pub returns-in-Making : goal.returns-in-Making
returns-in-Making c =
    c.is_made_by.ensures
    ∙ (λ z. is_made_by (λ call. c.allowed.ensures empty_tree IsMissing refl call z) (new_of c.in-Making.made))
    ∙ ap (λ doing. does c.args.table.now c.args.process.now doing c.args.cover) (sym c.in-Making.is)

pub returns-in-Turning : goal.returns-in-Turning
returns-in-Turning c =
    let sends : Bool = c.in-Turning.sends in
    c.turns.ensures
    ∙ (λ z. (sends && c.allowed-in-Turning.ensures empty_tree IsFile refl call.OpenRead z)
    || list_any (λ call. c.allowed-in-Turning.ensures empty_tree IsFile refl call z) turning_calls)
    ∙ turns_by sends _
    ∙ ap (λ doing. does c.args.table.now c.args.process.now doing c.args.cover) (sym c.in-Turning.is)
