-- Which requests may have changed a world, by their answers.
use Rattle.std.specs.Prelude.{◌≡◌, ℕ, Bool, true, false}
use Rattle.pua_calls.specs.Calls.{CallTable, effect_of}
use Rattle.pua_calls.specs.declared.effect.Effect.{Effect}
use Rattle.pua_calls.specs.declared.effect.Effect.TheVariants as effect
use Rattle.pua_calls.specs.declared.call.Call.{Call}
use Rattle.pua_script.specs.Replay.{World, apply}
use Rattle.pua_script.specs.Worlds.{is_fork}
use Rattle.pua_script.specs.declared.answer.Answer.{Answer}
use Rattle.pua_script.specs.declared.answer.Answer.TheVariants.{Okay, Killed}
use Rattle.pua_script.specs.declared.request.Action.{Action}
use Rattle.pua_script.specs.declared.request.Action.TheVariants.{OnPath, Uses, Comment}

-- what changes something where it is done
abbrev pub does_change : Effect → Bool
does_change effect.Looks = false
does_change _ = true

abbrev pub call_changes : Call → Bool
call_changes call = does_change (effect_of call)

abbrev pub action_changes : Action → Bool
action_changes (OnPath call path) = call_changes call
action_changes (Uses sets) = false
action_changes Comment = false
action_changes _ = true

-- one that failed changed nothing
abbrev pub has_changed : Action → Answer → Bool
has_changed action Okay = action_changes action
has_changed action Killed = true
has_changed action _ = false

abbrev pub has_forked : Action → Answer → Bool
has_forked action Okay = is_fork action
has_forked action _ = false

-- a request that can't have changed anything leaves each world of the replay as it is, where it is answered so
abbrev pub LeavesAsIs : Action → Answer → Type 0
LeavesAsIs action answer = (table : CallTable) (w : World) (process : ℕ) →
    answer ≡ (apply table w (record { process = process; action = action })).0 →
    (apply table w (record { process = process; action = action })).1 ≡ w
