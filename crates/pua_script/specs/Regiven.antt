-- Notes: a request that is given other arguments.
use Rattle.std.specs.Prelude.{ℕ, Option}
use Rattle.pua_script.specs.Requests.{Asked}
use Rattle.pua_script.specs.declared.request.Given.{Given}
use Rattle.pua_script.specs.declared.request.Action.{Action}
use Rattle.pua_script.specs.declared.request.Action.TheVariants.{Pledge, Unveil}

-- a pledge with other arguments; any other request is as it was
abbrev pub action_with_lists : Given → Given → Action → Action
action_with_lists promises execpromises (Pledge p e) = Pledge promises execpromises
action_with_lists promises execpromises action = action

abbrev pub with_lists : Given → Given → Asked → Asked
with_lists promises execpromises ask = record { process = ask.process; action = action_with_lists promises execpromises ask.action }

-- an unveil of a path with other permissions; any other request is as it was
abbrev pub action_with_perms : Option ℕ → Action → Action
action_with_perms perms (Unveil path other) = Unveil path perms
action_with_perms perms action = action

abbrev pub with_perms : Option ℕ → Asked → Asked
with_perms perms ask = record { process = ask.process; action = action_with_perms perms ask.action }
