-- Where no plan was laid, none comes.
use Rattle.std.proofs.Common.{ℕ, List, refl}
use Rattle.pua_calls.specs.Calls.{CallTable}
use Rattle.pua_calls.specs.declared.call.Call.{Call}
use Rattle.pua_calls.specs.declared.rules.Rules.{Rules}
use Rattle.pua_script.specs.Replay.{World}
use Rattle.pua_how.specs.Steps.{NoneComes, nothing_laid}
use Rattle.pua_how.specs.declared.target.Target.{Target}

pub nothing_comes : (rules : Rules) (table : CallTable) (process : ℕ) (call : Call) (things : List Target) (w : World) →
    NoneComes rules table process call things w nothing_laid
nothing_comes rules table process call things w = refl
