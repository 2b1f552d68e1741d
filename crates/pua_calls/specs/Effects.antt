-- What a call does where it is allowed: whether that makes a name or takes one away.
use Rattle.std.specs.Prelude.{Bool, true, false, ◌||◌}
use Rattle.pua_calls.specs.declared.effect.Effect.{Effect}
use Rattle.pua_calls.specs.declared.effect.Effect.TheVariants.{Makes, Removes}

abbrev pub makes : Effect → Bool
makes (Makes kind) = true
makes _ = false

abbrev pub removes : Effect → Bool
removes Removes = true
removes _ = false

abbrev pub edits : Effect → Bool
edits effect = makes effect || removes effect
