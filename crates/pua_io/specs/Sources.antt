-- What a whole reading takes from a source.
use Rattle.std.specs.Prelude.{ℕ, ◌<◌, ◌⊎◌, List, length, Option, IfSome}
use Rattle.pua_io.specs.Sinks.{HasFailed}
use Rattle.pua_io.specs.declared.source.TheConstants.{MOST_INPUT_BYTES}

-- a read failed, or more bytes were left than an input may have, where it is known what was left
abbrev pub CantBeRead : Option (List ℕ) → ℕ → ℕ → Type 0
CantBeRead left old new = IfSome left (λ bytes. HasFailed old new ⊎ (MOST_INPUT_BYTES < length bytes))
