-- What the writing of a whole text leaves.
use Rattle.std.specs.Prelude.{◌≡◌, ℕ, List, Option, Result, Ok, Err}
use Rattle.pua_io.specs.Sinks.{Adds, AddsFront, HasFailed}
use Rattle.pua_texts.specs.declared.fault.TextFault.{TextFault}
use Rattle.pua_texts.specs.declared.fault.TextFault.TheVariants.{OutOfMemory, Write}

-- why a text was not told, or not whole: memory was refused before it, or a put failed after a front of it
abbrev pub IsUntold : List ℕ → TextFault → Option (List ℕ) → Option (List ℕ) → ℕ → ℕ → Type 0
IsUntold text OutOfMemory old new before after = new ≡ old
IsUntold text Write old new before after = AddsFront text old new × HasFailed before after

-- what the telling of a text leaves
abbrev pub Tells : List ℕ → Result (Unit {0}) TextFault → Option (List ℕ) → Option (List ℕ) → ℕ → ℕ → Type 0
Tells text (Ok done) old new before after = Adds text old new × (after ≡ before)
Tells text (Err fault) old new before after = IsUntold text fault old new before after

-- the same, of a sink of which this is known
abbrev pub TellsTo : {A : Type 0} → (A → Option (List ℕ)) → (A → ℕ) → List ℕ → Result (Unit {0}) TextFault → A → A → Type 0
TellsTo written failed text r a b = Tells text r (written a) (written b) (failed a) (failed b)
