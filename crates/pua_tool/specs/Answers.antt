-- What a call that writes a text promises, whole: the one clause of each of them.
--
-- `answer` is what the definitions make of the bytes that the call is given: the text, or the first fault. `result` is what
-- the call answers. `old` and `new` are the bytes that the sink has taken before and after, as far as they are known;
-- `before` and `after` count its puts that failed.
use Rattle.std.specs.Prelude.{◌≡◌, ◌≢◌, ℕ, List, Option, Result, Ok, Err}
use Rattle.pua_io.specs.Sinks.{Adds, AddsFront, HasFailed}
use Rattle.pua_tool.specs.declared.fault.ToolFault.{ToolFault}
use Rattle.pua_tool.specs.declared.fault.ToolFault.TheVariants.{OutOfMemory}
use Rattle.pua_tool.specs.declared.fault.WriteFault.{WriteFault}
use Rattle.pua_tool.specs.declared.fault.WriteFault.TheVariants.{NoText, Put}

-- after Ok
pub record IsAnswered (answer : Result (List ℕ) ToolFault) (old new : Option (List ℕ)) (before after : ℕ) : Type 0 where
  -- there is a text,
  pub text : List ℕ
  pub is : answer ≡ Ok text
  -- all of it was written behind the bytes that were there, and nothing else,
  pub adds : Adds text old new
  -- and no put failed
  pub unfailed : after ≡ before

-- after an error
abbrev pub IsUnanswered : Result (List ℕ) ToolFault → WriteFault → Option (List ℕ) → Option (List ℕ) → ℕ → ℕ → Type 0
-- this is the first fault, but for `OutOfMemory`: there is no text, and nothing was written
IsUnanswered answer (NoText fault) old new before after = (fault ≢ OutOfMemory → answer ≡ Err fault) × (new ≡ old)
-- there is a text, a front of it was written behind the bytes that were there, and a put failed in this call
IsUnanswered answer Put old new before after = (text : List ℕ) × (answer ≡ Ok text) × AddsFront text old new × HasFailed before after

abbrev pub Answers : Result (List ℕ) ToolFault → Result (Unit {0}) WriteFault → Option (List ℕ) → Option (List ℕ) → ℕ → ℕ → Type 0
Answers answer (Ok done) old new before after = IsAnswered answer old new before after
Answers answer (Err fault) old new before after = IsUnanswered answer fault old new before after

-- the same, of a sink of which this is known
abbrev pub AnswersTo : {A : Type 0} → (A → Option (List ℕ)) → (A → ℕ) → Result (List ℕ) ToolFault → Result (Unit {0}) WriteFault → A → A →
    Type 0
AnswersTo written failed answer result a b = Answers answer result (written a) (written b) (failed a) (failed b)
