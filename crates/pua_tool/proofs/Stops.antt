-- What words that ask for no command leave.
use Rattle.pua_tool.proofs.Common.{ℕ, ◌≡◌, ◌≢◌, List, Ok, Err, arith, subst, with_end, Adds, AddsFront}
use Rattle.std.proofs.Common.{◌<◌, length, Option, Result, OnErr, OnOk}
use Rattle.std.specs.Prelude.{string_bytes}
use Rattle.pua_words.specs.Usages.{AsksAbout, IsStop, line_for, usage_line_text}
use Rattle.pua_words.specs.declared.usage.UsageLine.{UsageLine}
use Rattle.pua_words.specs.declared.words.Stop.{Stop}
use Rattle.pua_words.specs.declared.words.Stop.TheVariants as stop
use Rattle.pua_tool.specs.Told.{IsLineTold, Shows, ShowsFront, TellsUsage}
use Rattle.pua_io.specs.Sinks.{HasFailed}
use Rattle.pua_io.specs.declared.sink.PutFault.{PutFault}
use Rattle.pua_tool.specs.declared.status.TheConstants.{DONE, USAGE, DEVICE}

-- the words' line was told
pub told_by_stop : (words : List (List ℕ)) (s : Stop) (a b : Option (List ℕ)) (before after : ℕ) → IsStop words s →
    TellsUsage s a b before after → IsLineTold (with_end (usage_line_text (line_for words))) a b before after
told_by_stop words (stop.Display text) a b before after some told = absurd told
told_by_stop words (stop.Usage of) a b before after same told =
    subst (λ (l : UsageLine). IsLineTold (with_end (usage_line_text l)) a b before after) same told
told_by_stop words stop.OutOfMemory a b before after some told = absurd told

-- a text about the program was written, all of it or a front, and one of the words asks for that

pub shown_by_stop : (words : List (List ℕ)) (s : Stop) (a b : Option (List ℕ)) → IsStop words s → Shows s a b →
    AsksAbout words × ((text : List ℕ) × (0 < length text) × Adds text a b)
shown_by_stop words (stop.Display text) a b asks shows = (asks.0, (string_bytes text, asks.1, shows))
shown_by_stop words (stop.Usage of) a b same shows = absurd shows
shown_by_stop words stop.OutOfMemory a b some shows = absurd shows

pub cut_by_stop : (words : List (List ℕ)) (s : Stop) (a b : Option (List ℕ)) (before after : ℕ) → IsStop words s →
    ShowsFront s a b before after → AsksAbout words × ((text : List ℕ) × AddsFront text a b × HasFailed before after)
cut_by_stop words (stop.Display text) a b before after asks front = (asks.0, (string_bytes text, front.0, front.1))
cut_by_stop words (stop.Usage of) a b before after same front = absurd front
cut_by_stop words stop.OutOfMemory a b before after some front = absurd front

-- after a flush the status of words that are no command is that of a command that was not done
pub not_done : (flushed : Result (Unit {0}) PutFault) (status result : ℕ) → OnOk flushed (result ≡ status) →
    OnErr flushed (status ≡ DONE → result ≡ DEVICE) → result ≡ USAGE → status ≢ DONE
not_done (Ok _) status result kept failed usage done = let a : result ≡ 2 = usage in let b : status ≡ 0 = done in omega (arith, kept, a, b)
not_done (Err _) status result kept failed usage done = let a : result ≡ 2 = usage in let b : result ≡ 3 = failed done in
    omega (arith, a, b)
