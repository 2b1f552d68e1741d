-- Reasons, facts and answers as the code tells them.
use Rattle.std.specs.Prelude.{map, List, [], ◌∷◌, Option, Some, None, option_map, Result, Ok, Err}
use Rattle.pua_calls.specs.Promises.{lacking}
use Rattle.pua_script.specs.Decide as decide
use Rattle.pua_script.specs.Decide.{Outcome}
use Rattle.pua_why.specs.declared.told.Side.{Side}
use Rattle.pua_why.specs.declared.told.Side.TheVariants.{Sole, Old, New}
use Rattle.pua_why.specs.declared.told.Fault.{Fault}
use Rattle.pua_why.specs.declared.told.Fault.TheVariants.{Ends, LacksPromises, LacksPromise, BadTarget, BadPath, NoRoot, Uncovered}
use Rattle.pua_why.specs.declared.told.Fault.TheVariants.{LacksLetters, Unfit, Inside, UnknownPromise, AsksPromises, IsLocked, UnknownLetter}
use Rattle.pua_why.specs.declared.told.Fault.TheVariants.{AsksLetters, NoPlaceLeft, NumberTaken, NoProcessLeft, NoRoom}
use Rattle.pua_why.specs.declared.told.Fault.TheVariants.{WrongFile}
use Rattle.pua_why.specs.declared.told.FileFault.{FileFault}
use Rattle.pua_why.specs.declared.told.FileFault.TheVariants.{NotOpen, OpenNoDirectory, NotSent, MayNotSend, SendsDirectory}
use Rattle.pua_why.specs.declared.told.Reason.{Reason}
use Rattle.pua_why.specs.declared.told.Reason.TheVariants.{NeverMade, Ended, Refused, Granted}
use Rattle.pua_why.specs.declared.told.Fact.{Fact}
use Rattle.pua_why.specs.declared.told.Fact.TheVariants.{Opened, Needs, Follows, Names, Under}
use Rattle.pua_why.specs.declared.opened.ToldAnswer.{ToldAnswer}
use Rattle.pua_why.specs.Reasons as reasons
use Rattle.pua_why.specs.Facts as facts
use Rattle.pua_why.specs.Openings as openings

abbrev pub side_seen : Side → decide.Side
side_seen Sole = decide.Sole
side_seen Old = decide.Old
side_seen New = decide.New

abbrev pub file_fault_seen : FileFault → reasons.FileFault
file_fault_seen (NotOpen number) = reasons.NotOpen number
file_fault_seen (OpenNoDirectory number) = reasons.OpenNoDirectory number
file_fault_seen (NotSent from theirs) = reasons.NotSent from theirs
file_fault_seen (MayNotSend from) = reasons.MayNotSend from
file_fault_seen (SendsDirectory from theirs) = reasons.SendsDirectory from theirs

-- what is held and the sets are told, and what of each set is not held is meant
abbrev pub fault_seen : Fault → reasons.Fault
fault_seen Ends = reasons.Ends
fault_seen (LacksPromises error held sets) = reasons.LacksPromises error (map (lacking held) sets.now)
fault_seen (LacksPromise error lacks) = reasons.LacksPromises error (lacks ∷ [])
fault_seen (BadTarget fault) = reasons.BadTarget fault
fault_seen (BadPath side fault) = reasons.BadPath (side_seen side) fault
fault_seen (NoRoot side) = reasons.NoRoot (side_seen side)
fault_seen (Uncovered side object) = reasons.Uncovered (side_seen side) object
fault_seen (LacksLetters side place given lacks) = reasons.LacksLetters (side_seen side) place given lacks
fault_seen (Unfit side object misfit) = reasons.Unfit (side_seen side) object misfit
fault_seen (Inside old new) = reasons.Inside old new
fault_seen (UnknownPromise of_exec) = reasons.UnknownPromise of_exec
fault_seen (AsksPromises of_exec lacks) = reasons.AsksPromises of_exec lacks
fault_seen IsLocked = reasons.IsLocked
fault_seen UnknownLetter = reasons.UnknownLetter
fault_seen (AsksLetters place given lacks) = reasons.AsksLetters place given lacks
fault_seen NoPlaceLeft = reasons.NoPlaceLeft
fault_seen (NumberTaken n) = reasons.NumberTaken n
fault_seen NoProcessLeft = reasons.NoProcessLeft
fault_seen NoRoom = reasons.NoRoom
fault_seen (WrongFile fault) = reasons.WrongFile (file_fault_seen fault)

abbrev pub reason_seen : Reason → reasons.Reason
reason_seen NeverMade = reasons.NeverMade
reason_seen Ended = reasons.Ended
reason_seen (Refused fault) = reasons.Refused (fault_seen fault)
reason_seen Granted = reasons.Granted

abbrev pub told_seen : ToldAnswer → openings.ToldAnswer
told_seen told = record { answer = told.answer; opener = option_map (λ promise. promise.now) told.opener }

abbrev pub line_seen : Option ToldAnswer → Option openings.ToldAnswer
line_seen told = option_map told_seen told

abbrev pub fact_seen : Fact → facts.Fact
fact_seen (Opened promise) = facts.Opened promise
fact_seen (Needs set) = facts.Needs set
fact_seen (Follows side spot) = facts.Follows (side_seen side) spot
fact_seen (Names side object) = facts.Names (side_seen side) object
fact_seen (Under side over) = facts.Under (side_seen side) over

-- further checks of what was found
abbrev pub on_found : {X : Type 0} → Result X Fault → (X → Outcome reasons.Fault) → Outcome reasons.Fault
on_found (Ok x) further = further x
on_found (Err fault) further = Err (fault_seen fault)

-- further facts of what a path named, if it named something
abbrev pub on_named_fact : {X : Type 0} → Option X → (X → List facts.Fact) → List facts.Fact
on_named_fact (Some x) further = further x
on_named_fact None further = []
