-- When two reasons are the same: what a path names may be another, but it lacks the same for the same cause.
use Rattle.std.specs.Prelude.{ℕ, Bool, true, false, List, [], ◌∷◌}
use Rattle.pua_path.specs.declared.traced.Stop.TheVariants.{NoEntry, NoDirectory, LinkBeyond}
use Rattle.pua_path.specs.declared.traced.PathTextFault.{PathTextFault}
use Rattle.pua_path.specs.declared.traced.PathTextFault.TheVariants.{EmptyText, LongText, LongComponent, NulInText}
use Rattle.pua_path.specs.declared.traced.PathFault.{PathFault}
use Rattle.pua_path.specs.declared.traced.PathFault.TheVariants.{InText, NoStart, Stops}
use Rattle.pua_policy.specs.declared.place.Place.{Place}
use Rattle.pua_policy.specs.declared.place.Place.TheVariants.{Dir, Slot}
use Rattle.pua_script.specs.Decide.{Side, Sole, Old, New}
use Rattle.pua_calls.specs.declared.fits.Misfit.{Misfit}
use Rattle.pua_calls.specs.declared.fits.Misfit.TheVariants.{Missing, Exists, IsDirectory, IsNoFile, IsNoDirectory, IsNoLink}
use Rattle.pua_calls.specs.declared.fits.Misfit.TheVariants.{IsNoProgram, IsNotEmpty, ByDot, ByDotDot, ByNothing, IsSocket, IsNoSocket, InUse}
use Rattle.pua_calls.specs.declared.fits.Misfit.TheVariants.{IsMountPoint, IsElsewhere}
use Rattle.pua_why.specs.Reasons.{Fault, Ends, LacksPromises, BadTarget, BadPath, NoRoot, Uncovered, LacksLetters, Unfit, Inside}
use Rattle.pua_why.specs.Reasons.{UnknownPromise, AsksPromises, IsLocked, UnknownLetter, AsksLetters, NoPlaceLeft, NumberTaken, NoProcessLeft, NoRoom}
use Rattle.pua_why.specs.Reasons.{WrongFile, FileFault, NotOpen, OpenNoDirectory, NotSent, MayNotSend, SendsDirectory}
use Rattle.pua_why.specs.Reasons.{Reason, NeverMade, Ended, Refused, Granted}

abbrev pub place_key : Place → List ℕ
place_key (Dir dir) = 0 ∷ dir ∷ []
place_key (Slot dir name) = 1 ∷ dir ∷ name

abbrev pub side_key : Side → ℕ
side_key Sole = 0
side_key Old = 1
side_key New = 2

abbrev pub text_key : PathTextFault → ℕ
text_key EmptyText = 0
text_key LongText = 1
text_key LongComponent = 2
text_key NulInText = 3

abbrev pub path_key : PathFault → ℕ
path_key (InText fault) = text_key fault
path_key NoStart = 4
path_key (Stops (NoEntry spot)) = 5
path_key (Stops (NoDirectory spot)) = 6
path_key (Stops (LinkBeyond spot)) = 7

-- what is missing, or is no directory, has one key, whether the path stops there or ends there: both have the same words
abbrev pub misfit_group : Misfit → ℕ
misfit_group Missing = 3
misfit_group Exists = 6
misfit_group IsDirectory = 6
misfit_group IsNoFile = 6
misfit_group IsNoDirectory = 3
misfit_group IsNoLink = 6
misfit_group IsNoProgram = 6
misfit_group IsNotEmpty = 6
misfit_group ByDot = 6
misfit_group ByDotDot = 6
misfit_group ByNothing = 6
misfit_group IsSocket = 6
misfit_group IsNoSocket = 6
misfit_group InUse = 6
misfit_group IsMountPoint = 6
misfit_group IsElsewhere = 6

abbrev pub misfit_key : Misfit → ℕ
misfit_key Missing = 5
misfit_key Exists = 1
misfit_key IsDirectory = 2
misfit_key IsNoFile = 3
misfit_key IsNoDirectory = 6
misfit_key IsNoLink = 5
misfit_key IsNoProgram = 6
misfit_key IsNotEmpty = 7
misfit_key ByDot = 8
misfit_key ByDotDot = 9
misfit_key ByNothing = 10
misfit_key IsNoSocket = 11
misfit_key InUse = 12
misfit_key IsSocket = 13
misfit_key IsMountPoint = 14
misfit_key IsElsewhere = 15

abbrev pub exec_key : Bool → ℕ
exec_key false = 0
exec_key true = 1

abbrev pub file_key : FileFault → List ℕ
file_key (NotOpen number) = 0 ∷ number ∷ []
file_key (OpenNoDirectory number) = 1 ∷ number ∷ []
file_key (NotSent from theirs) = 2 ∷ from ∷ theirs ∷ []
file_key (MayNotSend from) = 3 ∷ from ∷ []
file_key (SendsDirectory from theirs) = 4 ∷ from ∷ theirs ∷ []

abbrev pub fault_key : Fault → List ℕ
fault_key Ends = 0 ∷ []
fault_key (LacksPromises error sets) = 1 ∷ sets
fault_key (BadTarget fault) = 2 ∷ text_key fault ∷ []
fault_key (BadPath side fault) = 3 ∷ side_key side ∷ path_key fault ∷ []
fault_key (NoRoot side) = 3 ∷ side_key side ∷ 8 ∷ []
fault_key (Uncovered side object) = 4 ∷ side_key side ∷ []
fault_key (LacksLetters side place given lacks) = 5 ∷ side_key side ∷ given ∷ lacks ∷ place_key place
fault_key (Unfit side object misfit) = misfit_group misfit ∷ side_key side ∷ misfit_key misfit ∷ []
fault_key (Inside old new) = 7 ∷ []
fault_key (UnknownPromise of_exec) = 8 ∷ exec_key of_exec ∷ []
fault_key (AsksPromises of_exec lacks) = 9 ∷ exec_key of_exec ∷ lacks ∷ []
fault_key IsLocked = 10 ∷ []
fault_key UnknownLetter = 11 ∷ []
fault_key (AsksLetters place given lacks) = 12 ∷ given ∷ lacks ∷ place_key place
fault_key NoPlaceLeft = 13 ∷ []
fault_key (NumberTaken n) = 14 ∷ n ∷ []
fault_key NoProcessLeft = 15 ∷ []
fault_key NoRoom = 16 ∷ []
fault_key (WrongFile fault) = 17 ∷ file_key fault

abbrev pub reason_key : Reason → List ℕ
reason_key NeverMade = 0 ∷ []
reason_key Ended = 1 ∷ []
reason_key (Refused fault) = 2 ∷ fault_key fault
reason_key Granted = 3 ∷ []
