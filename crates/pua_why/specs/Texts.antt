-- How reasons and facts are written.
use Rattle.std.specs.Prelude.{ℕ, zero, suc, ◌+◌, Bool, true, false, List, [], ◌∷◌, ◌++◌, map, flat_map, length, ◌==◌, Option, Some, None}
use Rattle.std.specs.Prelude.{codes, decimal, if◌then◌else◌, unwrap_or}
use Rattle.pua_tree.specs.Limits.{most_name}
use Rattle.pua_tree.specs.Names.{same_bytes}
use Rattle.pua_tree.specs.Spelling.{spelling}
use Rattle.pua_tree.specs.Tree.{Tree, Spot, dir_spot, look, target_at}
use Rattle.pua_path.specs.Limits.{most_links, most_path}
use Rattle.pua_path.specs.declared.found.Found.{Found}
use Rattle.pua_path.specs.declared.found.Found.TheVariants.{Whole, Slot}
use Rattle.pua_path.specs.declared.traced.Stop.TheVariants.{NoEntry, NoDirectory, LinkBeyond}
use Rattle.pua_path.specs.declared.traced.PathTextFault.{PathTextFault}
use Rattle.pua_path.specs.declared.traced.PathTextFault.TheVariants.{EmptyText, LongText, LongComponent, NulInText}
use Rattle.pua_path.specs.declared.traced.PathFault.{PathFault}
use Rattle.pua_path.specs.declared.traced.PathFault.TheVariants.{InText, NoStart, Stops}
use Rattle.pua_calls.specs.Promises.{keywords_of, perm_letters}
use Rattle.pua_calls.specs.Calls.{CallTable}
use Rattle.pua_policy.specs.States.{ProcessState, perms_kept}
use Rattle.pua_policy.specs.Limits.{most_places}
use Rattle.pua_policy.specs.Verdict.{object_of, object_word}
use Rattle.pua_policy.specs.declared.place.Place.{Place}
use Rattle.pua_policy.specs.declared.place.Place.TheVariants as place
use Rattle.pua_script.specs.AnswerTexts.{answer_text}
use Rattle.pua_script.specs.Limits.{most_processes}
use Rattle.pua_script.specs.Requests.{Asked, says_nothing}
use Rattle.pua_script.specs.Replay.{World, kept_at, world_after}
use Rattle.pua_policy.specs.declared.reason.Covering.{Covering}
use Rattle.pua_policy.specs.declared.reason.Covering.TheVariants.{InView, NoneOver, By}
use Rattle.pua_script.specs.Decide.{Side, Sole, Old, New}
use Rattle.pua_calls.specs.declared.fits.Misfit.{Misfit}
use Rattle.pua_calls.specs.declared.fits.Misfit.TheVariants.{Missing, Exists, IsDirectory, IsNoFile, IsNoDirectory, IsNoLink}
use Rattle.pua_calls.specs.declared.fits.Misfit.TheVariants.{IsNoProgram, IsNotEmpty, ByDot, ByDotDot, ByNothing, IsSocket, IsNoSocket, InUse}
use Rattle.pua_calls.specs.declared.fits.Misfit.TheVariants.{IsMountPoint, IsElsewhere}
use Rattle.pua_why.specs.Reasons.{Fault, Ends, LacksPromises, BadTarget, BadPath, NoRoot, Uncovered, LacksLetters, Unfit, Inside}
use Rattle.pua_why.specs.Reasons.{UnknownPromise, AsksPromises, IsLocked, UnknownLetter, AsksLetters, NoPlaceLeft, NumberTaken, NoProcessLeft, NoRoom}
use Rattle.pua_why.specs.Reasons.{WrongFile, FileFault, NotOpen, OpenNoDirectory, NotSent, MayNotSend, SendsDirectory}
use Rattle.pua_why.specs.Reasons.{Reason, NeverMade, Ended, Refused, Granted, reason, answer_of}
use Rattle.pua_why.specs.Keys.{reason_key}
use Rattle.pua_why.specs.Since.{Test, since}
use Rattle.pua_why.specs.Facts.{Fact, Opened, Needs, Follows, Names, Under, facts_of}
use Rattle.pua_why.specs.Openings.{opened_by, opener_text}

-- words with something between them
abbrev pub joined_words : List ℕ → List (List ℕ) → List ℕ
joined_words between [] = []
joined_words between (word ∷ []) = word
joined_words between (word ∷ other ∷ more) = word ++ between ++ joined_words between (other ∷ more)

-- `=` is the empty text, as in scripts
abbrev pub or_equals : List ℕ → List ℕ
or_equals [] = codes "="
or_equals (b ∷ more) = b ∷ more

unfoldable pub promises_text : ℕ → List ℕ
promises_text set = or_equals (joined_words (codes ",") (keywords_of set))

abbrev pub letters_text : ℕ → List ℕ
letters_text set = or_equals (perm_letters set)

-- the names that lead to a spot, where those to its directory are these
abbrev pub names_to_spot : Option Spot → (ℕ → List (List ℕ)) → List (List ℕ)
names_to_spot None names = []
names_to_spot (Some spot) names = names spot.0 ++ spot.1 ∷ []

-- the names that lead from the root, which has no spot, to a directory; at most so many
abbrev pub names_to : ℕ → Tree → ℕ → List (List ℕ)
names_to zero t dir = []
names_to (suc n) t dir = names_to_spot (dir_spot t dir) (names_to n t)

-- a slash and a name, for each
abbrev pub slashed_names : List (List ℕ) → List ℕ
slashed_names names = flat_map (λ name. 47 ∷ spelling name) names

abbrev pub path_text : List (List ℕ) → List ℕ
path_text [] = codes "/"
path_text (name ∷ names) = slashed_names (name ∷ names)

-- no directory stands deeper than there are rows
abbrev pub dir_names : Tree → ℕ → List (List ℕ)
dir_names t dir = names_to (length t.rows) t dir

abbrev pub dir_text : Tree → ℕ → List ℕ
dir_text t dir = path_text (dir_names t dir)

abbrev pub spot_text : Tree → Spot → List ℕ
spot_text t spot = path_text (dir_names t spot.0 ++ spot.1 ∷ [])

abbrev pub found_text : Tree → Found → List ℕ
found_text t (Whole dir way) = dir_text t dir
found_text t (Slot dir name x) = spot_text t (dir, name)

abbrev pub place_text : Tree → Place → List ℕ
place_text t (place.Dir dir) = dir_text t dir
place_text t (place.Slot dir name) = spot_text t (dir, name)

abbrev pub side_text : Side → List ℕ
side_text Sole = []
side_text Old = codes "old: "
side_text New = codes "new: "

abbrev pub text_fault_text : PathTextFault → List ℕ
text_fault_text EmptyText = codes "is empty"
text_fault_text LongText = codes "has more than " ++ decimal most_path ++ codes " bytes"
text_fault_text LongComponent = codes "has a component of more than " ++ decimal most_name ++ codes " bytes"
text_fault_text NulInText = codes "has a NUL"

abbrev pub path_fault_text : Tree → PathFault → List ℕ
path_fault_text t (InText fault) = codes "path " ++ text_fault_text fault
path_fault_text t NoStart = codes "working directory is removed"
path_fault_text t (Stops (NoEntry spot)) = spot_text t spot ++ codes " is missing"
path_fault_text t (Stops (NoDirectory spot)) = spot_text t spot ++ codes " is no directory"
path_fault_text t (Stops (LinkBeyond spot)) = spot_text t spot ++ codes " is link " ++ decimal (most_links + 1)

abbrev pub misfit_text : List ℕ → Misfit → List ℕ
misfit_text object Missing = object ++ codes " is missing"
misfit_text object Exists = object ++ codes " exists"
misfit_text object IsDirectory = object ++ codes " is a directory"
misfit_text object IsNoFile = object ++ codes " is a directory"
misfit_text object IsNoDirectory = object ++ codes " is no directory"
misfit_text object IsNoLink = object ++ codes " is no link"
misfit_text object IsNoProgram = object ++ codes " is no program"
misfit_text object IsNotEmpty = object ++ codes " is not empty"
misfit_text object ByDot = codes "path ends in ."
misfit_text object ByDotDot = codes "path ends in .."
misfit_text object ByNothing = codes "path has no component"
misfit_text object IsSocket = object ++ codes " is a socket"
misfit_text object IsNoSocket = object ++ codes " is no socket"
misfit_text object InUse = object ++ codes " exists"
misfit_text object IsMountPoint = object ++ codes " is a mount point"
misfit_text object IsElsewhere = object ++ codes " is on another file system"

abbrev pub veil_text : Tree → Place → ℕ → List ℕ
veil_text t place given = codes "veil " ++ letters_text given ++ codes " on " ++ place_text t place

abbrev pub of_exec_text : Bool → List ℕ
of_exec_text false = []
of_exec_text true = codes " in execpromises"

abbrev pub file_fault_text : FileFault → List ℕ
file_fault_text (NotOpen number) = codes "descriptor " ++ decimal number ++ codes " is closed"
file_fault_text (OpenNoDirectory number) = codes "descriptor " ++ decimal number ++ codes " is no directory"
file_fault_text (NotSent from theirs) = codes "process " ++ decimal from ++ codes " has no descriptor " ++ decimal theirs
file_fault_text (MayNotSend from) = codes "process " ++ decimal from ++ codes " has no sendfd"
file_fault_text (SendsDirectory from theirs) =
    codes "descriptor " ++ decimal theirs ++ codes " of process " ++ decimal from ++ codes " is a directory"

abbrev pub fault_text : Tree → Fault → List ℕ
fault_text t Ends = codes "ended"
fault_text t (LacksPromises error sets) = joined_words (codes ", ") (map (λ set. codes "no " ++ promises_text set) sets)
fault_text t (BadTarget fault) = codes "target " ++ text_fault_text fault
fault_text t (BadPath side fault) = side_text side ++ path_fault_text t fault
fault_text t (NoRoot side) = side_text side ++ codes "root is removed"
fault_text t (Uncovered side object) = side_text side ++ codes "no veil on " ++ found_text t object ++ codes " or above"
fault_text t (LacksLetters side place given lacks) =
    side_text side ++ codes "no " ++ letters_text lacks ++ codes " in " ++ veil_text t place given
fault_text t (Unfit side object misfit) = side_text side ++ misfit_text (found_text t object) misfit
fault_text t (Inside old new) = side_text New ++ found_text t new ++ codes " is inside " ++ found_text t old
fault_text t (UnknownPromise of_exec) = codes "unknown promise" ++ of_exec_text of_exec
fault_text t (AsksPromises of_exec lacks) = codes "no " ++ promises_text lacks ++ of_exec_text of_exec
fault_text t IsLocked = codes "locked"
fault_text t UnknownLetter = codes "unknown letter"
fault_text t (AsksLetters place given lacks) = codes "no " ++ letters_text lacks ++ codes " in " ++ veil_text t place given
fault_text t NoPlaceLeft = decimal most_places ++ codes " places have veils"
fault_text t (NumberTaken n) = codes "process " ++ decimal n ++ codes " exists"
fault_text t NoProcessLeft = decimal most_processes ++ codes " processes were made"
fault_text t NoRoom = codes "tree is full"
fault_text t (WrongFile fault) = file_fault_text fault

-- the words of a reason; what is allowed has none
abbrev pub reason_text : Tree → Reason → List ℕ
reason_text t NeverMade = codes "never made"
reason_text t Ended = codes "ended"
reason_text t (Refused fault) = fault_text t fault
reason_text t Granted = []

-- an answer and the words of its reason
abbrev pub spaced_words : List ℕ → List ℕ
spaced_words [] = []
spaced_words (b ∷ more) = 32 ∷ b ∷ more

abbrev pub answer_words : CallTable → World → Asked → List ℕ
answer_words table w ask = answer_text (answer_of (reason table w ask)) ++ spaced_words (reason_text w.tree (reason table w ask))

-- the same request, by whoever the process was, has a reason with this key
abbrev pub has_key : CallTable → Asked → List ℕ → Test
has_key table ask key w process = same_bytes (reason_key (reason table w (record { process = process; action = ask.action }))) key

-- what is written of a line since which something is so
abbrev pub since_text : Option ℕ → List ℕ
since_text None = []
since_text (Some line) = codes " since line " ++ decimal line

-- since which line a reason is told to be so: what is granted has no words, that a process was never made was so from
-- the start, and since when a tree is full is not told
abbrev pub date_of : Reason → Option ℕ → Option ℕ
date_of Granted line = None
date_of NeverMade line = None
date_of (Refused NoRoom) line = None
date_of reason line = line

-- since which of these requests the same request has the reason that it has behind them
abbrev pub reason_since : CallTable → World → List Asked → Asked → Reason → Option ℕ
reason_since table w asks ask reason = date_of reason (since (has_key table ask (reason_key reason)) table w 1 asks ask.process)

-- since which line a reason is so, and by which promise what is granted was opened
abbrev pub reason_tail : CallTable → World → Asked → Option ℕ → List ℕ
reason_tail table w ask line = since_text line ++ opener_text (opened_by table w ask)

-- an answer after these requests, with its reason, since which of them it is so, and what opened it
abbrev pub answer_why : CallTable → World → List Asked → Asked → List ℕ
answer_why table w asks ask =
    let left : World = world_after table w asks in
    answer_words table left ask ++ reason_tail table left ask (reason_since table w asks ask (reason table left ask))

-- a line, but on which nobody asks
abbrev pub line_said : Asked → List ℕ → List (List ℕ)
line_said ask line = if says_nothing ask.action then [] else line ∷ []

-- a line for each request after the first ones, the next line being line n
abbrev pub why_lines : CallTable → World → List Asked → ℕ → List Asked → List (List ℕ)
why_lines table w done n [] = []
why_lines table w done n (ask ∷ asks) =
    line_said ask (decimal n ++ 32 ∷ answer_why table w done ask) ++ why_lines table w (done ++ ask ∷ []) (suc n) asks

-- a veil has been on a place, with these permissions
abbrev pub has_veil_on : Place → ℕ → Test
has_veil_on place given w process = by (kept_at w process)
  where
    is : Option ℕ → Bool
    is None = false
    is (Some perms) = perms == given

    by : Option ProcessState → Bool
    by None = false
    by (Some h) = is (perms_kept h place)

-- what covers an object, and since which line that veil is on its place
abbrev pub covering_dated : Tree → Option ℕ → Covering → List ℕ
covering_dated t line InView = codes "no veils"
covering_dated t line NoneOver = []
covering_dated t line (By place given) = veil_text t place given ++ since_text line

abbrev pub target_text : Tree → Spot → List ℕ
target_text t spot = spelling (unwrap_or (target_at t (unwrap_or (look t spot.0 spot.1) 0)) [])

abbrev pub fact_dated : Tree → Option ℕ → Fact → List ℕ
fact_dated t line (Opened promise) = codes "opened by " ++ promises_text promise
fact_dated t line (Needs set) = codes "needs " ++ promises_text set
fact_dated t line (Follows side spot) = side_text side ++ codes "link " ++ spot_text t spot ++ codes " to " ++ target_text t spot
fact_dated t line (Names side object) = side_text side ++ codes "names " ++ object_word (object_of t object) ++ 32 ∷ found_text t object
fact_dated t line (Under side over) = side_text side ++ covering_dated t line over

abbrev pub veil_since : CallTable → World → List Asked → Asked → Fact → Option ℕ
veil_since table w asks ask (Under side (By place given)) = since (has_veil_on place given) table w 1 asks ask.process
veil_since table w asks ask _ = None

-- a fact of a request after these ones
abbrev pub fact_text : CallTable → World → List Asked → Asked → Fact → List ℕ
fact_text table w asks ask fact = fact_dated (world_after table w asks).tree (veil_since table w asks ask fact) fact

-- all that decides one request after the others, and its answer
abbrev pub chain : CallTable → World → List Asked → Asked → List (List ℕ)
chain table w asks ask =
    map (fact_text table w asks ask) (facts_of table (world_after table w asks) ask) ++ answer_why table w asks ask ∷ []
