-- What requests answer and leave, one after another: what each decides is made of the world.
use Rattle.std.specs.Prelude.{ℕ, ◌||◌, ◌&&◌, not, Bool, if◌then◌else◌, List, [], ◌∷◌, length, nat_eq, nat_le, Option, Some, None, Result, Ok, Err, is_some}
use Rattle.std.specs.Map.{lookup}
use Rattle.pua_tree.specs.Tree.{Tree}
use Rattle.pua_tree.specs.Edits.{add, tie, cut, shift}
use Rattle.pua_calls.specs.Calls.{CallTable}
use Rattle.pua_calls.specs.Promises.{holds, sendfd}
use Rattle.pua_policy.specs.States.{ProcessState, state_after, Ended, Filed, new_process, is_ended, after_exec, file_at, held_set}
use Rattle.pua_policy.specs.States.{is_directory, is_pledged}
use Rattle.pua_script.specs.Requests.{Asked, says_nothing}
use Rattle.pua_script.specs.Limits.{most_processes}
use Rattle.pua_script.specs.Decide.{Change, NoChange, AddNode, CutRow, ShiftRow, TieRow, BeginProgram, AddEvent, CopyAs, TakeFile, Decision, decide}
use Rattle.pua_tree.specs.declared.fault.TreeFault.{TreeFault}
use Rattle.pua_path.specs.declared.errno.Errno.{Errno}
use Rattle.pua_path.specs.declared.errno.Errno.TheVariants.{EAGAIN, EBADF, EINVAL, ENOSPC, EPERM}
use Rattle.pua_policy.specs.declared.open_file.OpenFile.{OpenFile}
use Rattle.pua_policy.specs.declared.answer.Refusal.{Refusal}
use Rattle.pua_policy.specs.declared.answer.Refusal.TheVariants as refusals
use Rattle.pua_script.specs.declared.request.Action.{Action}
use Rattle.pua_script.specs.declared.answer.Answer.{Answer}
use Rattle.pua_script.specs.declared.answer.Answer.TheVariants.{Okay, Failed, Killed, Gone}

-- a value put at a number: in the place of the one that is there, or after the others
abbrev pub put_at : {X : Type 0} → ℕ → X → List (ℕ × X) → List (ℕ × X)
put_at n x [] = (n, x) ∷ []
put_at n x (made ∷ more) = if nat_eq n made.0 then (made.0, x) ∷ more else made ∷ put_at n x more

-- a tree, and what all processes ever made keep, with their numbers, in the order in which they were made
pub record World : Type 0 where
  pub tree : Tree
  pub processes : List (ℕ × ProcessState)

-- process 1 alone
abbrev pub new_world : Tree → World
new_world t = record { tree = t; processes = (1, new_process) ∷ [] }

abbrev pub kept_at : World → ℕ → Option ProcessState
kept_at w process = lookup (nat_eq process) w.processes

abbrev pub with_process : World → ℕ → ProcessState → World
with_process w process h = record w { processes = put_at process h w.processes }

-- what a request of a living process does
pub data Effect : Type 0 where
  -- it fails, and nothing changes
  Fails : Errno → Effect
  -- the process ends
  Kills : Effect
  -- it succeeds, and leaves this tree and this state of the process
  Leaves : Tree → ProcessState → Effect
  -- it succeeds, and a new process has the same state
  Copies : ℕ → Effect

-- what an edit leaves; the checks before it leave want of room as its only fault
abbrev pub edit_effect : ProcessState → Result (ℕ × Tree) TreeFault → Effect
edit_effect h (Ok result) = Leaves result.1 h
edit_effect h (Err fault) = Fails ENOSPC

abbrev pub edited_tree : ProcessState → Result Tree TreeFault → Effect
edited_tree h (Ok t) = Leaves t h
edited_tree h (Err fault) = Fails ENOSPC

-- so many processes at most, and no number twice
abbrev pub fork_effect : World → ProcessState → ℕ → Effect
fork_effect w h new = if is_some (kept_at w new) || nat_le most_processes (length w.processes) then Fails EAGAIN else Copies new

-- an open file that is sent: by a process that may send, and no directory where one of both was pledged
abbrev pub sent_file : Bool → ProcessState → OpenFile → Result OpenFile Errno
sent_file pledged sender file =
    if not (holds (held_set sender) sendfd) then Err EPERM
    else (if is_directory file && (pledged || is_pledged sender) then Err EINVAL else Ok file)

-- what is sent to a process, pledged or not, of what the sender has as a descriptor
abbrev pub sent_of : Bool → ProcessState → Option OpenFile → Result OpenFile Errno
sent_of pledged sender None = Err EBADF
sent_of pledged sender (Some file) = sent_file pledged sender file

abbrev pub sent_by : Bool → Option ProcessState → ℕ → Result OpenFile Errno
sent_by pledged None theirs = Err EBADF
sent_by pledged (Some sender) theirs = if is_ended sender then Err EBADF else sent_of pledged sender (file_at sender.files theirs)

-- what another process has comes to stand as a descriptor
abbrev pub take_effect : World → ProcessState → ℕ → Result OpenFile Errno → Effect
take_effect w h number (Ok file) = Leaves w.tree (state_after (Filed number (Some file)) h)
take_effect w h number (Err errno) = Fails errno

-- what a change comes to in a world, whose tree may lack room for it, or its processes
abbrev pub change_effect : World → ProcessState → Change → Effect
change_effect w h NoChange = Leaves w.tree h
change_effect w h (AddNode spot node) = edit_effect h (add w.tree spot.0 spot.1 node)
change_effect w h (CutRow spot) = edit_effect h (cut w.tree spot.0 spot.1)
change_effect w h (ShiftRow old new) = edited_tree h (shift w.tree old.0 old.1 new.0 new.1)
change_effect w h (TieRow spot x) = edited_tree h (tie w.tree spot.0 spot.1 x)
change_effect w h (BeginProgram left) = Leaves w.tree (after_exec left h)
change_effect w h (AddEvent event) = Leaves w.tree (state_after event h)
change_effect w h (CopyAs new) = fork_effect w h new
change_effect w h (TakeFile number from theirs) = take_effect w h number (sent_by (is_pledged h) (kept_at w from) theirs)

-- the effect of a refused request
abbrev pub refusal_effect : Refusal → Effect
refusal_effect (refusals.Failed errno) = Fails errno
refusal_effect refusals.Killed = Kills

-- what a decision comes to
abbrev pub come_of : World → ProcessState → Decision → Effect
come_of w h (Ok change) = change_effect w h change
come_of w h (Err refusal) = refusal_effect refusal

-- what a living process's request does: it is decided, and then a change is made
abbrev pub effect : CallTable → World → ProcessState → Action → Effect
effect table w h action = come_of w h (decide table w.tree h action)

abbrev pub answer_to : Effect → Answer
answer_to (Fails errno) = Failed errno
answer_to Kills = Killed
answer_to (Leaves t h) = Okay
answer_to (Copies new) = Okay

abbrev pub left_by : World → ℕ → ProcessState → Effect → World
left_by w process h (Fails errno) = w
left_by w process h Kills = with_process w process (state_after Ended h)
left_by w process h (Leaves t after) = record { tree = t; processes = put_at process after w.processes }
left_by w process h (Copies new) = with_process w new h

-- the answer to a decision, and the world after it
abbrev pub do_decided : World → ℕ → ProcessState → Decision → Answer × World
do_decided w process h decision = let does : Effect = come_of w h decision in (answer_to does, left_by w process h does)

-- a request's answer and the world after it; a process that ended or was never made is gone
abbrev pub answer_and_world : CallTable → World → Asked → Option ProcessState → Answer × World
answer_and_world table w ask None = (Gone, w)
answer_and_world table w ask (Some h) =
    if is_ended h then (Gone, w) else do_decided w ask.process h (decide table w.tree h ask.action)

abbrev pub apply : CallTable → World → Asked → Answer × World
apply table w ask = answer_and_world table w ask (kept_at w ask.process)

-- the answers to requests, one after another, and the world after all of them
abbrev pub answers_to : CallTable → World → List Asked → List Answer
answers_to table w [] = []
answers_to table w (ask ∷ asks) = let done : Answer × World = apply table w ask in done.0 ∷ answers_to table done.1 asks

-- the answers to lines of which each has one, but for lines on which nobody asks
abbrev pub told : List Asked → List Answer → List (Option Answer)
told (ask ∷ asks) (answer ∷ answers) = (if says_nothing ask.action then None else Some answer) ∷ told asks answers
told asks answers = []

-- what is told of a script's lines
abbrev pub lines_told : CallTable → World → List Asked → List (Option Answer)
lines_told table w asks = told asks (answers_to table w asks)

abbrev pub world_after : CallTable → World → List Asked → World
world_after table w [] = w
world_after table w (ask ∷ asks) = world_after table (apply table w ask).1 asks
