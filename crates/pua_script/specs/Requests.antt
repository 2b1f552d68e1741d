-- A line of a script, as a value.
use Rattle.std.specs.Prelude.{ℕ, ◌+◌, Bool, true, false, not, ◌&&◌, ◌||◌, ◌==◌, List, nat_le, Option, Some, None, is_some}
use Rattle.pua_tree.specs.Names.{has_byte}
use Rattle.pua_script.specs.Limits.{most_descriptor, most_number}
use Rattle.pua_calls.specs.Promises.{reading, writing}
use Rattle.pua_calls.specs.declared.call.Call.{Call}
use Rattle.pua_calls.specs.declared.call.Call.TheVariants as call
use Rattle.pua_script.specs.declared.request.Action.{Action}
use Rattle.pua_script.specs.declared.request.Action.TheVariants.{OnPath, Symlink, Rename, Link, Unveil, Fork, Hold, Close, Fchdir, Take, Chroot}
use Rattle.pua_script.specs.declared.request.Action.TheVariants.{Comment}

-- the number of a process, and what it asks for
pub record Asked : Type 0 where
  pub process : ℕ
  pub action : Action

-- a number that a process may have
abbrev pub is_process_number : ℕ → Bool
is_process_number n = nat_le 1 n && nat_le n most_number

-- and a descriptor
abbrev pub is_descriptor : ℕ → Bool
is_descriptor n = nat_le n most_descriptor

-- bytes without NUL
abbrev pub has_no_nul : List ℕ → Bool
has_no_nul text = not (has_byte 0 text)

abbrev pub is_symlink : Call → Bool
is_symlink call.Symlink = true
is_symlink _ = false

-- the letters for which a call opens what its path names, if it is one of the three that open and make nothing
abbrev pub letters_opened : Call → Option ℕ
letters_opened call.OpenRead = Some reading
letters_opened call.OpenWrite = Some writing
letters_opened call.OpenBoth = Some (reading + writing)
letters_opened _ = None

abbrev pub is_open : Call → Bool
is_open call = is_some (letters_opened call)

-- an action that a process can ask for by a script: no NUL in a path, and symlink only with its target
abbrev pub is_askable : Action → Bool
is_askable (OnPath call path) = not (is_symlink call) && has_no_nul path
is_askable (Symlink target path) = has_no_nul target && has_no_nul path
is_askable (Rename old new) = has_no_nul old && has_no_nul new
is_askable (Link old new) = has_no_nul old && has_no_nul new
is_askable (Unveil path perms) = has_no_nul path
is_askable (Fork new) = is_process_number new
is_askable (Hold number call path) = is_descriptor number && (is_open call && has_no_nul path)
is_askable (Close number) = is_descriptor number
is_askable (Fchdir number) = is_descriptor number
is_askable (Chroot path) = has_no_nul path
is_askable (Take number from theirs) = is_descriptor number && (is_process_number from && is_descriptor theirs)
is_askable Comment = false
is_askable _ = true

-- a line on which nobody asks for anything: there is never a process 0
abbrev pub comment : Asked
comment = record { process = 0; action = Comment }

abbrev pub says_nothing : Action → Bool
says_nothing Comment = true
says_nothing _ = false

abbrev pub is_comment : Asked → Bool
is_comment ask = ask.process == 0 && says_nothing ask.action

-- a comment, or what a process asks for
abbrev pub is_asked : Asked → Bool
is_asked ask = is_comment ask || (is_process_number ask.process && is_askable ask.action)
