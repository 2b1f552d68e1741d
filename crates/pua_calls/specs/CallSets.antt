-- Sets of calls as numbers, a bit for each call.
use Rattle.std.specs.Prelude.{ℕ, ◌-◌, ◌==◌, Bool, true, false, not, List, filter}
use Rattle.std.specs.Int.{bit_at}
use Rattle.pua_path.specs.declared.found.Last.{Last}
use Rattle.pua_path.specs.declared.found.Last.TheVariants.{Followed, Kept}
use Rattle.pua_calls.specs.Calls.{calls, call_number, last_of}
use Rattle.pua_calls.specs.declared.call.Call.{Call}

-- calls are counted from one, and bits from zero
abbrev pub bit_of : Call → ℕ
bit_of call = call_number call - 1

abbrev pub has : ℕ → Call → Bool
has set call = bit_at set (bit_of call) == 1

-- the calls of a set, in the order of their numbers
abbrev pub calls_in : ℕ → List Call
calls_in set = filter (has set) calls

abbrev pub is_kept : Last → Bool
is_kept Kept = true
is_kept Followed = false

-- whether one is the other
abbrev pub is_last : Last → Last → Bool
is_last Kept last = is_kept last
is_last Followed last = not (is_kept last)

-- a link that its path's last part names is what the call is on
abbrev pub keeps_link : Call → Bool
keeps_link call = is_kept (last_of call)
