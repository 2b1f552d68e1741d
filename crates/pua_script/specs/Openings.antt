-- What a promise opens by itself, by the rules of OpenBSD's kernel as its manual pages and its sources are known; no kernel was
-- tried. A request that is opened is asked for no promises, and where the opening is past veils for no cover.
use Rattle.std.specs.Prelude.{ℕ, List, [], ◌∷◌, Bool, true, false, not, ◌&&◌, ◌==◌, codes, find, if◌then◌else◌, length, nat_lt, Option}
use Rattle.std.specs.Prelude.{None, unwrap_or, Result, Ok, Err}
use Rattle.std.specs.List.{list_any, starts_with}
use lib.Pointwise.{pointwise}
use Rattle.pua_tree.specs.Names.{components, same_bytes}
use Rattle.pua_path.specs.Paths.{ends_in_slash, is_absolute}
use Rattle.pua_path.specs.declared.errno.Errno.{Errno}
use Rattle.pua_calls.specs.Promises.{holds, no_promises, promises_of}
use Rattle.pua_calls.specs.Calls.{CallTable, about_rules, call_number}
use Rattle.pua_calls.specs.declared.call.Call.{Call}
use Rattle.pua_calls.specs.declared.call.Call.TheVariants.{Stat, OpenRead, OpenWrite, OpenBoth, Create, CreateBoth, Unlink}
use Rattle.pua_policy.specs.States.{ProcessState}
use Rattle.pua_script.specs.Canonical.{canonical}
use Rattle.pua_script.specs.declared.opening.Opening.{Opening as Row}

-- the calls that a promise allows on a path, whatever promises are held beside it
pub record Opening : Type 0 where
  -- the keyword of the promise
  pub promise : List ℕ
  -- the path; with a slash at its end it is each path below
  pub path : List ℕ
  pub calls : List Call
  -- whether the veils are asked as for any path; else none of them hides the file
  pub asks_veils : Bool

abbrev pub opening_seen : Row → Opening
opening_seen row = record { promise = row.promise.now; path = row.path.now; calls = row.calls.now; asks_veils = row.asks_veils }

abbrev pub past_veils : List ℕ → List ℕ → List Call → Opening
past_veils promise path calls = record { promise = promise; path = path; calls = calls; asks_veils = false }

abbrev pub by_veils : List ℕ → List ℕ → List Call → Opening
by_veils promise path calls = record { promise = promise; path = path; calls = calls; asks_veils = true }

abbrev pub opens : List Call
opens = OpenRead ∷ OpenWrite ∷ OpenBoth ∷ []

-- all of them
abbrev pub openings : List Opening
openings = past_veils (codes "dns") (codes "/etc/resolv.conf") (Stat ∷ OpenRead ∷ [])
    ∷ past_veils (codes "dns") (codes "/etc/hosts") (OpenRead ∷ [])
    ∷ past_veils (codes "dns") (codes "/etc/services") (OpenRead ∷ [])
    ∷ past_veils (codes "dns") (codes "/etc/protocols") (OpenRead ∷ [])
    ∷ past_veils (codes "getpw") (codes "/etc/pwd.db") (OpenRead ∷ [])
    ∷ past_veils (codes "getpw") (codes "/etc/group") (OpenRead ∷ [])
    ∷ past_veils (codes "getpw") (codes "/etc/netid") (OpenRead ∷ [])
    ∷ past_veils (codes "getpw") (codes "/var/run/ypbind.lock") (Stat ∷ OpenRead ∷ [])
    ∷ past_veils (codes "getpw") (codes "/var/yp/binding/") (OpenRead ∷ [])
    ∷ past_veils (codes "stdio") (codes "/dev/null") opens
    ∷ past_veils (codes "stdio") (codes "/etc/localtime") (Stat ∷ OpenRead ∷ [])
    ∷ past_veils (codes "stdio") (codes "/usr/share/zoneinfo/") (OpenRead ∷ [])
    ∷ by_veils (codes "tmppath") (codes "/tmp/") (Create ∷ Unlink ∷ CreateBoth ∷ [])
    ∷ by_veils (codes "tty") (codes "/dev/tty") opens
    ∷ []

abbrev pub has_call : Call → List Call → Bool
has_call call calls = list_any (λ other. call_number other == call_number call) calls

-- these names are those of a path; or, below it, they begin with them and are more
abbrev pub are_names : Bool → List (List ℕ) → List (List ℕ) → Bool
are_names false names text = pointwise same_bytes names text
are_names true names text = starts_with same_bytes text names && nat_lt (length names) (length text)

-- an absolute text whose canonical names are those of this path, or where the path ends in a slash are below it
abbrev pub is_opened : List ℕ → List ℕ → Bool
is_opened path text = is_absolute text && are_names (ends_in_slash path) (components path) (canonical text)

-- the promises that words name are among these
abbrev pub holds_named : ℕ → Result ℕ Errno → Bool
holds_named set (Ok wanted) = holds set wanted
holds_named set (Err errno) = false

-- it has the call, and its path is this text
abbrev pub opens_call : Call → List ℕ → Opening → Bool
opens_call call text o = has_call call o.calls && is_opened o.path text

-- and its promise is one of these
abbrev pub is_opening : ℕ → Call → List ℕ → Opening → Bool
is_opening set call text o = opens_call call text o && holds_named set (promises_of o.promise)

-- which opening lets a call of a living process through; one that was never pledged has none
abbrev pub opening_of : CallTable → ProcessState → Call → List ℕ → Option Opening
opening_of table p call text =
    if (about_rules table.whose).has_openings && not p.ended
    then find (is_opening (unwrap_or p.promises no_promises) call text) openings else None
