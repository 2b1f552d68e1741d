-- A process and those that it and its members fork from some time on, as requests are served.
use Rattle.std.specs.Prelude.{◌≡◌, ℕ, Bool, true, false, not, ◌&&◌, if◌then◌else◌, List, [], ◌∷◌, ◌==◌, Some}
use Rattle.std.specs.List.{list_any}
use Rattle.pua_calls.specs.Calls.{CallTable}
use Rattle.pua_policy.specs.States.{ProcessState}
use Rattle.pua_calls.specs.declared.call.Call.TheVariants as call
use Rattle.pua_script.specs.Requests.{Asked}
use Rattle.pua_script.specs.Replay.{World, kept_at, apply}
use Rattle.pua_script.specs.declared.request.Action.{Action}
use Rattle.pua_script.specs.declared.request.Action.TheVariants.{OnPath, Fork, Fchdir, Chroot}
use Rattle.pua_script.specs.declared.answer.Answer.{Answer}
use Rattle.pua_script.specs.declared.answer.Answer.TheVariants.{Okay}

-- a family is a list of numbers, the youngest member first
abbrev pub is_member : List ℕ → ℕ → Bool
is_member members process = list_any (λ member. member == process) members

abbrev pub is_okay : Answer → Bool
is_okay Okay = true
is_okay _ = false

abbrev pub is_exec : Action → Bool
is_exec (OnPath call.Exec path) = true
is_exec _ = false

-- a chdir, or an fchdir
abbrev pub is_chdir : Action → Bool
is_chdir (OnPath call.Chdir path) = true
is_chdir (Fchdir number) = true
is_chdir _ = false

abbrev pub is_chroot : Action → Bool
is_chroot (Chroot path) = true
is_chroot _ = false

abbrev pub with_child : Action → List ℕ → List ℕ
with_child (Fork new) members = new ∷ members
with_child _ members = members

-- the family after a request: a process that a member forks belongs to it
abbrev pub family_then : CallTable → World → Asked → List ℕ → List ℕ
family_then table w ask members =
    if is_member members ask.process && is_okay (apply table w ask).0 then with_child ask.action members else members

abbrev pub family : CallTable → World → List Asked → List ℕ → List ℕ
family table w [] members = members
family table w (ask ∷ asks) members = family table (apply table w ask).1 asks (family_then table w ask members)

-- a member did such an action, and was answered ok
abbrev pub is_done : (Action → Bool) → CallTable → World → Asked → List ℕ → Bool
is_done kind table w ask members = is_member members ask.process && (kind ask.action && is_okay (apply table w ask).0)

-- in a list of requests no member did such an action, each judged by the family of that time
abbrev pub none_done : (Action → Bool) → CallTable → World → List Asked → List ℕ → Bool
none_done kind table w [] members = true
none_done kind table w (ask ∷ asks) members =
    not (is_done kind table w ask members) && none_done kind table (apply table w ask).1 asks (family_then table w ask members)

-- all requests are made by members, each by one of that time
abbrev pub members_alone : CallTable → World → List Asked → List ℕ → Bool
members_alone table w [] members = true
members_alone table w (ask ∷ asks) members =
    is_member members ask.process && members_alone table (apply table w ask).1 asks (family_then table w ask members)

-- the number has a state of this kind
abbrev pub HasKept : World → ℕ → (ProcessState → Type 0) → Type 0
HasKept w process P = (h : ProcessState) × (kept_at w process ≡ Some h) × P h
