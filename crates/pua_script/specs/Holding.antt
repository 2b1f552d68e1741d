-- Narrowing for descriptors: what a process that can put no veil any more, and what it forks, has open later.
use Rattle.std.specs.Prelude.{◌≡◌, ℕ, Bool, true, false, not, ◌&&◌, List, [], ◌∷◌, ◌⊎◌, Some, None, Ok, IsTrue}
use Rattle.std.specs.List.{AllByRecursion}
use Rattle.pua_tree.specs.Tree.{Tree}
use Rattle.pua_path.specs.Fits.{node_named}
use Rattle.pua_path.specs.declared.found.Start.{Start}
use Rattle.pua_path.specs.Resolution.{resolution_of_text}
use Rattle.pua_path.specs.declared.found.Found.{Found}
use Rattle.pua_calls.specs.Calls.{CallTable, ending_of, last_of, rule_of}
use Rattle.pua_calls.specs.declared.call.Call.{Call}
use Rattle.pua_policy.specs.States.{ProcessState, may_any}
use Rattle.pua_policy.specs.Verdict.{cover, cover_fault, object_fault, object_of}
use Rattle.pua_policy.specs.declared.answer.May.TheVariants as may
use Rattle.pua_policy.specs.declared.open_file.OpenFile.{OpenFile}
use Rattle.pua_script.specs.Requests.{Asked}
use Rattle.pua_script.specs.Decide.{file_opened}
use Rattle.pua_script.specs.Replay.{World, kept_at, apply, world_after}
use Rattle.pua_script.specs.Laws.{IsConfined}
use Rattle.pua_script.specs.Family.{HasKept, family, family_then, is_done, is_exec, is_member, none_done}
use Rattle.pua_script.specs.OpeningLaws.{may_open}
use Rattle.pua_script.specs.Tightening.{NoCallNeedsError}
use Rattle.pua_script.specs.declared.request.Action.{Action}
use Rattle.pua_script.specs.declared.request.Action.TheVariants.{Take}

-- each of these open files is such a one
abbrev pub EachIs : (OpenFile → Type 0) → List (ℕ × OpenFile) → Type 0
EachIs P files = AllByRecursion (λ (held : ℕ × OpenFile). P held.1) files

-- it is one of these
abbrev pub IsAmong : List (ℕ × OpenFile) → OpenFile → Type 0
IsAmong [] file = ⊥
IsAmong (held ∷ more) file = (held.1 ≡ file) ⊎ IsAmong more file

-- a state lets a call on what a path named through: by its promises, and by its veils with the letters of the call; or a promise that it
-- holds opens the path by itself
abbrev pub LetsThrough : CallTable → Tree → ProcessState → Call → List ℕ → Found → Type 0
LetsThrough table t h call path object =
    ((may_any h (rule_of table call).alternatives ≡ may.Yes) × (cover_fault (cover t h object) (rule_of table call).perms ≡ None))
    ⊎ IsTrue (may_open h call path)

-- over some tree it lets a call through that opens the file so
pub record IsOpenable (table : CallTable) (h : ProcessState) (file : OpenFile) : Type 0 where
  pub tree : Tree
  pub from : Start
  pub call : Call
  pub path : List ℕ
  pub object : Found
  pub found : resolution_of_text tree from (ending_of call) path (last_of call) ≡ Ok object
  pub through : LetsThrough table tree h call path object
  pub fitting : object_fault table.whose tree call (object_of tree object) ≡ None
  pub opened : file_opened tree call (node_named object) ≡ Some file

-- a take from a process that is no member
abbrev pub is_foreign : List ℕ → Action → Bool
is_foreign members (Take number from theirs) = not (is_member members from)
is_foreign members _ = false

-- in a list of requests no such take of a member was answered ok, each judged by the family of that time
abbrev pub none_taken : CallTable → World → List Asked → List ℕ → Bool
none_taken table w [] members = true
none_taken table w (ask ∷ asks) members =
    not (is_done (is_foreign members) table w ask members)
    && none_taken table (apply table w ask).1 asks (family_then table w ask members)

-- what a state has open another one has, or lets be opened
abbrev pub HoldsNoMore : CallTable → ProcessState → ProcessState → Type 0
HoldsNoMore table now last = EachIs (λ file. IsAmong now.files file ⊎ IsOpenable table now file) last.files

-- what the family of a process that can put no veil any more has open, the process has open now, or its promises and veils of now let
-- it open over some tree: as long as no exec of a member is answered ok, and no take of a member from another process
abbrev pub FamilyHolds : CallTable → World → List Asked → Type 0
FamilyHolds table w asks = NoCallNeedsError table → (process : ℕ) (now : ProcessState) →
    kept_at w process ≡ Some now → IsConfined now → IsTrue (none_done is_exec table w asks (process ∷ [])) →
    IsTrue (none_taken table w asks (process ∷ [])) → (member : ℕ) → IsTrue (is_member (family table w asks (process ∷ [])) member) →
    HasKept (world_after table w asks) member (HoldsNoMore table now)

abbrev pub FamiliesHold : Type 0
FamiliesHold = (table : CallTable) (w : World) (asks : List Asked) → FamilyHolds table w asks
