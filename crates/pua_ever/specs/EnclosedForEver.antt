-- A process whose paths can never leave its root, nor those of what it forks: what their requests leave of the tree, and that the list of
-- all that they can ever touch may be cut at the root.
use Rattle.std.specs.Prelude.{◌≡◌, ◌≢◌, ◌⊎◌, ◌≤◌, ⊤, ℕ, Bool, not, ◌&&◌, List, [], ◌∷◌, Some, Ok, IsTrue, IsFalse}
use Rattle.std.specs.List.{Contains}
use Rattle.pua_tree.specs.Listing.{listing}
use Rattle.pua_tree.specs.Tree.{Tree, Spot, is_dir, is_within, look}
use Rattle.pua_path.specs.Resolution.{resolution_of_text}
use Rattle.pua_path.specs.declared.found.Start.{Start}
use Rattle.pua_calls.specs.Promises.{holds, id}
use Rattle.pua_calls.specs.Calls.{CallTable, ending_of, last_of}
use Rattle.pua_calls.specs.TmpTable.{tmp_table}
use Rattle.pua_policy.specs.States.{ProcessState, held_set, is_directory, root_dir, start}
use Rattle.pua_calls.specs.declared.call.Call.{Call}
use Rattle.pua_calls.specs.declared.rules.Rules.{Rules}
use Rattle.pua_policy.specs.Verdict.{verdict_of}
use Rattle.pua_policy.specs.declared.answer.Verdict.TheVariants.{Allowed}
use Rattle.pua_policy.specs.declared.open_file.OpenFile.{OpenFile}
use Rattle.pua_script.specs.Bytes.{are_in_bytes}
use Rattle.pua_script.specs.Scripts.{script_by}
use Rattle.pua_script.specs.Requests.{Asked}
use Rattle.pua_script.specs.Replay.{World, apply, kept_at, new_world, world_after}
use Rattle.pua_script.specs.Family.{family, family_then, is_done, is_exec, is_member, none_done, HasKept}
use Rattle.pua_script.specs.Laws.{IsConfined}
use Rattle.pua_script.specs.Tightening.{NoCallNeedsError}
use Rattle.pua_script.specs.Confinement.{TreesAlong}
use Rattle.pua_objects.specs.Laws.{StartsIn}
use Rattle.pua_objects.specs.Roots.{is_enclosed_for_ever, shown_for_ever, stays_in}
use Rattle.pua_objects.specs.declared.roots.Shown.{Shown}
use Rattle.pua_ever.specs.Ever.{EverLine, ever}
use Rattle.pua_ever.specs.Laws.{ActsWithin, EditsNeedC, IsForeseenIn, MembersEdit, NoExecLoosens, VeilsStand}
use Rattle.pua_ever.specs.ShownForEver.{execs_shown, only_inside, shown_ever, shown_lasting, shown_longest}
use Rattle.pua_ever.specs.Through.{GoAlong, bound_of, ever_through, has_exec, is_bounded}
use Rattle.pua_ever.specs.declared.lasting_list.ExecBound.TheVariants.{Open}

-- what it starts is so too, if it holds these promises
abbrev pub is_enclosed_through : Tree → ProcessState → ℕ → Bool
is_enclosed_through t h given = is_enclosed_for_ever t h && not (holds given id)

-- The laws.

-- what is left of a tree by requests of those whose paths stay in a root: rows whose directory is outside of it stay; a directory of
-- then is at or below it as it was, or was made there; what stands in a row at or below it stood in one before, or was made; and no
-- number is taken back
pub record KeepInside (root : ℕ) (t u : Tree) : Type 0 where
  pub rows : (s : Spot) (x : ℕ) → look t s.0 s.1 ≡ Some x → IsFalse (is_within t s.0 root) → look u s.0 s.1 ≡ Some x
  pub dirs : (d : ℕ) → IsTrue (is_dir u d) →
      (IsTrue (is_dir t d) × (is_within u d root ≡ is_within t d root)) ⊎ ((t.next ≤ d) × IsTrue (is_within u d root))
  pub names : (s : Spot) (x : ℕ) → look u s.0 s.1 ≡ Some x → IsTrue (is_within u s.0 root) →
      (t.next ≤ x) ⊎ ((r : Spot) × (look t r.0 r.1 ≡ Some x) × IsTrue (is_within t r.0 root))
  pub next : t.next ≤ u.next

-- an exec of a member that is answered ok doesn't give it the promise by which a root is changed
abbrev pub FreesNone : CallTable → World → Asked → List ℕ → Type 0
FreesNone table w ask members =
    IsTrue (is_done is_exec table w ask members) → HasKept (apply table w ask).1 ask.process (λ h. IsFalse (holds (held_set h) id))

abbrev pub NoExecFrees : CallTable → World → List Asked → List ℕ → Type 0
NoExecFrees table w [] members = ⊤
NoExecFrees table w (ask ∷ asks) members =
    FreesNone table w ask members × NoExecFrees table (apply table w ask).1 asks (family_then table w ask members)

-- several processes with one root, each enclosed for ever in it
pub record IsEnclosedIn (t : Tree) (root : ℕ) (h : ProcessState) : Type 0 where
  pub rooted : root_dir h ≡ root
  pub enclosed : IsTrue (is_enclosed_for_ever t h)

abbrev pub AreEnclosed : World → ℕ → List ℕ → Type 0
AreEnclosed w root members = (member : ℕ) → IsTrue (is_member members member) → HasKept w member (IsEnclosedIn w.tree root)

-- by any table, whatever they and others ask for, as long as others leave the tree as it is: they stay so, with what they fork, and keep
-- what they do inside
abbrev pub EnclosedWithExecs : Type 0
EnclosedWithExecs =
    (table : CallTable) (w : World) (asks : List Asked) (root : ℕ) (members : List ℕ) →
    AreEnclosed w root members → TreesAlong table w asks → NoExecFrees table w asks members → MembersEdit table w asks members →
    let after = world_after table w asks in
    KeepInside root w.tree after.tree × AreEnclosed after root (family table w asks members)

-- so of a process, as long as no exec of a member is answered ok
abbrev pub EnclosedStay : Type 0
EnclosedStay =
    (table : CallTable) (w : World) (asks : List Asked) (process : ℕ) (now : ProcessState) →
    kept_at w process ≡ Some now → IsTrue (is_enclosed_for_ever w.tree now) → TreesAlong table w asks →
    IsTrue (none_done is_exec table w asks (process ∷ [])) → MembersEdit table w asks (process ∷ []) →
    let after = world_after table w asks in
    KeepInside (root_dir now) w.tree after.tree × AreEnclosed after (root_dir now) (family table w asks (process ∷ []))

-- or through execs, where all that is started is bounded by execpromises without that promise
abbrev pub EnclosedThroughExecs : Type 0
EnclosedThroughExecs =
    (table : CallTable) → NoCallNeedsError table →
    (w : World) (asks : List Asked) (process : ℕ) (now : ProcessState) (given : ℕ) →
    kept_at w process ≡ Some now → bound_of table now ≡ Some given → IsTrue (is_enclosed_through w.tree now given) →
    TreesAlong table w asks → MembersEdit table w asks (process ∷ []) →
    let after = world_after table w asks in
    KeepInside (root_dir now) w.tree after.tree × AreEnclosed after (root_dir now) (family table w asks (process ∷ []))

-- over a later tree: whatever path is spelled from the root, or from whatever directory stays in it, if a call is allowed on it to a process,
-- the line of what it names has the call
abbrev pub ForeseesInside : ℕ → List EverLine → Tree → CallTable → ProcessState → Tree → ProcessState → Type 0
ForeseesInside root lines t table now later last =
    (from : Start) → from.root ≡ root → IsTrue (stays_in later root from.dir) → (call : Call) (text : List ℕ) →
    let named = resolution_of_text later from (ending_of call) text (last_of call) in
    verdict_of later table last call named ≡ Allowed → IsForeseenIn lines t now later call named

-- several processes that act within one state, each enclosed for ever in one root: each call that is then allowed to a member, on a path
-- that it can spell, has its line at or below the root
abbrev pub EverInside : Type 0
EverInside =
    (table : CallTable) → NoCallNeedsError table → EditsNeedC table →
    (w : World) (asks : List Asked) (root : ℕ) (members : List ℕ) (now : ProcessState) →
    ActsWithin w now members → AreEnclosed w root members → VeilsStand w.tree now → TreesAlong table w asks →
    NoExecLoosens table now w asks members → NoExecFrees table w asks members → MembersEdit table w asks members →
    (member : ℕ) → IsTrue (is_member (family table w asks members) member) →
    let after = world_after table w asks in
    HasKept after member (λ last. IsEnclosedIn after.tree root last
    × ForeseesInside root (only_inside w.tree root (ever w.tree (tmp_table table) now)) w.tree (tmp_table table) now after.tree last)

-- the paths of a process start in what a list shows, and so do those from each directory that it has open
pub record PathsStartIn (shown : Shown) (later : Tree) (last : ProcessState) : Type 0 where
  pub own : StartsIn later shown (start last)
  pub open_files : (number : ℕ) (file : OpenFile) → Contains last.files (number, file) → IsTrue (is_directory file) →
      StartsIn later shown (record { root = root_dir last; dir = file.node })

-- over a later tree: that is so, and whatever path is spelled from wherever it is, if a call is allowed on it to the process, the line of
-- what it names has the call
pub record ForeseesShown (shown : Shown) (lines : List EverLine) (t : Tree) (table : CallTable) (now : ProcessState) (later : Tree) (last : ProcessState) :
    Type 0 where
  pub starts : PathsStartIn shown later last
  pub foresees : (from : Start) → StartsIn later shown from → (call : Call) (text : List ℕ) →
      let named = resolution_of_text later from (ending_of call) text (last_of call) in
      verdict_of later table last call named ≡ Allowed → IsForeseenIn lines t now later call named

-- so of a process that can put no veil any more, and what it forks from now on: of the list that is cut where the process is enclosed for
-- ever, and whole where it isn't
abbrev pub EverShown : Type 0
EverShown =
    (table : CallTable) → NoCallNeedsError table → EditsNeedC table →
    (w : World) (asks : List Asked) (process : ℕ) (now : ProcessState) →
    kept_at w process ≡ Some now → IsConfined now → VeilsStand w.tree now →
    TreesAlong table w asks → IsTrue (none_done is_exec table w asks (process ∷ [])) → MembersEdit table w asks (process ∷ []) →
    (member : ℕ) → IsTrue (is_member (family table w asks (process ∷ [])) member) →
    let after = world_after table w asks in
    HasKept after member (ForeseesShown (shown_for_ever w.tree now) (shown_ever w.tree (tmp_table table) now) w.tree (tmp_table table) now after.tree)

-- no line that is shown has `exec`: then no exec of a member can be answered ok, whatever others ask for that leaves the tree as it is
abbrev pub WithoutShownExec : Type 0
WithoutShownExec =
    (table : CallTable) → NoCallNeedsError table → EditsNeedC table →
    (w : World) (asks : List Asked) (process : ℕ) (now : ProcessState) →
    kept_at w process ≡ Some now → IsConfined now → VeilsStand w.tree now → TreesAlong table w asks → MembersEdit table w asks (process ∷ []) →
    IsFalse (has_exec (shown_ever w.tree (tmp_table table) now)) → IsTrue (none_done is_exec table w asks (process ∷ []))

-- through execs: of processes that go along with one, and act within what it holds and what it hands down, neither of which is that promise
abbrev pub InsideThroughExecs : Type 0
InsideThroughExecs =
    (table : CallTable) → NoCallNeedsError table → EditsNeedC table →
    (w : World) (asks : List Asked) (root : ℕ) (members : List ℕ) (now : ProcessState) (given : ℕ) → IsTrue (is_bounded table given) →
    IsFalse (holds (held_set now) id) → IsFalse (holds given id) →
    GoAlong table w now given members → AreEnclosed w root members → VeilsStand w.tree now → TreesAlong table w asks →
    MembersEdit table w asks members →
    (member : ℕ) → IsTrue (is_member (family table w asks members) member) →
    let after = world_after table w asks in
    HasKept after member (λ last. IsEnclosedIn after.tree root last
    × ForeseesInside root (only_inside w.tree root (ever_through w.tree (tmp_table table) now given)) w.tree (tmp_table table) now after.tree last)

-- so of the list that holds longest, as long as it doesn't say `exec open`, or no exec of theirs is answered ok
abbrev pub EverShownLasts : Type 0
EverShownLasts =
    (table : CallTable) → NoCallNeedsError table → EditsNeedC table →
    (w : World) (asks : List Asked) (process : ℕ) (now : ProcessState) →
    kept_at w process ≡ Some now → IsConfined now → VeilsStand w.tree now → TreesAlong table w asks →
    (execs_shown w.tree (tmp_table table) now ≢ Open) ⊎ IsTrue (none_done is_exec table w asks (process ∷ [])) →
    MembersEdit table w asks (process ∷ []) →
    (member : ℕ) → IsTrue (is_member (family table w asks (process ∷ [])) member) →
    let after = world_after table w asks in
    HasKept after member (ForeseesShown (shown_longest w.tree (tmp_table table) now) (shown_lasting w.tree (tmp_table table) now)
    w.tree (tmp_table table) now after.tree)

-- a listing and a script as a command reads them by any rules, and behind them any list of requests in bytes
abbrev pub EverShownAfterRead : Type 0
EverShownAfterRead =
    (table : CallTable) → NoCallNeedsError table → EditsNeedC table →
    (rules : Rules) (tree_bytes script_bytes : List ℕ) (t : Tree) (before asks : List Asked) →
    listing tree_bytes ≡ Ok t → script_by rules script_bytes ≡ Ok before → IsTrue (are_in_bytes asks) →
    let w = world_after table (new_world t) before in
    (process : ℕ) (now : ProcessState) →
    kept_at w process ≡ Some now → IsConfined now →
    (execs_shown w.tree (tmp_table table) now ≢ Open) ⊎ IsTrue (none_done is_exec table w asks (process ∷ [])) →
    MembersEdit table w asks (process ∷ []) →
    (member : ℕ) → IsTrue (is_member (family table w asks (process ∷ [])) member) →
    let after = world_after table w asks in
    HasKept after member (ForeseesShown (shown_longest w.tree (tmp_table table) now) (shown_lasting w.tree (tmp_table table) now)
    w.tree (tmp_table table) now after.tree)
