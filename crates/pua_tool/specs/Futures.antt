-- What a process that can put no veil any more may come to reach and to change, whatever is asked afterwards.
use Rattle.std.specs.Prelude.{◌≡◌, ℕ, Bool, List, [], ◌∷◌, ◌++◌, Some, Ok, IsTrue}
use Rattle.pua_tree.specs.Tree.{Tree}
use Rattle.pua_tree.specs.Listing.{listing}
use Rattle.pua_calls.specs.Calls.{CallTable}
use Rattle.pua_policy.specs.States.{ProcessState}
use Rattle.pua_script.specs.Requests.{Asked}
use Rattle.pua_script.specs.Scripts.{script_by}
use Rattle.pua_script.specs.Replay.{World, new_world, kept_at, world_after}
use Rattle.pua_script.specs.Laws.{IsConfined}
use Rattle.pua_script.specs.Family.{is_exec, is_chdir, is_chroot, none_done, members_alone, family, is_member, HasKept}
use Rattle.pua_script.specs.Tightening.{NoCallNeedsError, Tightens}
use Rattle.pua_script.specs.Confinement.{TakingNeedsC, ChangingNeeds, HoldsNone, UncoveredStay}
use Rattle.pua_script.specs.Bytes.{IsByteTree, are_in_bytes}
use Rattle.pua_audit.specs.Reach.{Pair, alphabet_of, reach}
use Rattle.pua_audit.specs.SubLists.{SubList}
use Rattle.pua_audit.specs.declared.base.Base.{Base}
use Rattle.pua_audit.specs.declared.base.Base.TheVariants.{Root, Cwd}
use Rattle.pua_tool.specs.Texts.{Chosen, table_by}

-- what a process reaches over a tree
abbrev pub reach_over : Tree → CallTable → ProcessState → Base → List (List ℕ) → ℕ → List Pair
reach_over t table h base alphabet limit =
    reach (record { tree = t; table = table; process = h; base = base; alphabet = alphabet; limit = limit })

-- a process reaches no more than another over a tree, with all letters and limits, if no member did a chroot: from the root,
-- and from the working directory if no member moved
pub record ReachesNoMore (table : CallTable) (t : Tree) (now last : ProcessState) (still rooted : Bool) : Type 0 where
  pub root : IsTrue rooted → (alphabet : List (List ℕ)) (limit : ℕ) →
      SubList (reach_over t table last Root alphabet limit) (reach_over t table now Root alphabet limit)
  pub cwd : IsTrue rooted → IsTrue still → (alphabet : List (List ℕ)) (limit : ℕ) →
      SubList (reach_over t table last Cwd alphabet limit) (reach_over t table now Cwd alphabet limit)

-- the first part: whatever is asked by anyone, as long as no exec of a member is answered ok, over each tree, so over the last one
abbrev pub Narrowing : Type 0
Narrowing = (table : CallTable) → NoCallNeedsError table → (w : World) (process : ℕ) (now : ProcessState) (asks : List Asked) →
    kept_at w process ≡ Some now → IsConfined now → IsTrue (none_done is_exec table w asks (process ∷ [])) →
    (member : ℕ) → IsTrue (is_member (family table w asks (process ∷ [])) member) →
    HasKept (world_after table w asks) member (λ last. Tightens now last
    × ((t : Tree) → ReachesNoMore table t now last (none_done is_chdir table w asks (process ∷ []))
    (none_done is_chroot table w asks (process ∷ []))))

-- so where rows, kinds and targets are again those of now, each member's reach over the last tree lies within the
-- process's reach over the tree of now
abbrev pub NarrowingNow : Type 0
NarrowingNow = (table : CallTable) → NoCallNeedsError table → (w : World) (process : ℕ) (now : ProcessState) (asks : List Asked) →
    kept_at w process ≡ Some now → IsConfined now → IsTrue (none_done is_exec table w asks (process ∷ [])) →
    (world_after table w asks).tree.rows ≡ w.tree.rows → (world_after table w asks).tree.nodes ≡ w.tree.nodes →
    (member : ℕ) → IsTrue (is_member (family table w asks (process ∷ [])) member) →
    HasKept (world_after table w asks) member (λ last. (base : Base) →
    IsTrue (none_done is_chroot table w asks (process ∷ [])) →
    (base ≡ Cwd → IsTrue (none_done is_chdir table w asks (process ∷ []))) →
    (candidates : List (List ℕ)) (limit : ℕ) →
    SubList (reach_over (world_after table w asks).tree table last base (alphabet_of (world_after table w asks).tree candidates) limit)
    (reach_over w.tree table now base (alphabet_of w.tree candidates) limit))

-- the second part: each row that isn't covered with `c` stays, and without the promises by which it is changed the tree does. A text is a list of numbers here,
-- and the first is so of texts that are bytes; those of a listing and a script are
pub record ConfinesInBytes (table : CallTable) (w : World) (now : ProcessState) (asks : List Asked) : Type 0 where
  pub spares : TakingNeedsC table → IsByteTree w.tree → IsTrue (are_in_bytes asks) →
      UncoveredStay now w.tree (world_after table w asks).tree
  pub unchanged : (promises : List ℕ) → ChangingNeeds promises table → HoldsNone promises now → (world_after table w asks).tree ≡ w.tree

-- where members alone ask, and no exec of theirs is answered ok
abbrev pub Confinement : Type 0
Confinement = (table : CallTable) (w : World) (process : ℕ) (now : ProcessState) (asks : List Asked) →
    kept_at w process ≡ Some now → IsConfined now → IsTrue (none_done is_exec table w asks (process ∷ [])) →
    IsTrue (members_alone table w asks (process ∷ [])) → ConfinesInBytes table w now asks

-- over a table, a listing and a script as a command reads them: the script's first lines left a world, and the lines
-- after them are the further requests
abbrev pub AsRead : (CallTable → World → List Asked → Type 0) → Type 0
AsRead Holds = (choice : Chosen) (tree_bytes script_bytes : List ℕ) (table : CallTable) (t : Tree) (first asks : List Asked) →
    table_by choice ≡ Ok table → listing tree_bytes ≡ Ok t → script_by choice.rules script_bytes ≡ Ok (first ++ asks) →
    Holds table (world_after table (new_world t) first) asks

-- each member of the family of a confined process reaches no more, over the tree that the further requests leave
abbrev pub IsNarrowed : CallTable → World → List Asked → Type 0
IsNarrowed table w asks = (process : ℕ) (now : ProcessState) →
    kept_at w process ≡ Some now → IsConfined now → IsTrue (none_done is_exec table w asks (process ∷ [])) →
    (member : ℕ) → IsTrue (is_member (family table w asks (process ∷ [])) member) →
    HasKept (world_after table w asks) member (λ last.
    ReachesNoMore table (world_after table w asks).tree now last (none_done is_chdir table w asks (process ∷ []))
    (none_done is_chroot table w asks (process ∷ [])))

abbrev pub NarrowingAsRead : Type 0
NarrowingAsRead = AsRead IsNarrowed

-- where its family alone asks, what the process can't touch with `c` stays, and without the promises by which the tree is changed
-- all does, each by the tables of which it is so
abbrev pub IsConfiningFamily : CallTable → World → List Asked → Type 0
IsConfiningFamily table w asks = (process : ℕ) (now : ProcessState) →
    kept_at w process ≡ Some now → IsConfined now → IsTrue (none_done is_exec table w asks (process ∷ [])) →
    IsTrue (members_alone table w asks (process ∷ [])) →
    (TakingNeedsC table → UncoveredStay now w.tree (world_after table w asks).tree)
    × ((promises : List ℕ) → ChangingNeeds promises table → HoldsNone promises now → (world_after table w asks).tree ≡ w.tree)

abbrev pub ConfinementAsRead : Type 0
ConfinementAsRead = AsRead IsConfiningFamily
