-- What a world's requests leave of its processes and of its tree, whichever world of the replay it stands for.
use Rattle.std.specs.Prelude.{◌≡◌, ℕ, List, [], ◌∷◌, Some, Ok, take, IsTrue, IsFalse}
use Rattle.pua_calls.specs.Calls.{CallTable, about_rules, table_by_rules, rule_of}
use Rattle.pua_calls.specs.TableTexts.{table_over}
use Rattle.pua_calls.specs.declared.rules.Rules.{Rules}
use Rattle.pua_policy.specs.States.{ProcessState}
use Rattle.pua_script.specs.Requests.{Asked}
use Rattle.pua_script.specs.Tightening.{NoCallNeedsError, IsNarrowedBy, EndsWithin}
use Rattle.pua_calls.specs.declared.call.Call.TheVariants.{Rmdir, Unlink}
use Rattle.pua_script.specs.Confinement.{NeedsC, CallsNeed, TakingNeedsC, ChangingNeeds, HoldsNone, UncoveredStay, TreesAlong}
use Rattle.pua_script.specs.Family.{is_exec, is_done, none_done, members_alone, family, is_member, HasKept}
use Rattle.pua_script.specs.Holding.{HoldsNoMore, none_taken}
use Rattle.pua_script.specs.Laws.{IsConfined}
use Rattle.pua_script.specs.declared.answer.Answer.{Answer}
use Rattle.pua_script.specs.Worlds.{WorldState, world_of, run_to, state_after_all, process_at}

-- a table is one of those that narrowing is about, and changes the tree by these promises
pub record TableNarrows (promises : List ℕ) (table : CallTable) : Type 0 where
  pub error : NoCallNeedsError table
  pub taking : TakingNeedsC table
  pub changing : ChangingNeeds promises table

-- the promises by which rules let a process change the tree
abbrev pub changing_promises : Rules → List ℕ
changing_promises rules = (about_rules rules).changing

-- so are the rules that a command names, whichever they are
abbrev pub RulesNarrow : Type 0
RulesNarrow = (rules : Rules) → TableNarrows (changing_promises rules) (table_by_rules rules)

-- of a table that a text gives over such a one the laws ask no more than of its calls: rename and link need what they need by that one
pub record ReadTablesNarrow : Type 0 where
  pub error : (base : CallTable) → NoCallNeedsError base → (text : List ℕ) (table : CallTable) → table_over base text ≡ Ok table →
      NoCallNeedsError table
  pub taking : (base : CallTable) → TakingNeedsC base → (text : List ℕ) (table : CallTable) → table_over base text ≡ Ok table →
      NeedsC (rule_of table Rmdir) → NeedsC (rule_of table Unlink) → TakingNeedsC table
  pub changing : (base : CallTable) (promises : List ℕ) → ChangingNeeds promises base → (text : List ℕ) (table : CallTable) →
      table_over base text ≡ Ok table → CallsNeed promises table → ChangingNeeds promises table

-- each process that was confined allows no more afterwards, but after its own exec
abbrev pub IsNarrowing : WorldState → Asked → WorldState → Type 0
IsNarrowing before ask after = (process : ℕ) (p : ProcessState) →
    process_at before process ≡ Some p → IsConfined p → IsFalse (is_done is_exec before.table (world_of before) ask (process ∷ [])) →
    HasKept (world_of after) process (IsNarrowedBy before.table (world_of before) ask process p)

-- by what the one that asks keeps, each row that isn't covered with `c` stays, if the table asks for `c` where a name is taken away
abbrev pub IsSparing : WorldState → Asked → WorldState → Type 0
IsSparing before ask after = TakingNeedsC before.table → (p : ProcessState) → process_at before ask.process ≡ Some p →
    UncoveredStay p before.tree after.tree

-- a list of requests was served, and each world on the way has a tree
abbrev pub HaveTrees : WorldState → List Asked → Type 0
HaveTrees before asks = TreesAlong before.table (world_of before) asks

abbrev pub AreDone : WorldState → List Asked → List Answer → WorldState → Type 0
AreDone before asks answers after = ((answers, after) ≡ run_to before asks) × HaveTrees before asks

-- some first ones of the requests were
abbrev pub AreDoneInPart : WorldState → List Asked → WorldState → Type 0
AreDoneInPart before asks after = (count : ℕ) × (after ≡ state_after_all before (take count asks)) × HaveTrees before (take count asks)

-- by what a confined process keeps at the beginning, and if the table asks for `c` and for promises where it has to: each row
-- that isn't covered with `c` stays, and without these promises the tree does
pub record IsConfining (before : WorldState) (now : ProcessState) (after : WorldState) : Type 0 where
  pub spares : TakingNeedsC before.table → UncoveredStay now before.tree after.tree
  pub unchanged : (promises : List ℕ) → ChangingNeeds promises before.table → HoldsNone promises now → after.tree ≡ before.tree

-- what a list of requests leaves of the family of a process that was confined, as long as no exec of a
-- member is answered ok: each member allows no more afterwards, and where
-- members alone ask, what they change is confined; and what they have open was open, or could be opened, where none took from others
pub record AreHeld (before : WorldState) (asks : List Asked) (after : WorldState) : Type 0 where
  pub narrows : (process : ℕ) (now : ProcessState) →
      process_at before process ≡ Some now → IsConfined now → IsTrue (none_done is_exec before.table (world_of before) asks (process ∷ [])) →
      (member : ℕ) → IsTrue (is_member (family before.table (world_of before) asks (process ∷ [])) member) →
      HasKept (world_of after) member (EndsWithin before.table (world_of before) asks process now)
  pub confines : (process : ℕ) (now : ProcessState) →
      process_at before process ≡ Some now → IsConfined now → IsTrue (none_done is_exec before.table (world_of before) asks (process ∷ [])) →
      IsTrue (members_alone before.table (world_of before) asks (process ∷ [])) → IsConfining before now after
  pub holds : NoCallNeedsError before.table → (process : ℕ) (now : ProcessState) →
      process_at before process ≡ Some now → IsConfined now → IsTrue (none_done is_exec before.table (world_of before) asks (process ∷ [])) →
      IsTrue (none_taken before.table (world_of before) asks (process ∷ [])) →
      (member : ℕ) → IsTrue (is_member (family before.table (world_of before) asks (process ∷ [])) member) →
      HasKept (world_of after) member (HoldsNoMore before.table now)

-- some first ones of a list were served, and no more of it, and what a list leaves of families is true of these
pub record AreServedInPart (before : WorldState) (asks : List Asked) (after : WorldState) : Type 0 where
  pub count : ℕ
  pub left : after ≡ state_after_all before (take count asks)
  pub held : AreHeld before (take count asks) after
