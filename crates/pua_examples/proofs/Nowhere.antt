-- Where no object has a line, no call is allowed on any path.
use Rattle.std.proofs.Common.{◌≡◌, ◌≢◌, ◌∙◌, ◌∷◌, ℕ, List, [], length, ap, arith, sym}
use Rattle.pua_tree.specs.Tree.{Tree, WellFormed}
use Rattle.pua_calls.specs.Calls.{CallTable}
use Rattle.pua_policy.specs.States.{ProcessState, start}
use Rattle.pua_policy.specs.Verdict.{verdict_on}
use Rattle.pua_calls.specs.declared.call.Call.{Call}
use Rattle.pua_policy.specs.declared.answer.Verdict.TheVariants.{Allowed}
use Rattle.pua_calls.specs.CallSets.{calls_in}
use Rattle.pua_audit.specs.Reach.{Word}
use Rattle.pua_objects.proofs.ForCallers.{kept_in, left_out}
use Rattle.pua_objects.specs.Objects.{objects}
use Rattle.pua_objects.specs.Items.{subject_given}
use Rattle.pua_objects.specs.Laws.{Complete}
use Rattle.pua_objects.specs.Lines.{IsLineOn}
use Rattle.pua_objects.specs.ListItems.{items_told, word_after}
use Rattle.pua_objects.specs.Lines.{lines_of}
use Rattle.pua_objects.specs.declared.line.ObjectLine.{ObjectLine}
use Rattle.pua_objects.specs.declared.list.ListItem.{ListItem}

pub nowhere : Complete → (t : Tree) (table : CallTable) (h : ProcessState) → WellFormed t → objects t table h ≡ [] →
    (call : Call) (text : List ℕ) → verdict_on t table h call text ≢ Allowed
nowhere complete t table h tree none call text allowed =
    let listed = complete t table h (start h) call text tree allowed in
    omega (arith, listed.listed.1, ap length none)

-- an item without calls has no line, and one with calls has
module _ (t : Tree) (table : CallTable) (h : ProcessState) (word : Word) (item : ListItem) (left : List ListItem) (line : ObjectLine)
    (on : IsLineOn t table h (subject_given t item.item.subject) line) where
  abbrev after : Word
  after = word_after word item

  pub passed : calls_in line.calls ≡ [] → lines_of t table h (items_told t word (item ∷ left)) ≡ lines_of t table h (items_told t after left)
  passed none = left_out t table h (subject_given t item.item.subject) line on after (items_told t after left) none

  pub met : calls_in line.calls ≢ [] → lines_of t table h (items_told t word (item ∷ left)) ≢ []
  met some none =
      let first = kept_in t table h (subject_given t item.item.subject) line on after (items_told t after left) some in
      omega (arith, ap length (sym first ∙ none))
