-- The rows of the list of one of several processes, with the help of all.
use Rattle.std.specs.Prelude.{◌≡◌, ◌++◌, ◌∷◌, [], Bool, List, Option, Some, filter, flat_map, map}
use Rattle.pua_tree.specs.Tree.{Tree}
use Rattle.pua_calls.specs.declared.call.Call.{Call}
use Rattle.pua_policy.specs.States.{ProcessState}
use Rattle.pua_objects.specs.ListItems.{items_told, last_word}
use Rattle.pua_objects.specs.declared.list.ListItem.{ListItem}
use Rattle.pua_ever.specs.Ever.{Comes, EverLine, Stands, Thing, has_ever_calls, own_spot}
use Rattle.pua_ever.specs.EverLines.{Coming, Freed, Left, Now, both_of, made_left}
use Rattle.pua_ever.specs.EverList.{AreEverTold, last_row_word}
use Rattle.pua_jointly.specs.Jointly.{joint_line, named_too}
use Rattle.pua_ever.specs.declared.list.EverRow.{EverRow}
use Rattle.pua_ever.specs.declared.made.Made.{Made}
use Rattle.pua_ever.specs.declared.made.Made.TheVariants as made

-- the lines of what is to come, by a test of their calls
abbrev pub joint_about : (Thing → Call → Bool) → ProcessState → Left → List EverLine
joint_about test a (Now item) = joint_line test item.word (Stands item.subject) ∷ []
joint_about test a (Freed item) = map (λ subject. joint_line test item.word (Stands subject)) (named_too a (own_spot item.subject))
joint_about test a (Coming new) = joint_line test [] (Comes new) ∷ []

abbrev pub joint_lines_of : (Thing → Call → Bool) → ProcessState → List Left → List EverLine
joint_lines_of test a left = filter has_ever_calls (flat_map (joint_about test a) left)

-- the rows so far tell all lines but those of what is to come, at the names that lead to the item before
pub record AreJointSoFar (t : Tree) (a : ProcessState) (test : Thing → Call → Bool) (items so_far left : List ListItem)
    (rows : List EverRow) : Type 0 where
  pub word : last_row_word [] rows ≡ last_word [] so_far
  pub told : AreEverTold t [] rows (joint_lines_of test a (flat_map both_of (items_told t [] items) ++ made_left (Some made.Dir)))
      (joint_lines_of test a (flat_map both_of (items_told t (last_word [] so_far) left) ++ made_left (Some made.Dir)))

-- rows tell all lines of items and of what can be made, but for some of these
abbrev pub AreJointBut : Tree → ProcessState → (Thing → Call → Bool) → List ListItem → List EverRow → Option Made → Type 0
AreJointBut t a test items rows coming =
    AreEverTold t [] rows (joint_lines_of test a (flat_map both_of (items_told t [] items) ++ made_left (Some made.Dir)))
    (joint_lines_of test a (made_left coming))
