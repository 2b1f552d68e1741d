-- The covers of a directory of the beginning that follow, as the code finds them.
use Rattle.std.specs.Prelude.{◌^◌, ◌==◌, ℕ, Bool, List, Option, Some, None, if◌then◌else◌}
use Rattle.std.specs.Int.Bits.{bit_or}
use Rattle.pua_tree.specs.Tree.{Tree, is_dir, parent}
use Rattle.pua_policy.specs.States.{ProcessState, has_veil, perms_kept}
use Rattle.pua_policy.specs.declared.answer.Cover.{Cover}
use Rattle.pua_policy.specs.declared.answer.Cover.TheVariants.{All, Nothing, Only}
use Rattle.pua_policy.specs.declared.place.Place.TheVariants as place
use Rattle.pua_jointly.specs.JointPlace.{cover_bit}
use Rattle.pua_jointly.specs.JointWords.{covers_in, word_at}

-- a cover alone
abbrev pub cover_word : Cover → ℕ
cover_word k = 2 ^ cover_bit k

-- the root's, where no veil is on it
abbrev pub root_word : ProcessState → ℕ → ℕ
root_word h dir = if dir == 0 then cover_word (if has_veil h.veils then Nothing else All) else 0

-- those of the directory above
abbrev pub parent_word : List ℕ → ℕ → Option ℕ → ℕ → ℕ
parent_word told columns None of = 0
parent_word told columns (Some dir) of = covers_in (word_at told columns dir of)

abbrev pub above_word : Tree → List ℕ → ℕ → ℕ → ℕ → ℕ
above_word t told columns dir of = if dir == 0 then 0 else parent_word told columns (parent t dir) of

-- its own veil's, if the directory stands; where it has none, all these and those under which it comes when it is moved
abbrev pub dir_word : Bool → Option ℕ → ℕ → ℕ
dir_word stands None others = others
dir_word stands (Some perms) others = if stands then cover_word (Only perms) else 0

abbrev pub old_word : Tree → ProcessState → List ℕ → ℕ → ℕ → ℕ → ℕ → ℕ
old_word t h told columns dir of moved =
    dir_word (is_dir t dir) (perms_kept h (place.Dir dir)) (bit_or (bit_or (root_word h dir) (above_word t told columns dir of)) moved)

-- the covers of a name in a directory that stands, where no directory is at the name: its own veil's, or those of the directory
abbrev pub own_or_word : Option ℕ → ℕ → ℕ
own_or_word None others = others
own_or_word (Some perms) others = cover_word (Only perms)

abbrev pub over_word : ProcessState → List ℕ → ℕ → ℕ → List ℕ → ℕ → ℕ
over_word h told columns dir name of =
    own_or_word (perms_kept h (place.Slot dir name)) (covers_in (word_at told columns dir of))

-- the same covers, asked of its veils only where it has one at a name
abbrev pub asked_word : Bool → ProcessState → List ℕ → ℕ → ℕ → List ℕ → ℕ → ℕ
asked_word named h told columns dir name of =
    if named then over_word h told columns dir name of else covers_in (word_at told columns dir of)
