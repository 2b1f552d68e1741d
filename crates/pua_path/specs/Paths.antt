-- The start and the parts of a path text, and its faults.
use Rattle.std.specs.Prelude.{ℕ, Bool, false, not, if◌then◌else◌, List, [], ◌∷◌, ◌++◌, length, map, nat_lt, ◌==◌, Option, Some, None}
use Rattle.std.specs.Prelude.{option_map}
use Rattle.pua_tree.specs.Names.{same_bytes, has_byte, components, has_short_components}
use Rattle.pua_path.specs.Limits.{most_path}
use Rattle.pua_path.specs.declared.errno.Errno.{Errno}
use Rattle.pua_path.specs.declared.errno.Errno.TheVariants.{ENOENT, ENAMETOOLONG, EINVAL}
use Rattle.pua_path.specs.declared.text.Ending.{Ending}
use Rattle.pua_path.specs.declared.text.Ending.TheVariants as ending
use Rattle.pua_path.specs.declared.found.Part.{Part}
use Rattle.pua_path.specs.declared.found.Part.TheVariants.{Dot, DotDot, Name}
use Rattle.pua_path.specs.declared.traced.PathTextFault.{PathTextFault}
use Rattle.pua_path.specs.declared.traced.PathTextFault.TheVariants.{EmptyText, LongText, LongComponent, NulInText}

-- a path text: its bytes, and what a slash at its end adds
pub record Text : Type 0 where
  pub bytes : List ℕ
  pub ending : Ending

-- one dot, two dots, or a name
abbrev pub part_of : List ℕ → Part
part_of piece = if same_bytes piece (46 ∷ []) then Dot else (if same_bytes piece (46 ∷ 46 ∷ []) then DotDot else Name piece)

-- the text begins at the root
abbrev pub is_absolute : List ℕ → Bool
is_absolute [] = false
is_absolute (b ∷ more) = b == 47

abbrev pub ends_in_slash : List ℕ → Bool
ends_in_slash [] = false
ends_in_slash (b ∷ []) = b == 47
ends_in_slash (b ∷ c ∷ more) = ends_in_slash (c ∷ more)

-- what a slash after a part adds
abbrev pub ending_parts : Ending → List (List ℕ) → Bool → List Part
ending_parts ending.Dropped pieces slash = []
ending_parts ending.Dot [] slash = []
ending_parts ending.Dot (piece ∷ pieces) slash = if slash then Dot ∷ [] else []

-- the parts between slashes, and what the ending adds
abbrev pub parts_of : Ending → List ℕ → List Part
parts_of ending text = map part_of (components text) ++ ending_parts ending (components text) (ends_in_slash text)

-- the first fault of a text that is no path: none, too long, a component too long, a NUL
abbrev pub text_fault : List ℕ → Option PathTextFault
text_fault [] = Some EmptyText
text_fault (b ∷ more) =
    if nat_lt most_path (length (b ∷ more)) then Some LongText
    else (if not (has_short_components (b ∷ more)) then Some LongComponent
    else (if has_byte 0 (b ∷ more) then Some NulInText else None))

abbrev pub text_errno : PathTextFault → Errno
text_errno EmptyText = ENOENT
text_errno LongText = ENAMETOOLONG
text_errno LongComponent = ENAMETOOLONG
text_errno NulInText = EINVAL

-- its errno
abbrev pub path_fault : List ℕ → Option Errno
path_fault text = option_map text_errno (text_fault text)
