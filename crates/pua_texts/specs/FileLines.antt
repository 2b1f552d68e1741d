-- What a list says of what a process has open: behind the lines of its veils a line for each name that an open file has now, and one with
-- `-` where it has none.
use Rattle.std.specs.Prelude.{◌≡◌, ℕ, Bool, true, false, ◌&&◌, ◌||◌, if◌then◌else◌, List, [], ◌∷◌, ◌++◌, codes, decimal, flat_map, ◌==◌}
use Rattle.std.specs.List.{Contains, list_any}
use Rattle.pua_tree.specs.Kinds.{about_kind}
use Rattle.pua_tree.specs.Tree.{Spot, Tree, is_dir}
use Rattle.pua_tree.specs.declared.node.Kind.{Kind}
use Rattle.pua_calls.specs.Promises.{chown, fattr, holds, promises_of, reading, writing}
use Rattle.pua_policy.specs.States.{ProcessState, held_set, is_directory, is_ended}
use Rattle.pua_policy.specs.declared.open_file.OpenFile.{OpenFile}
use Rattle.pua_script.specs.Openings.{holds_named}
use Rattle.pua_objects.specs.Objects.{with_commas}
use Rattle.pua_why.specs.Texts.{dir_text, or_equals, spot_text}
use Rattle.pua_texts.specs.Lines.{with_end}
use Rattle.pua_texts.specs.declared.file_lines.Held.{Held}

abbrev pub holds_stdio : ℕ → Bool
holds_stdio set = holds_named set (promises_of (codes "stdio"))

-- a word, where it is so
abbrev pub use_if : Bool → List ℕ → List (List ℕ)
use_if is word = if is then word ∷ [] else []

-- what may be done with an open file by these promises, whatever the veils are: read(2), write(2), fchdir(2), fchmod(2) and fchown(2)
-- with their like
abbrev pub uses_of : ℕ → OpenFile → List (List ℕ)
uses_of set file =
    use_if (holds_stdio set && holds file.letters reading) (codes "read")
    ++ use_if (holds_stdio set && holds file.letters writing) (codes "write")
    ++ use_if (holds_stdio set && is_directory file) (codes "chdir")
    ++ use_if (holds set fattr) (codes "chmod")
    ++ use_if (holds set chown || holds set fattr) (codes "chown")

abbrev pub uses_text : ℕ → OpenFile → List ℕ
uses_text set file = or_equals (with_commas (uses_of set file))

-- the line of a descriptor with a path of what it stands for
abbrev pub held_line : ℕ → Kind → List ℕ → List ℕ → List ℕ
held_line number kind uses path =
    with_end (codes "held " ++ decimal number ++ 32 ∷ (about_kind kind).word ++ 32 ∷ path ++ 32 ∷ uses)

-- the line of a row, if it is a row of the node
abbrev pub named_line : (List ℕ → List ℕ) → Tree → ℕ → Spot × ℕ → List ℕ
named_line line t node row = if row.1 == node then line (spot_text t row.0) else []

abbrev pub has_name : List (Spot × ℕ) → ℕ → Bool
has_name rows node = list_any (λ row. row.1 == node) rows

-- a line for each path of a node: a directory has one path, the root too, of which there is no row; anything else has one for each row,
-- by directory and then by name; and what has none is at `-`
abbrev pub lines_at : (List ℕ → List ℕ) → Tree → ℕ → List ℕ
lines_at line t node =
    if is_dir t node then line (dir_text t node)
    else (if has_name t.rows node then flat_map (named_line line t node) t.rows else line (codes "-"))

-- the lines of a descriptor, by the promises that are held
abbrev pub file_lines : Tree → ℕ → ℕ × OpenFile → List ℕ
file_lines t set held = lines_at (held_line held.0 held.1.kind (uses_text set held.1)) t held.1.node

-- those of all descriptors of a living process, in the order of their numbers
abbrev pub files_lines : Tree → ProcessState → List ℕ
files_lines t h = if is_ended h then [] else flat_map (file_lines t (held_set h)) h.files

-- the line of a descriptor as the code has it
abbrev pub line_of : Held → List ℕ → List ℕ
line_of held path = held_line held.number held.kind held.uses.now path

-- a word behind those before it
abbrev pub with_use : List ℕ → Bool → List ℕ → List ℕ
with_use text false word = text
with_use [] true word = word
with_use (b ∷ more) true word = (b ∷ more) ++ 44 ∷ word

-- the laws: each descriptor of a living process has its lines in what a list says, and among them stands that of each name of what it
-- stands for, unless that is a directory
pub record FilesArePrinted : Type 0 where
  pub each : (t : Tree) (h : ProcessState) (number : ℕ) (file : OpenFile) → is_ended h ≡ false → Contains h.files (number, file) →
      (before : List ℕ) × (after : List ℕ) × (files_lines t h ≡ before ++ file_lines t (held_set h) (number, file) ++ after)
  pub named : (t : Tree) (set number : ℕ) (file : OpenFile) (spot : Spot) → is_dir t file.node ≡ false →
      Contains t.rows (spot, file.node) → (before : List ℕ) × (after : List ℕ) × (file_lines t set (number, file)
      ≡ before ++ held_line number file.kind (uses_text set file) (spot_text t spot) ++ after)
