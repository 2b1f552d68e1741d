-- Which bytes are a listing of which tree, and else which fault comes first.
use Rattle.std.specs.Prelude.{ℕ, suc, ◌+◌, Bool, true, false, not, ◌&&◌, ◌||◌, if◌then◌else◌, List, [], ◌∷◌, ◌++◌, filter_map, nat_lt, ◌==◌}
use Rattle.std.specs.Prelude.{Option, Some, None, Result, Ok, Err, codes, ok_or, option_map}
use Rattle.std.specs.List.{list_all, list_any}
use Rattle.std.specs.Str.Lines.{lines}
use Rattle.std.specs.FinMap.{put}
use Rattle.pua_tree.specs.Limits.{highest_listed, most_listed, most_wide, most_names, most_wide_names}
use Rattle.pua_tree.specs.Names.{same_bytes, is_target}
use Rattle.pua_tree.specs.Spelling.{bytes_spelled, name_of, fields, is_field, number_within}
use Rattle.pua_tree.specs.Tree.{Node, Spot, Tree, spot_cmp, is_dir_kind}
use Rattle.pua_tree.specs.Steps.{◌>>=◌}
use Rattle.std.specs.Result.{result_ok}
use Rattle.pua_tree.specs.declared.node.Kind.{Kind}
use Rattle.pua_tree.specs.declared.node.Kind.TheVariants.{Dir, File, Prog, Link, Known}
use Rattle.pua_tree.specs.declared.node.FileType.TheVariants.{Plain, Sock, Fifo, Dev}
use Rattle.pua_tree.specs.declared.form.Form.{Form}
use Rattle.pua_tree.specs.declared.form.Form.TheVariants.{First, Second, Third}
use Rattle.pua_tree.specs.declared.fault.ListingFault.{ListingFault}
use Rattle.pua_tree.specs.declared.fault.ListingFault.TheVariants.{BadHeader, BadLine, BadNumber, BadParent, BadName, BadTarget, Taken}
use Rattle.pua_tree.specs.declared.fault.ListingFault.TheVariants.{TooMany, BadNode}

-- whether hard links are known in a form
abbrev pub knows_hard : Form → Bool
knows_hard First = false
knows_hard Second = true
knows_hard Third = true

-- whether types of files are known in a form
abbrev pub knows_types : Form → Bool
knows_types First = false
knows_types Second = false
knows_types Third = true

-- lines of a listing after its header, of which the root's is the first, and with its header
abbrev pub most_listed_of : Form → ℕ
most_listed_of First = most_listed
most_listed_of Second = most_listed
most_listed_of Third = most_wide

abbrev pub most_lines_of : Form → ℕ
most_lines_of form = most_listed_of form + 1

-- names in a tree that is listed so, the root counted
abbrev pub most_names_of : Form → ℕ
most_names_of First = most_names
most_names_of Second = most_names
most_names_of Third = most_wide_names

-- what one line says: a row, and the node that the line makes under its number; a `hard` line makes none
pub record Entry : Type 0 where
  pub number : ℕ
  pub parent : ℕ
  pub name : List ℕ
  pub node : ℕ
  pub made : Option Node

-- the fields of a line by what they are for; a `hard` line has no kind, and its last field is a node where a link's is a target; a
-- directory may be one at which a file system is mounted
pub record ListingLine : Type 0 where
  pub number : List ℕ
  pub kind : Option Kind
  pub mount : Bool
  pub parent : List ℕ
  pub name : List ℕ
  pub last : List ℕ

-- what a `file` is: of its type no more is known, but where types are known it is a plain file
abbrev pub file_by : Bool → Kind
file_by false = File
file_by true = Known Plain

-- the word of a directory at which a file system is mounted
abbrev pub is_mount_word : List ℕ → Bool
is_mount_word word = same_bytes word (codes "mount")

-- the kinds of the words that there are where types are known: a file of which no more is known, the other types, and a directory at
-- which a file system is mounted
abbrev pub typed_kind : List ℕ → Option Kind
typed_kind word =
    if same_bytes word (codes "any") then Some File
    else (if same_bytes word (codes "sock") then Some (Known Sock)
    else (if same_bytes word (codes "fifo") then Some (Known Fifo)
    else (if same_bytes word (codes "dev") then Some (Known Dev)
    else (if is_mount_word word then Some Dir else None))))

-- without a last field, where types are known or not
abbrev pub plain_kind : Bool → List ℕ → Option Kind
plain_kind types word =
    if same_bytes word (codes "dir") then Some Dir
    else (if same_bytes word (codes "file") then Some (file_by types)
    else (if same_bytes word (codes "prog") then Some Prog
    else (if types then typed_kind word else None)))

-- with a last field: the kind of a link, and none for a hard link, where those are known
abbrev pub long_kind : Bool → List ℕ → Option (Option Kind)
long_kind hard word =
    if same_bytes word (codes "link") then Some (Some Link)
    else (if hard && same_bytes word (codes "hard") then Some None else None)

-- four fields for a directory, a file or a program, and five for a link and a hard link
abbrev pub line_of_fields : Form → List (List ℕ) → Option ListingLine
line_of_fields form (number ∷ word ∷ parent ∷ name ∷ []) =
    option_map (λ kind. record {
      number = number;
      kind = Some kind;
      mount = is_mount_word word;
      parent = parent;
      name = name;
      last = [];
    })
    (plain_kind (knows_types form) word)
line_of_fields form (number ∷ word ∷ parent ∷ name ∷ last ∷ []) =
    option_map (λ kind. record {
      number = number;
      kind = kind;
      mount = false;
      parent = parent;
      name = name;
      last = last;
    }) (long_kind (knows_hard form) word)
line_of_fields form _ = None

abbrev pub listing_line : Form → List ℕ → Option ListingLine
listing_line form text = if list_all is_field (fields text) then line_of_fields form (fields text) else None

-- the number of the line before, or 0
abbrev pub last_number : List Entry → ℕ
last_number [] = 0
last_number (e ∷ []) = e.number
last_number (e ∷ f ∷ es) = last_number (f ∷ es)

-- whether a line makes a directory, or another node
abbrev pub makes_dir : Option Node → Bool
makes_dir None = false
makes_dir (Some made) = is_dir_kind (Some made.kind)

abbrev pub makes_other : Option Node → Bool
makes_other None = false
makes_other (Some made) = not (is_dir_kind (Some made.kind))

-- an earlier line made a directory under this number, or it is the root's
abbrev pub is_earlier_dir : List Entry → ℕ → Bool
is_earlier_dir earlier n = n == 0 || list_any (λ e. e.number == n && makes_dir e.made) earlier

-- an earlier line made a file, a program or a link under this number
abbrev pub is_earlier_other : List Entry → ℕ → Bool
is_earlier_other earlier n = list_any (λ e. e.number == n && makes_other e.made) earlier

abbrev pub only_if : {A : Type 0} → (A → Bool) → Option A → Option A
only_if test None = None
only_if test (Some x) = if test x then Some x else None

-- the parts of a line, read over the earlier lines
abbrev pub number_in : List Entry → ListingLine → Option ℕ
number_in earlier line = only_if (λ n. nat_lt (last_number earlier) n) (number_within 1 highest_listed line.number)

abbrev pub parent_in : List Entry → ListingLine → Option ℕ
parent_in earlier line = only_if (is_earlier_dir earlier) (number_within 0 highest_listed line.parent)

abbrev pub hard_node_in : List Entry → ListingLine → Option ℕ
hard_node_in earlier line = only_if (is_earlier_other earlier) (number_within 1 highest_listed line.last)

abbrev pub target_in : ListingLine → Option (List ℕ)
target_in line = only_if is_target (bytes_spelled line.last)

-- the node of line n's row, and what the line makes under its number: a link has a target, and a hard link makes nothing
abbrev pub node_of : List Entry → ℕ → ℕ → ListingLine → Option Kind → Result (ℕ × Option Node) ListingFault
node_of earlier n number line None = ok_or (hard_node_in earlier line) (BadNode n) >>= λ x. Ok (x, None)
node_of earlier n number line (Some Link) = ok_or (target_in line) (BadTarget n) >>= λ target. Ok (
  number,
  Some (record { kind = Link; target = Some target; mount = false }),
)
node_of earlier n number line (Some kind) = Ok (
  number,
  Some (record { kind = kind; target = None; mount = is_dir_kind (Some kind) && line.mount }),
)

abbrev pub is_taken : List Entry → ℕ → List ℕ → Bool
is_taken earlier parent name = list_any (λ e. e.parent == parent && same_bytes e.name name) earlier

-- the entry of line n, if its name is free and there is room; line 2 is the root's
abbrev pub entry_or_fault : Form → List Entry → ℕ → Entry → Result Entry ListingFault
entry_or_fault form earlier n e =
    if is_taken earlier e.parent e.name then Err (Taken n) else (if nat_lt (most_lines_of form) n then Err (TooMany n) else Ok e)

-- what line n says after the earlier ones, or its first fault
abbrev pub entry_of : Form → List Entry → ℕ → List ℕ → Result Entry ListingFault
entry_of form earlier n text = do
  line ← ok_or (listing_line form text) (BadLine n)
  number ← ok_or (number_in earlier line) (BadNumber n)
  parent ← ok_or (parent_in earlier line) (BadParent n)
  name ← ok_or (result_ok (name_of line.name)) (BadName n)
  node ← node_of earlier n number line line.kind
  entry_or_fault form earlier n (record { number = number; parent = parent; name = name; node = node.0; made = node.1 })

-- what further lines say after the earlier ones, or the fault of the first line that has one
abbrev pub entries_of : Form → List Entry → ℕ → List (List ℕ) → Result (List Entry) ListingFault
entries_of form earlier n [] = Ok earlier
entries_of form earlier n (text ∷ texts) = entry_of form earlier n text >>= λ e. entries_of form (earlier ++ e ∷ []) (suc n) texts

-- the tree of the lines: the root, their rows and what they make, and a number above the greatest
abbrev pub rows_of_entries : List Entry → List (Spot × ℕ)
rows_of_entries [] = []
rows_of_entries (e ∷ es) = put spot_cmp (e.parent, e.name) e.node (rows_of_entries es)

abbrev pub made_entry : Entry → Option (ℕ × Node)
made_entry e = option_map (λ made. (e.number, made)) e.made

abbrev pub root_node : Node
root_node = record { kind = Dir; target = None; mount = false }

-- what entries list, in a form
abbrev pub tree_of : Form → List Entry → Tree
tree_of form es = record {
  rows = rows_of_entries es;
  nodes = (0, root_node) ∷ filter_map made_entry es;
  next = suc (last_number es);
  room = most_names_of form;
}

-- the form, by the first line
abbrev pub header : List ℕ → Result Form ListingFault
header text =
    if same_bytes text (codes "tree 1") then Ok First
    else (if same_bytes text (codes "tree 2") then Ok Second
    else (if same_bytes text (codes "tree 3") then Ok Third else Err BadHeader))

abbrev pub after_header : Form → List (List ℕ) → Result Tree ListingFault
after_header form [] = Err (BadLine 2)
after_header form (text ∷ texts) =
    if same_bytes text (codes "0 dir") then (entries_of form [] 3 texts >>= λ es. Ok (tree_of form es)) else Err (BadLine 2)

abbrev pub listing_of_lines : List (List ℕ) → Result Tree ListingFault
listing_of_lines [] = Err BadHeader
listing_of_lines (text ∷ texts) = header text >>= λ form. after_header form texts

-- the tree of which the bytes are a listing, or their first fault
abbrev pub listing : List ℕ → Result Tree ListingFault
listing bytes = listing_of_lines (lines bytes)
