-- The listing of a tree, as text.
use Rattle.std.specs.Prelude.{ℕ, ◌+◌, Bool, true, false, ◌||◌, if◌then◌else◌, List, [], ◌∷◌, ◌++◌, length, map, flat_map, nat_lt, nat_le}
use Rattle.std.specs.Prelude.{codes, Option, Some, None, Result, Ok, Err}
use Rattle.std.specs.List.{list_any}
use Rattle.pua_tree.specs.Limits.{most_names, most_listed, most_wide}
use Rattle.pua_tree.specs.Tree.{Tree, Node, node_at, rows_of}
use Rattle.pua_tree.specs.Grammar.{header_text, entry_text}
use Rattle.pua_tree.specs.declared.node.Kind.{Kind}
use Rattle.pua_tree.specs.declared.node.Kind.TheVariants.{Known}
use Rattle.pua_tree.specs.declared.form.Form.{Form}
use Rattle.pua_tree.specs.declared.form.Form.TheVariants.{First, Second, Third}
use Rattle.pua_listing.specs.declared.fault.ListFault.{ListFault}
use Rattle.pua_listing.specs.declared.fault.ListFault.TheVariants.{TooManyNames}
use Rattle.pua_listing.specs.Entries.{entries}

-- some node has two names
abbrev pub has_second_names : Tree → Bool
has_second_names t = list_any (λ row. nat_lt 1 (rows_of t row.1)) t.rows

-- the type of a file is known
abbrev pub is_known : Kind → Bool
is_known (Known type) = true
is_known _ = false

-- what the third form alone knows of a node: its type, or that a file system is mounted there
abbrev pub is_typed : Option Node → Bool
is_typed None = false
is_typed (Some node) = node.mount || is_known node.kind

abbrev pub has_types : Tree → Bool
has_types t = list_any (λ row. is_typed (node_at t row.1)) t.rows

-- the third form for a tree of more names than the others list, or with room for more, or with types or mounts that they don't know; of
-- the others the second where it is needed
abbrev pub form_for : Tree → Bool → Bool → Form
form_for t types second_names =
    if types || (nat_lt most_names t.room || nat_le most_listed (length t.rows)) then Third
    else (if second_names then Second else First)

abbrev pub form_of : Tree → Form
form_of t = form_for t (has_types t) (has_second_names t)

-- lines that end in LF
abbrev pub text_of_lines : List (List ℕ) → List ℕ
text_of_lines lines = flat_map (λ line. line ++ 10 ∷ []) lines

-- the first line, and that of the root
abbrev pub head_text : Form → List ℕ
head_text form = text_of_lines (header_text form ∷ codes "0 dir" ∷ [])

-- the listing of a tree
abbrev pub listing_text : Tree → List ℕ
listing_text t = head_text (form_of t) ++ text_of_lines (map (entry_text (form_of t)) (entries t))

-- which has a line for each name, and so is a listing only of a tree with no more names
abbrev pub listed : Tree → Result (List ℕ) ListFault
listed t = if nat_lt most_wide (length t.rows + 1) then Err TooManyNames else Ok (listing_text t)
