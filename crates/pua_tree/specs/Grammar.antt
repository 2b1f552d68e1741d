-- What a listing is as a text: the lines that spell its entries, each of which fits those before it.
use Rattle.std.specs.Prelude.{◌≡◌, ℕ, ◌+◌, Bool, true, false, not, ◌&&◌, List, [], ◌∷◌, ◌++◌, map, length, Option, Some}
use Rattle.std.specs.Prelude.{None, codes, decimal, IsTrue, nat_lt, nat_le, ◌==◌, option_map, Ok, ◌↔◌, if◌then◌else◌}
use Rattle.std.specs.List.{list_all}
use Rattle.std.specs.Str.Lines.{lines}
use Rattle.pua_tree.specs.Limits.{highest_listed, most_wide_names}
use Rattle.pua_tree.specs.Names.{is_name, is_target}
use Rattle.pua_tree.specs.Spelling.{spelling, bytes_spelled}
use Rattle.pua_tree.specs.Kinds.{about_kind}
use Rattle.pua_tree.specs.Tree.{Node, Tree, WellFormed, is_dir_kind}
use Rattle.pua_tree.specs.declared.form.Form.{Form}
use Rattle.pua_tree.specs.declared.form.Form.TheVariants.{First, Second, Third}
use Rattle.pua_tree.specs.Listing.{knows_hard, knows_types, most_listed_of}
use Rattle.pua_tree.specs.Listing.{Entry, last_number, is_earlier_dir, is_earlier_other, is_taken, tree_of, listing, listing_of_lines}
use Rattle.pua_tree.specs.declared.node.Kind.{Kind}
use Rattle.pua_tree.specs.declared.node.Kind.TheVariants.{Dir, File, Link, Known}

-- the word of a file of which no more is known
abbrev pub file_word : Form → List ℕ
file_word First = codes "file"
file_word Second = codes "file"
file_word Third = codes "any"

-- of a directory at which a file system is mounted, and of one at which none is
abbrev pub dir_word : Bool → List ℕ
dir_word false = codes "dir"
dir_word true = codes "mount"

abbrev pub listing_kind_word : Form → Bool → Kind → List ℕ
listing_kind_word form mount Dir = dir_word mount
listing_kind_word form mount File = file_word form
listing_kind_word form mount kind = (about_kind kind).word

-- the word of a line: the kind of what it makes, if it makes something, and whether a file system is mounted there
abbrev pub line_word : Form → Bool → Option Kind → List ℕ
line_word form mount None = codes "hard"
line_word form mount (Some kind) = listing_kind_word form mount kind

abbrev pub is_mount_made : Option Node → Bool
is_mount_made None = false
is_mount_made (Some made) = made.mount

-- a link's target stands in a field of its own, and so does the node of a hard link
abbrev pub target_field : Option (List ℕ) → List ℕ
target_field None = []
target_field (Some target) = 32 ∷ spelling target

abbrev pub last_field : ℕ → Option Node → List ℕ
last_field node None = 32 ∷ decimal node
last_field node (Some made) = target_field made.target

-- the line that spells an entry
abbrev pub entry_text : Form → Entry → List ℕ
entry_text form e = decimal e.number ++ 32 ∷ line_word form (is_mount_made e.made) (option_map (λ made. made.kind) e.made) ++ 32 ∷ decimal e.parent ++ 32
    ∷ spelling e.name ++ last_field e.node e.made

-- a target stands exactly at links, and its bytes are below 256, as a name's are
abbrev pub target_stands : Kind → Option (List ℕ) → Bool
target_stands Link (Some target) = is_target target && list_all (λ b. nat_lt b 256) target
target_stands Link None = false
target_stands _ None = true
target_stands _ (Some target) = false

-- a type is known where types are
abbrev pub kind_known : Form → Kind → Bool
kind_known form (Known type) = knows_types form
kind_known form kind = true

-- a file system is mounted at directories alone, and known to be where types are
abbrev pub mount_known : Form → Node → Bool
mount_known form made = if made.mount then knows_types form && is_dir_kind (Some made.kind) else true

-- a line makes the node of its row, under its own number; a hard link, where those are known, has a node of an earlier
-- line that is no directory
abbrev pub made_fits : Form → List Entry → Entry → Option Node → Bool
made_fits form earlier e None = knows_hard form && is_earlier_other earlier e.node
made_fits form earlier e (Some made) = e.node == e.number && (kind_known form made.kind && (target_stands made.kind made.target
    && mount_known form made))

-- an entry that may follow the earlier ones: its number is above theirs and at most the highest, its parent is a
-- directory of theirs, its name is one that the parent hasn't yet, and after the root there is room for its line
abbrev pub entry_fits : Form → List Entry → Entry → Bool
entry_fits form earlier e =
    nat_lt (last_number earlier) e.number && (nat_le e.number highest_listed && (is_earlier_dir earlier e.parent && (is_name e.name
    && (not (is_taken earlier e.parent e.name) && (nat_lt (length earlier + 1) (most_listed_of form)
    && made_fits form earlier e e.made)))))

abbrev pub entries_fit : Form → List Entry → List Entry → Bool
entries_fit form earlier [] = true
entries_fit form earlier (e ∷ es) = entry_fits form earlier e && entries_fit form (earlier ++ e ∷ []) es

-- the first line
abbrev pub header_text : Form → List ℕ
header_text First = codes "tree 1"
header_text Second = codes "tree 2"
header_text Third = codes "tree 3"

-- the bytes are a listing of the tree
abbrev pub IsListing : List ℕ → Tree → Type 0
IsListing bytes t = (form : Form) × (es : List Entry) × IsTrue (entries_fit form [] es)
    × (lines bytes ≡ header_text form ∷ codes "0 dir" ∷ map (entry_text form) es) × (t ≡ tree_of form es)

-- the reader accepts exactly the listings of a tree
abbrev pub ListingsAreRead : Type 0
ListingsAreRead = (bytes : List ℕ) (t : Tree) → (listing bytes ≡ Ok t) ↔ IsListing bytes t

-- the lines of a listing of the first form list the same tree in the second
abbrev pub SecondFormsAgree : Type 0
SecondFormsAgree = (texts : List (List ℕ)) (t : Tree) → listing_of_lines (header_text First ∷ texts) ≡ Ok t →
    listing_of_lines (header_text Second ∷ texts) ≡ Ok t

-- and what is listed in the second form can be listed in the third, which has a word of its own for a file of which no more is
-- known: it is the same tree, with more room
abbrev pub ThirdFormsAgree : Type 0
ThirdFormsAgree = (es : List Entry) → IsTrue (entries_fit Second [] es) →
    listing_of_lines (header_text Third ∷ codes "0 dir" ∷ map (entry_text Third) es)
    ≡ Ok (record (tree_of Second es) { room = most_wide_names })

-- what a listing lists is a tree
abbrev pub ListingsListTrees : Type 0
ListingsListTrees = (bytes : List ℕ) (t : Tree) → IsListing bytes t → WellFormed t

-- a text spells these bytes exactly where it is their spelling, so bytes have one spelling
abbrev pub SpellingsAreRead : Type 0
SpellingsAreRead = (text bytes : List ℕ) →
    (bytes_spelled text ≡ Some bytes) ↔ (IsTrue (list_all (λ b. nat_lt b 256) bytes) × (text ≡ spelling bytes))
