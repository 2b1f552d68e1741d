-- How a line is judged by what the lines before it have gathered.
use Rattle.pua_tree.specs.declared.form.Form.{Form}
use Rattle.pua_tree.proofs.Common.{◌≡◌, ℕ, not, ◌&&◌, List, [], Option, Some, None, Ok, Err, ltb, refl, ap, ◌∙◌, is_target, name_of}
use Rattle.pua_tree.proofs.Common.{number_within, bytes_spelled, Node, Tree, is_dir, is_living, ListingLine, only_if, number_in, parent_in}
use Rattle.pua_tree.proofs.Common.{hard_node_in, node_of, listing_line, entry_of, is_earlier_dir, is_earlier_other, Gathers}
use Rattle.pua_tree.proofs.Common.{Kind, Link, ListingFault, is_dir_kind}
use Rattle.std.proofs.Common.{IsTrue}
use Rattle.pua_tree.specs.Listing as listing
use Rattle.pua_tree.specs.Listing.{entry_or_fault}
use Rattle.pua_tree.specs.declared.fault.NameFault.{NameFault}
use Rattle.pua_tree.specs.declared.fault.ListingFault.TheVariants.{BadParent, BadName, BadNode}
use Rattle.pua_tree.proofs.Base.{only_if_same}
use Rattle.pua_tree.proofs.Entries.{entries_rise, earlier_dir_is_found, earlier_other_is_found}

-- the number of a line, over what was gathered
pub number_here : (form : Form) (t : Tree) (greatest : ℕ) (es : List listing.Entry) (line : ListingLine) → Gathers form t greatest es →
    only_if (λ n. ltb greatest n) (number_within 1 999999 line.number) ≡ number_in es line
number_here form t greatest es line g = ap (λ l. only_if (λ n. ltb l n) (number_within 1 999999 line.number)) g.highest

-- a directory of the tree is one of an earlier line
pub dir_here : (form : Form) (t : Tree) (greatest : ℕ) (es : List listing.Entry) → Gathers form t greatest es → (n : ℕ) →
    is_dir t n ≡ is_earlier_dir es n
dir_here form t greatest es g n = ap (λ u. is_dir u n) g.tree ∙ earlier_dir_is_found form es n 0 (entries_rise form [] es g.fit)

-- its parent
pub parent_here : (form : Form) (t : Tree) (greatest : ℕ) (es : List listing.Entry) (line : ListingLine) → Gathers form t greatest es →
    only_if (is_dir t) (number_within 0 999999 line.parent) ≡ parent_in es line
parent_here form t greatest es line g =
    only_if_same (is_dir t) (is_earlier_dir es) (number_within 0 999999 line.parent) (dir_here form t greatest es g)

-- a node of the tree, and no directory, is one that an earlier line made
pub other_here : (form : Form) (t : Tree) (greatest : ℕ) (es : List listing.Entry) → Gathers form t greatest es → (n : ℕ) →
    (is_living t n && not (is_dir t n)) ≡ is_earlier_other es n
other_here form t greatest es g n = ap (λ u. is_living u n && not (is_dir u n)) g.tree ∙
    earlier_other_is_found form es n 0 (entries_rise form [] es g.fit)

-- the node of a form link
pub node_here : (form : Form) (t : Tree) (greatest : ℕ) (es : List listing.Entry) (line : ListingLine) → Gathers form t greatest es →
    only_if (λ x. is_living t x && not (is_dir t x)) (number_within 1 999999 line.last) ≡ hard_node_in es line
node_here form t greatest es line g =
    only_if_same (λ x. is_living t x && not (is_dir t x)) (is_earlier_other es) (number_within 1 999999 line.last)
    (other_here form t greatest es g)

pub tied_node : (es : List listing.Entry) (n number node : ℕ) (line : ListingLine) → line.kind ≡ None → hard_node_in es line ≡ Some node →
    node_of es n number line line.kind ≡ Ok (node, None)
tied_node es n number node line k e = rw (k, e) refl

pub no_node : (es : List listing.Entry) (n number : ℕ) (line : ListingLine) → line.kind ≡ None → hard_node_in es line ≡ None →
    node_of es n number line line.kind ≡ Err (BadNode n)
no_node es n number line k e = rw (k, e) refl

pub bad_parent : (form : Form) (es : List listing.Entry) (n : ℕ) (text : List ℕ) (line : ListingLine) (number : ℕ) →
    listing_line form text ≡ Some line → number_in es line ≡ Some number → parent_in es line ≡ None →
    entry_of form es n text ≡ Err (BadParent n)
bad_parent form es n text line number l m p = rw (l, m, p) refl

pub bad_name : (form : Form) (es : List listing.Entry) (n : ℕ) (text : List ℕ) (line : ListingLine) (number parent : ℕ)
    (fault : NameFault) → listing_line form text ≡ Some line → number_in es line ≡ Some number → parent_in es line ≡ Some parent →
    name_of line.name ≡ Err fault
    → entry_of form es n text ≡ Err (BadName n)
bad_name form es n text line number parent fault l m p q = rw (l, m, p, q) refl

pub bad_node : (form : Form) (es : List listing.Entry) (n : ℕ) (text : List ℕ) (line : ListingLine) (number parent : ℕ) (name : List ℕ)
    (fault : ListingFault) → listing_line form text ≡ Some line → number_in es line ≡ Some number → parent_in es line ≡ Some parent
    → name_of line.name ≡ Ok name → node_of es n number line line.kind ≡ Err fault → entry_of form es n text ≡ Err fault
bad_node form es n text line number parent name fault l m p q k = rw (l, m, p, q, k) refl

pub whole_entry : (form : Form) (es : List listing.Entry) (n : ℕ) (text : List ℕ) (line : ListingLine) (number parent : ℕ) (name : List ℕ)
    (node : ℕ) (made : Option Node) → listing_line form text ≡ Some line → number_in es line ≡ Some number → parent_in es line ≡ Some parent
    → name_of line.name ≡ Ok name → node_of es n number line line.kind ≡ Ok (node, made) →
    entry_of form es n text ≡ entry_or_fault form es n (record { number = number; parent = parent; name = name; node = node; made = made })
whole_entry form es n text line number parent name node made l m p q k = rw (l, m, p, q, k) refl

-- a link's target that was read
pub link_target : (es : List listing.Entry) (n number : ℕ) (line : ListingLine) (kind : Kind) (target : List ℕ) → kind ≡ Link →
    bytes_spelled line.last ≡ Some target → IsTrue (is_target target)
    → node_of es n number line (Some kind) ≡ Ok (number, Some (record { kind = kind; target = Some target; mount = is_dir_kind (Some kind) && line.mount }))
link_target es n number line kind target k u t = rw (k, u, t) refl
