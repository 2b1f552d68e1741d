-- What a reader has gathered of a listing, looked up and added to.
use Rattle.pua_tree.specs.declared.form.Form.{Form}
use Rattle.pua_tree.specs.Listing.{most_lines_of}
use Rattle.pua_tree.proofs.Common.{◌≡◌, ◌<◌, ◌≤◌, ℕ, List, [], ◌∷◌, ◌++◌, Ok, Err, true, false, is_some, ltb, refl, sym, ap, subst}
use Rattle.pua_tree.proofs.Common.{◌∙◌, ◌+◌, length, false≢true, le-ltb, lt-ltb, Tree, look, is_taken, Gathers, Follows, tree_with}
use Rattle.pua_tree.specs.Listing as listing
use Rattle.pua_tree.specs.Listing.{entry_of, entry_or_fault}
use Rattle.pua_tree.specs.Reading.{follows}
use Rattle.pua_tree.specs.declared.fault.ListingFault.TheVariants.{Taken, TooMany}
use Rattle.pua_tree.proofs.Follows.{passes}
use Rattle.pua_tree.proofs.ListingGrammar.{entry_read}
use Rattle.pua_tree.proofs.ListingIsTree as trees
use Rattle.pua_tree.proofs.Entries.{Fits, fits_from, entries_push, taken_is_found, last_number_push, tree_push}

-- a name stands in the tree where an entry has taken it
pub taken_here : (form : Form) (t : Tree) (greatest : ℕ) (es : List listing.Entry) (e : listing.Entry) → Gathers form t greatest es →
    is_some (look t e.parent e.name) ≡ is_taken es e.parent e.name
taken_here form t greatest es e g = ap (λ u. is_some (look u e.parent e.name)) g.tree ∙ taken_is_found es e.parent e.name

pub taken_entry : (form : Form) (t : Tree) (greatest : ℕ) (es : List listing.Entry) (n : ℕ) (e : listing.Entry) →
    Gathers form t greatest es → is_some (look t e.parent e.name) ≡ true → entry_or_fault form es n e ≡ Err (Taken n)
taken_entry form t greatest es n e g h = let taken : is_taken es e.parent e.name ≡ true = sym (taken_here form t greatest es e g) ∙ h in
    rw taken refl

pub crowded_entry : (form : Form) (t : Tree) (greatest : ℕ) (es : List listing.Entry) (n : ℕ) (e : listing.Entry) →
    Gathers form t greatest es → is_some (look t e.parent e.name) ≡ false → (most_lines_of form) < n → entry_or_fault form es n e ≡ Err (TooMany n)
crowded_entry form t greatest es n e g h more =
    let free : is_taken es e.parent e.name ≡ false = sym (taken_here form t greatest es e g) ∙ h in
    let over : ltb (most_lines_of form) n ≡ true = lt-ltb (most_lines_of form) n more in
    rw (free, over) refl

pub admitted_entry : (form : Form) (t : Tree) (greatest : ℕ) (es : List listing.Entry) (n : ℕ) (e : listing.Entry) →
    Gathers form t greatest es → is_some (look t e.parent e.name) ≡ false → n ≤ (most_lines_of form) → entry_or_fault form es n e ≡ Ok e
admitted_entry form t greatest es n e g h few =
    let free : is_taken es e.parent e.name ≡ false = sym (taken_here form t greatest es e g) ∙ h in
    let within : ltb (most_lines_of form) n ≡ false = le-ltb (most_lines_of form) n few in
    rw (free, within) refl

-- an entry that fits the earlier ones may be put into the tree
pub fit_follows : (form : Form) (t : Tree) (greatest : ℕ) (es : List listing.Entry) (e : listing.Entry) → Gathers form t greatest es →
    Fits form es e → Follows t e
fit_follows form t greatest es e g f = subst (λ u. Follows u e) (sym g.tree) (trees.fit_follows form es e g.fit f)

-- where an entry that a line says may not be put into the tree, its name is taken
pub refused_entry : (form : Form) (t : Tree) (greatest : ℕ) (es : List listing.Entry) (n : ℕ) (text : List ℕ) (e : listing.Entry) →
    Gathers form t greatest es → n ≡ length es + 3 → n ≤ (most_lines_of form) → entry_of form es n text ≡ entry_or_fault form es n e → follows t e ≡ false →
    entry_of form es n text ≡ Err (Taken n)
refused_entry form t greatest es n text e g count few said refused =
    said ∙ elim (is_some (look t e.parent e.name)) as (λ b. is_some (look t e.parent e.name) ≡ b → entry_or_fault form es n e ≡ Err (Taken n)) [
      | true ↦ λ taken. taken_entry form t greatest es n e g taken
      | false ↦ λ free. (let read = said ∙ admitted_entry form t greatest es n e g free few in
          absurd (false≢true (sym refused ∙ passes t e (fit_follows form t greatest es e g (entry_read form es n text e count read).1))))
    ] refl

-- entries to which one more has been read
pub gathered_more : (form : Form) (t : Tree) (greatest : ℕ) (es : List listing.Entry) (e : listing.Entry) → Gathers form t greatest es →
    Fits form es e → Gathers form (tree_with t e) e.number (es ++ e ∷ [])
gathered_more form t greatest es e g f = record {
  fit = entries_push form [] es e g.fit (fits_from form es e f);
  tree = ap (λ u. tree_with u e) g.tree ∙ sym (tree_push form es e g.fit f);
  highest = sym (last_number_push es e);
}
