-- How far the lines of a listing have been read.
use Rattle.pua_tree.specs.declared.form.Form.{Form}
use Rattle.pua_tree.specs.Listing.{most_lines_of}
use Rattle.pua_tree.proofs.Common.{◌≡◌, ◌≢◌, ◌≤◌, ◌+◌, ℕ, suc, List, [], ◌∷◌, ◌++◌, length, Ok, Err, sym, ap, ◌∙◌, refl, map, arith}
use Rattle.pua_tree.proofs.Common.{Tree, entry_of, tree_of, Gathers, ListingFault}
use Rattle.std.proofs.Common.{length-append, add-one}
use Rattle.std.specs.Prelude.{codes}
use Rattle.pua_tree.specs.Listing as listing
use Rattle.pua_tree.specs.Listing.{entries_of, after_header, listing_of_lines}
use Rattle.pua_tree.specs.declared.fault.ListingFault.TheVariants.{BadLine}
use Rattle.bstr.specs.Text.{lines_of, without_terminator}
use Rattle.pua_tree.proofs.Base.{other_word}
use Rattle.pua_tree.proofs.Lines.{lines_agree}
use Rattle.pua_tree.proofs.ListingGrammar.{entries_more, entries_stop}

-- n lines with the header have been read, and the further ones go on from there
pub record IsSoFar (form : Form) (all rest : List (List ℕ)) (n : ℕ) (t : Tree) (greatest : ℕ) : Type 0 where
  pub es : List listing.Entry
  pub gathers : Gathers form t greatest es
  pub count : n ≡ length es + 2
  pub few : n ≤ most_lines_of form
  pub so_far : entries_of form [] 3 all ≡ entries_of form es (suc n) rest

next_line : (form : Form) (all rest more : List (List ℕ)) (n next : ℕ) (t : Tree) (greatest : ℕ) (text : List ℕ)
    (s : IsSoFar form all rest n t greatest) → rest ≡ text ∷ more → next ≡ n + 1 →
    entries_of form [] 3 all ≡ entries_of form s.es next (text ∷ more)
next_line form all rest more n next t greatest text s e f = s.so_far ∙ ap (entries_of form s.es (suc n)) e ∙
    ap (λ m. entries_of form s.es m (text ∷ more)) (sym (f ∙ add-one n))

-- a line more has been read
pub one_more : (form : Form) (all rest more : List (List ℕ)) (n next : ℕ) (t after : Tree) (greatest new : ℕ) (text : List ℕ) →
    IsSoFar form all rest n t greatest → rest ≡ text ∷ more → next ≡ n + 1 → next ≤ most_lines_of form
    → ((es : List listing.Entry) → Gathers form t greatest es → next ≡ length es + 3 →
    (e : listing.Entry) × (entry_of form es next text ≡ Ok e) × Gathers form after new (es ++ e ∷ [])) →
    IsSoFar form all more next after new
one_more form all rest more n next t after greatest new text s e f few read =
    let got = read s.es s.gathers (omega (arith, s.count)) in
    record {
      es = s.es ++ got.0 ∷ [];
      gathers = got.2;
      count = omega (arith, s.count, length-append s.es (got.0 ∷ []));
      few = few;
      so_far = next_line form all rest more n next t greatest text s e f ∙ entries_more form s.es next text more got.0 got.1;
    }

-- the line has a fault
pub one_stops : (form : Form) (all rest more : List (List ℕ)) (n next : ℕ) (t : Tree) (greatest : ℕ) (text : List ℕ)
    (fault : ListingFault) → IsSoFar form all rest n t greatest → rest ≡ text ∷ more → next ≡ n + 1
    → ((es : List listing.Entry) → Gathers form t greatest es → next ≡ length es + 3 → entry_of form es next text ≡ Err fault) →
    entries_of form [] 3 all ≡ Err fault
one_stops form all rest more n next t greatest text fault s e f read =
    next_line form all rest more n next t greatest text s e f ∙
    entries_stop form s.es next text more fault (read s.es s.gathers (omega (arith, s.count)))

-- a listing by the lines that are read
pub by_lines : (bytes : List ℕ) (read : List (List ℕ)) → read ≡ map without_terminator (lines_of bytes) →
    listing.listing bytes ≡ listing_of_lines read
by_lines bytes read e = ap listing_of_lines (sym (e ∙ lines_agree bytes))

pub no_root : (form : Form) (all : List (List ℕ)) → ((rest : List (List ℕ)) → all ≢ codes "0 dir" ∷ rest) →
    after_header form all ≡ Err (BadLine 2)
no_root form [] h = refl
no_root form (text ∷ texts) h = rw (other_word text (codes "0 dir") (λ e. h texts (ap (λ t. t ∷ texts) e))) refl

pub entries_fault : (form : Form) (all rest : List (List ℕ)) (fault : ListingFault) → all ≡ codes "0 dir" ∷ rest →
    entries_of form [] 3 rest ≡ Err fault → after_header form all ≡ Err fault
entries_fault form all rest fault e f = rw (e, f) refl

pub entries_tree : (form : Form) (all rest : List (List ℕ)) (es : List listing.Entry) → all ≡ codes "0 dir" ∷ rest →
    entries_of form [] 3 rest ≡ Ok es → after_header form all ≡ Ok (tree_of form es)
entries_tree form all rest es e f = rw (e, f) refl
