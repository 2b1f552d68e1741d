-- A text of lines has these lines.
use Rattle.pua_listing.proofs.Common.{◌≡◌, ◌≢◌, ℕ, zero, suc, ◌+◌, ◌-◌, ◌<◌, Bool, true, false, cond, ◌==◌, List, [], ◌∷◌, ◌++◌}
use Rattle.pua_listing.proofs.Common.{length, Option, Some, None, refl, sym, ap, ◌∙◌, arith, append_assoc, list_all, and_from, and_parts, ne_eqb}
use Rattle.std.proofs.Common.{◌^◌, nat_le, take, get_or, IsTrue, decimal, option_map, leb-true, le-leb}
use Rattle.std.specs.List.{slice_split, onto_first}
use Rattle.std.specs.Str.Lines.{lines, lines_of_parts, strip_carriage_return}
use Rattle.std.proofs.lemmas.List.Folds.{list_all-append}
use Rattle.pua_tree.specs.Spelling.{spelling}
use Rattle.pua_tree.specs.Tree.{Node}
use Rattle.pua_tree.specs.Listing.{Entry}
use Rattle.pua_tree.specs.Grammar.{entry_text, is_mount_made, line_word, last_field, target_field, header_text}
use Rattle.pua_tree.specs.declared.node.Kind.{Kind}
use Rattle.pua_tree.specs.declared.node.Kind.TheVariants.{Dir, File, Known, Link, Prog}
use Rattle.pua_tree.specs.declared.node.FileType.TheVariants.{Plain, Sock, Fifo, Dev}
use Rattle.pua_tree.specs.declared.form.Form.{Form}
use Rattle.pua_tree.specs.declared.form.Form.TheVariants.{First, Second, Third}
use Rattle.pua_tree.proofs.ForCallers.{is_byte, is_visible, visible_decimal, visible_spelling}
use Rattle.pua_listing.specs.Entries.{is_target_of_bytes, leads_to_bytes}
use Rattle.pua_listing.specs.Listed.{text_of_lines}

-- no byte of a line is a control
abbrev pub is_printed : ℕ → Bool
is_printed b = nat_le 32 b

abbrev pub is_line : List ℕ → Bool
is_line line = list_all is_printed line

first_part : (line rest : List ℕ) → is_line line ≡ true → slice_split (λ b. b == 10) (line ++ 10 ∷ rest) ≡ line ∷ slice_split (λ b. b == 10) rest
first_part [] rest h = refl
first_part (b ∷ line) rest h =
    let parts = and_parts (is_printed b) (is_line line) h in
    let low = leb-true 32 b parts.0 in
    ap (λ t. cond t ([] ∷ slice_split (λ b. b == 10) (line ++ 10 ∷ rest)) (onto_first b (slice_split (λ b. b == 10) (line ++ 10 ∷ rest))))
    (ne_eqb b 10 (λ e. omega arith))
    ∙ ap (onto_first b) (first_part line rest parts.1)

-- no carriage return stands at its end
at_most_blank : (line : List ℕ) (k : ℕ) → is_line line ≡ true → get_or line k 0 ≢ 13
at_most_blank [] k h e = omega arith
at_most_blank (b ∷ line) zero h e = let low = leb-true 32 b (and_parts (is_printed b) (is_line line) h).0 in omega arith
at_most_blank (b ∷ line) (suc k) h e = at_most_blank line k (and_parts (is_printed b) (is_line line) h).1 e

kept : (line : List ℕ) → is_line line ≡ true → strip_carriage_return line ≡ line
kept line h = ap (λ t. cond t (take (length line - 1) line) line) (ne_eqb (get_or line (length line - 1) 0) 13 (at_most_blank line _ h))

some_part : (text : List ℕ) → (part : List ℕ) × (parts : List (List ℕ)) × (slice_split (λ b. b == 10) text ≡ part ∷ parts)
some_part [] = ([], [], refl)
some_part (b ∷ text) =
    let rest = some_part text in
    elim (b == 10) as (λ t. (part : List ℕ) × (parts : List (List ℕ)) × (cond t ([] ∷ slice_split (λ b. b == 10) text)
    (onto_first b (slice_split (λ b. b == 10) text)) ≡ part ∷ parts)) [
      | true ↦ ([], slice_split (λ b. b == 10) text, refl)
      | false ↦ (b ∷ rest.0, rest.1, ap (onto_first b) rest.2)
    ]

first_of : (line rest : List ℕ) → is_line line ≡ true → lines (line ++ 10 ∷ rest) ≡ line ∷ lines rest
first_of line rest h =
    let more = some_part rest in
    ap lines_of_parts (first_part line rest h ∙ ap (λ ps. line ∷ ps) more.2)
    ∙ (λ i. kept line h i ∷ lines_of_parts (sym more.2 i))

pub lines_of_text : (ls : List (List ℕ)) → list_all is_line ls ≡ true → lines (text_of_lines ls) ≡ ls
lines_of_text [] h = refl
lines_of_text (line ∷ ls) h =
    let parts = and_parts (is_line line) (list_all is_line ls) h in
    ap lines (append_assoc line (10 ∷ []) (text_of_lines ls))
    ∙ first_of line (text_of_lines ls) parts.0
    ∙ ap (λ rest. line ∷ rest) (lines_of_text ls parts.1)

pub text-append : (ls ms : List (List ℕ)) → text_of_lines (ls ++ ms) ≡ text_of_lines ls ++ text_of_lines ms
text-append [] ms = refl
text-append (line ∷ ls) ms =
    ap (λ rest. (line ++ 10 ∷ []) ++ rest) (text-append ls ms) ∙ sym (append_assoc (line ++ 10 ∷ []) (text_of_lines ls) (text_of_lines ms))

-- ---- the line of an entry

printed : (bs : List ℕ) → IsTrue (list_all is_visible bs) → is_line bs ≡ true
printed [] h = refl
printed (b ∷ bs) h =
    let parts = and_parts (is_visible b) (list_all is_visible bs) h in
    let low = leb-true 33 b (and_parts (nat_le 33 b) (nat_le b 126) parts.0).0 in
    and_from _ _ (le-leb 32 b (omega arith)) (printed bs parts.1)

joined : (a b : List ℕ) → is_line a ≡ true → is_line b ≡ true → is_line (a ++ b) ≡ true
joined a b h g = list_all-append is_printed a b ∙ and_from _ _ h g

word_printed : (form : Form) (mount : Bool) (kind : Option Kind) → is_line (line_word form mount kind) ≡ true
word_printed form mount None = refl
word_printed form false (Some Dir) = refl
word_printed form true (Some Dir) = refl
word_printed First mount (Some File) = refl
word_printed Second mount (Some File) = refl
word_printed Third mount (Some File) = refl
word_printed form mount (Some Prog) = refl
word_printed form mount (Some Link) = refl
word_printed form mount (Some (Known Plain)) = refl
word_printed form mount (Some (Known Sock)) = refl
word_printed form mount (Some (Known Fifo)) = refl
word_printed form mount (Some (Known Dev)) = refl

target_printed : (target : Option (List ℕ)) → is_target_of_bytes target ≡ true → is_line (target_field target) ≡ true
target_printed None h = refl
target_printed (Some target) h = printed (spelling target) (visible_spelling target h)

last_printed : (node : ℕ) (made : Option Node) → node < 2 ^ 64 → leads_to_bytes made ≡ true → is_line (last_field node made) ≡ true
last_printed node None small h = printed (decimal node) (visible_decimal node small)
last_printed node (Some made) small h = target_printed made.target h

pub entry_printed : (form : Form) (e : Entry) → e.number < 2 ^ 64 → e.parent < 2 ^ 64 → e.node < 2 ^ 64 → IsTrue (list_all is_byte e.name) →
    leads_to_bytes e.made ≡ true → is_line (entry_text form e) ≡ true
entry_printed form e n p x name made =
    let kind : Option Kind = option_map (λ made. made.kind) e.made in
    let number : List ℕ = decimal e.number in
    let own : List ℕ = line_word form (is_mount_made e.made) kind in
    let word : List ℕ = number ++ 32 ∷ own in
    let parent : List ℕ = word ++ 32 ∷ decimal e.parent in
    let named : List ℕ = parent ++ 32 ∷ spelling e.name in
    joined named (last_field e.node e.made) (joined parent (32 ∷ spelling e.name) (joined word (32 ∷ decimal e.parent)
    (joined number (32 ∷ own) (printed number (visible_decimal e.number n)) (word_printed form (is_mount_made e.made) kind))
    (printed (decimal e.parent) (visible_decimal e.parent p))) (printed (spelling e.name) (visible_spelling e.name name)))
    (last_printed e.node e.made x made)

pub head_printed : (form : Form) → is_line (header_text form) ≡ true
head_printed First = refl
head_printed Second = refl
head_printed Third = refl
