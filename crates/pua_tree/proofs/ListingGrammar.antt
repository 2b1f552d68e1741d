-- A listing is read as the entries that its lines spell, and as nothing else.
use Rattle.pua_tree.specs.declared.form.Form.{Form}
use Rattle.pua_tree.specs.declared.form.Form.TheVariants.{First, Second, Third}
use Rattle.pua_tree.specs.declared.node.FileType.TheVariants.{Plain, Sock, Fifo, Dev}
use Rattle.pua_tree.specs.Listing.{knows_hard, knows_types, most_lines_of}
use Rattle.pua_tree.proofs.Common.{◌≡◌, ℕ, suc, ◌+◌, ◌<◌, ◌≤◌, Bool, true, false, cond, not, ◌&&◌, leb, ltb, List, [], ◌∷◌, ◌++◌, map}
use Rattle.pua_tree.proofs.Common.{length, Option, Some, None, Result, Ok, Err, option_map, refl, sym, ap, subst, ◌∙◌, arith, append-nil}
use Rattle.pua_tree.proofs.Common.{append_assoc, true≢false, IsTrue, list_all, lt-ltb, ltb-true, ltb-false, le-ltb, and_parts, and_from}
use Rattle.pua_tree.proofs.Common.{cond-true, cond-false, length-append, is_name, is_target, has_byte, same_bytes, bytes_spelled, name_of}
use Rattle.pua_tree.proofs.Common.{fields, is_field, number_within, Node, Tree, WellFormed, Entry, ListingLine, line_of_fields}
use Rattle.pua_tree.proofs.Common.{listing_line, last_number, is_earlier_dir, is_earlier_other, only_if, number_in, parent_in, hard_node_in}
use Rattle.pua_tree.proofs.Common.{node_of, is_taken, entry_of, tree_of, made_fits, entry_fits, entries_fit, Kind, Dir, File, Prog, Link, Known}
use Rattle.pua_tree.proofs.Common.{ListingFault}
use Rattle.std.proofs.Common.{ok_or, decimal, codes}
use Rattle.std.specs.List.{join_with_byte}
use Rattle.std.specs.Str.Lines.{lines}
use Rattle.std.specs.Result.{result_ok}
use Rattle.std.proofs.lemmas.Bool.{eq-eqb, eqb-true}
use Rattle.pua_tree.specs.Names.{has_short_components}
use Rattle.pua_tree.specs.Spelling.{spelling}
use Rattle.pua_tree.specs.Steps.{◌>>=◌}
use Rattle.pua_tree.specs.Listing.{file_by, is_mount_word, plain_kind, long_kind, typed_kind}
use Rattle.pua_tree.specs.Listing.{target_in}
use Rattle.pua_tree.specs.Listing.{entries_of, header, after_header, listing_of_lines}
use Rattle.std.specs.Prelude.{if◌then◌else◌}
use Rattle.pua_tree.proofs.Common.{is_dir_kind}
use Rattle.std.proofs.Math.Bool.{and-false}
use Rattle.pua_tree.specs.Grammar.{mount_known, is_mount_made, dir_word}
use Rattle.pua_tree.specs.Grammar.{kind_known, file_word, listing_kind_word, line_word, target_field, last_field, entry_text, target_stands}
use Rattle.pua_tree.specs.Grammar.{header_text, ListingsAreRead, SecondFormsAgree, ThirdFormsAgree, ListingsListTrees, SpellingsAreRead}
use Rattle.pua_tree.specs.declared.fault.ListingFault.TheVariants.{BadHeader, BadLine, BadNumber, BadParent, BadName, BadTarget, Taken}
use Rattle.pua_tree.specs.declared.fault.ListingFault.TheVariants.{TooMany, BadNode}
use Rattle.pua_tree.proofs.Base.{same_Some, None≢Some, mapped, Err≢Ok, same_Ok, past, passed, ok_or_read, result_ok_read}
use Rattle.pua_tree.proofs.Base.{same_word, step_read, step_from, only_if_read}
use Rattle.pua_tree.proofs.Entries.{Fits, fits_parts, fits_from, entries_rise, entries_push, parent_below, earlier_below}
use Rattle.pua_tree.proofs.ListingIsTree.{well_formed}
use Rattle.pua_tree.proofs.Spellings.{is_byte, is_visible, unspelled-spelling, spelling-unspelled, bytes_unspelled, name_is_bytes}
use Rattle.pua_tree.proofs.Spellings.{name_of-spelling, name_read, decimal_within, number_read, fields_cons, fields_one, fields_joined}
use Rattle.pua_tree.proofs.Spellings.{is_field-decimal, is_field-spelling}

-- the field that a line has after its name
abbrev last_text : Option Kind → List ℕ → List ℕ
last_text None last = 32 ∷ last
last_text (Some Link) last = 32 ∷ last
last_text (Some Dir) last = []
last_text (Some File) last = []
last_text (Some Prog) last = []
last_text (Some (Known type)) last = []

abbrev line_text : Form → ListingLine → List ℕ
line_text form l = l.number ++ 32 ∷ (line_word form l.mount l.kind ++ 32 ∷ (l.parent ++ 32 ∷ (l.name ++ last_text l.kind l.last)))

regrouped : (a b c d t : List ℕ) → a ++ 32 ∷ b ++ 32 ∷ c ++ 32 ∷ d ++ t ≡ a ++ 32 ∷ (b ++ 32 ∷ (c ++ 32 ∷ (d ++ t)))
regrouped a b c d t = append_assoc (a ++ 32 ∷ b ++ 32 ∷ c) (32 ∷ d) t ∙ append_assoc (a ++ 32 ∷ b) (32 ∷ c) (32 ∷ (d ++ t)) ∙
    append_assoc a (32 ∷ b) (32 ∷ (c ++ 32 ∷ (d ++ t)))

-- a mount is known where types are
abbrev mark_known : Form → Bool → Bool
mark_known form mount = if mount then knows_types form else true

-- a word names one kind, whose word it is, and which the form knows
abbrev IsPlain : Form → List ℕ → Kind → Type 0
IsPlain form word kind = (word ≡ listing_kind_word form (is_mount_word word) kind) × IsTrue (kind_known form kind)
    × ((last : List ℕ) → last_text (Some kind) last ≡ []) × IsTrue (mark_known form (is_mount_word word))

file_read : (form : Form) (word : List ℕ) → word ≡ codes "file" → IsPlain form word (file_by (knows_types form))
file_read First word e = (e, refl, λ last. refl, ap (λ w. mark_known First (is_mount_word w)) e)
file_read Second word e = (e, refl, λ last. refl, ap (λ w. mark_known Second (is_mount_word w)) e)
file_read Third word e = (e, refl, λ last. refl, ap (λ w. mark_known Third (is_mount_word w)) e)

plain_kind_read : (form : Form) (word : List ℕ) (kind : Kind) → plain_kind (knows_types form) word ≡ Some kind → IsPlain form word kind
plain_kind_read form word kind e =
    dir (same_bytes word (codes "dir")) (same_bytes word (codes "file")) (same_bytes word (codes "prog")) refl refl refl e
  where
    is : (k : Kind) → IsPlain form word k → Some k ≡ Some kind → IsPlain form word kind
    is k p q = subst (IsPlain form word) (same_Some k kind q) p

    no_mount : (other : List ℕ) → word ≡ other → is_mount_word other ≡ false → IsTrue (mark_known form (is_mount_word word))
    no_mount other e none = ap (mark_known form) (ap is_mount_word e ∙ none)

    typed : (a b c d f : Bool) → same_bytes word (codes "any") ≡ a → same_bytes word (codes "sock") ≡ b
        → same_bytes word (codes "fifo") ≡ c → same_bytes word (codes "dev") ≡ d → is_mount_word word ≡ f → form ≡ Third
        → cond a (Some File) (cond b (Some (Known Sock)) (cond c (Some (Known Fifo)) (cond d (Some (Known Dev)) (cond f (Some Dir) None))))
        ≡ Some kind → IsPlain form word kind
    typed true b c d f p q r s m third e =
        let any = same_word word _ p in
        is File (any ∙ ap file_word (sym third), refl, λ last. refl, no_mount (codes "any") any refl) e
    typed false true c d f p q r s m third e =
        let sock = same_word word _ q in
        is (Known Sock) (sock, ap knows_types third, λ last. refl, no_mount (codes "sock") sock refl) e
    typed false false true d f p q r s m third e =
        let fifo = same_word word _ r in
        is (Known Fifo) (fifo, ap knows_types third, λ last. refl, no_mount (codes "fifo") fifo refl) e
    typed false false false true f p q r s m third e =
        let dev = same_word word _ s in
        is (Known Dev) (dev, ap knows_types third, λ last. refl, no_mount (codes "dev") dev refl) e
    typed false false false false true p q r s m third e =
        let mount = same_word word _ m in
        is Dir (mount ∙ ap dir_word (sym m), refl, λ last. refl, ap (mark_known form) m ∙ ap knows_types third) e
    typed false false false false false p q r s m third e = absurd (None≢Some kind e)

    other : (f : Form) → form ≡ f → cond (knows_types f) (typed_kind word) None ≡ Some kind → IsPlain form word kind
    other First is e = absurd (None≢Some kind e)
    other Second is e = absurd (None≢Some kind e)
    other Third is e = typed (same_bytes word (codes "any")) (same_bytes word (codes "sock")) (same_bytes word (codes "fifo"))
        (same_bytes word (codes "dev")) (is_mount_word word) refl refl refl refl refl is e

    dir : (a b c : Bool) → same_bytes word (codes "dir") ≡ a → same_bytes word (codes "file") ≡ b → same_bytes word (codes "prog") ≡ c
        → cond a (Some Dir) (cond b (Some (file_by (knows_types form))) (cond c (Some Prog) (cond (knows_types form) (typed_kind word) None)))
        ≡ Some kind → IsPlain form word kind
    dir true b c p q r e =
        let plain = same_word word _ p in
        is Dir (plain ∙ ap dir_word (sym (ap is_mount_word plain)), refl, λ last. refl, no_mount (codes "dir") plain refl) e
    dir false true c p q r e = is (file_by (knows_types form)) (file_read form word (same_word word _ q)) e
    dir false false true p q r e =
        let prog = same_word word _ r in
        is Prog (prog, refl, λ last. refl, no_mount (codes "prog") prog refl) e
    dir false false false p q r e = other form refl e

-- a line's kind is known in the form, and is none where hard links are known; and so is a mount
abbrev KindKnown : Form → Option Kind → Type 0
KindKnown form None = IsTrue (knows_hard form)
KindKnown form (Some kind) = IsTrue (kind_known form kind)

abbrev IsKnown : Form → Bool → Option Kind → Type 0
IsKnown form mount kind = KindKnown form kind × IsTrue (mark_known form mount)

abbrev IsLong : Form → List ℕ → Option Kind → Type 0
IsLong form word kind = (word ≡ line_word form false kind) × KindKnown form kind × ((last : List ℕ) → last_text kind last ≡ 32 ∷ last)

long_kind_read : (form : Form) (word : List ℕ) (kind : Option Kind) → long_kind (knows_hard form) word ≡ Some kind → IsLong form word kind
long_kind_read form word kind e = link (same_bytes word (codes "link")) (knows_hard form && same_bytes word (codes "hard")) refl refl e
  where
    link : (a b : Bool) → same_bytes word (codes "link") ≡ a → (knows_hard form && same_bytes word (codes "hard")) ≡ b →
        cond a (Some (Some Link)) (cond b (Some None) None) ≡ Some kind → IsLong form word kind
    link true b p q e = subst (IsLong form word) (same_Some (Some Link) kind e) (same_word word _ p, refl, λ last. refl)
    link false true p q e = let parts = and_parts (knows_hard form) _ q in subst (IsLong form word) (same_Some None kind e) (
      same_word word _ parts.1,
      parts.0,
      λ last. refl,
    )
    link false false p q e = absurd (None≢Some kind e)

fields_read : (form : Form) (fs : List (List ℕ)) (l : ListingLine) → line_of_fields form fs ≡ Some l →
    (join_with_byte 32 fs ≡ line_text form l) × IsKnown form l.mount l.kind
fields_read form [] l e = absurd (None≢Some l e)
fields_read form (a ∷ []) l e = absurd (None≢Some l e)
fields_read form (a ∷ b ∷ []) l e = absurd (None≢Some l e)
fields_read form (a ∷ b ∷ c ∷ []) l e = absurd (None≢Some l e)
fields_read form (a ∷ b ∷ c ∷ d ∷ []) l e =
    let kind = mapped (λ kind. record { number = a; kind = Some kind; mount = is_mount_word b; parent = c; name = d; last = [] })
    (plain_kind (knows_types form) b) l e in
    let word = plain_kind_read form b kind.0 kind.1 in
    let text = (λ i. a ++ 32 ∷ (word.0 i ++ 32 ∷ (c ++ 32 ∷ (sym (append-nil d) i)))) ∙
    ap (λ t. a ++ 32 ∷ (listing_kind_word form (is_mount_word b) kind.0 ++ 32 ∷ (c ++ 32 ∷ (d ++ t)))) (sym (word.2 [])) in
    (text ∙ ap (line_text form) kind.2, subst (λ (x : ListingLine). IsKnown form x.mount x.kind) kind.2 (word.1, word.3))
fields_read form (a ∷ b ∷ c ∷ d ∷ last ∷ []) l e =
    let kind = mapped (λ kind. record { number = a; kind = kind; mount = false; parent = c; name = d; last = last })
    (long_kind (knows_hard form) b) l e in
    let word = long_kind_read form b kind.0 kind.1 in
    let text = ap (λ w. a ++ 32 ∷ (w ++ 32 ∷ (c ++ 32 ∷ (d ++ 32 ∷ last)))) word.0 ∙
    ap (λ t. a ++ 32 ∷ (line_word form false kind.0 ++ 32 ∷ (c ++ 32 ∷ (d ++ t)))) (sym (word.2 last)) in
    (text ∙ ap (line_text form) kind.2, subst (λ (x : ListingLine). IsKnown form x.mount x.kind) kind.2 (word.1, refl))
fields_read form (a ∷ b ∷ c ∷ d ∷ f ∷ g ∷ more) l e = absurd (None≢Some l e)

line_read : (form : Form) (text : List ℕ) (l : ListingLine) → listing_line form text ≡ Some l →
    (text ≡ line_text form l) × IsKnown form l.mount l.kind
line_read form text l e =
    let read = fields_read form (fields text) l (go (list_all is_field (fields text)) e) in
    (sym (fields_joined text) ∙ read.0, read.1)
  where
    go : (t : Bool) → cond t (line_of_fields form (fields text)) None ≡ Some l → line_of_fields form (fields text) ≡ Some l
    go true e = e
    go false e = absurd (None≢Some l e)

-- the node of a line's row, as its last field tells it
module _ (form : Form) (earlier : List Entry) (n number parent : ℕ) (name : List ℕ) (l : ListingLine) where
  abbrev entry : ℕ × Option Node → Entry
  entry p = record { number = number; parent = parent; name = name; node = p.0; made = p.1 }

  abbrev Told : Option Kind → ℕ × Option Node → Type 0
  Told kind p = (line_word form (is_mount_made p.1) (option_map (λ m. m.kind) p.1) ≡ line_word form l.mount kind)
      × IsTrue (made_fits form earlier (entry p) p.1) × (last_text kind l.last ≡ last_field p.0 p.1)

  mark_made : (b : Bool) → IsTrue (mark_known form b) → IsTrue (if b then knows_types form && true else true)
  mark_made false known = refl
  mark_made true known = and_from (knows_types form) true known refl

  node_read : (kind : Option Kind) (p : ℕ × Option Node) → IsKnown form l.mount kind → node_of earlier n number l kind ≡ Ok p → Told kind p
  node_read None p known e =
      let read = step_read (ok_or (hard_node_in earlier l) (BadNode n)) (λ x. Ok (x, None)) p e in
      let node = only_if_read (is_earlier_other earlier) (number_within 1 999999 l.last) read.0
      (ok_or_read (hard_node_in earlier l) (BadNode n) read.0 read.1) in
      let spelled = number_read 1 999999 l.last read.0 (omega arith) node.0 in
      subst (Told None) (same_Ok (read.0, None) p read.2) (refl, and_from (knows_hard form) _ known.0 node.1, ap (λ s. 32 ∷ s) spelled.0)
  node_read (Some Dir) p known e = subst (Told (Some Dir)) (same_Ok _ p e) (
    refl,
    and_from _ _ (eq-eqb number number refl) (mark_made l.mount known.1),
    refl,
  )
  node_read (Some File) p known e = subst (Told (Some File)) (same_Ok _ p e) (refl, and_from _ _ (eq-eqb number number refl) refl, refl)
  node_read (Some Prog) p known e = subst (Told (Some Prog)) (same_Ok _ p e) (refl, and_from _ _ (eq-eqb number number refl) refl, refl)
  node_read (Some (Known type)) p known e =
      subst (Told (Some (Known type))) (same_Ok _ p e) (refl, and_from _ _ (eq-eqb number number refl) (and_from _ _ known.0 refl), refl)
  node_read (Some Link) p known e =
      let read = step_read (ok_or (target_in l) (BadTarget n)) (λ target. Ok (
        number,
        Some (record { kind = Link; target = Some target; mount = false }),
      )) p e in
      let target = only_if_read is_target (bytes_spelled l.last) read.0 (ok_or_read (target_in l) (BadTarget n) read.0 read.1) in
      subst (Told (Some Link)) (same_Ok _ p read.2) (
        refl,
        and_from _ _ (eq-eqb number number refl) (and_from _ true (and_from _ _ target.1 (bytes_unspelled l.last read.0 target.0)) refl),
        ap (λ s. 32 ∷ s) (spelling-unspelled l.last read.0 target.0),
      )

-- the parts of a line, put together
parts_read : (form : Form) (earlier : List Entry) (n : ℕ) (text : List ℕ) (l : ListingLine) (number parent : ℕ) (name : List ℕ) (p : ℕ ×
    Option Node) (e : Entry) → n ≡ length earlier + 3
    → listing_line form text ≡ Some l → number_in earlier l ≡ Some number → parent_in earlier l ≡ Some parent → name_of l.name ≡ Ok name →
    node_of earlier n number l l.kind ≡ Ok p
    → cond (is_taken earlier parent name) (Err (Taken n))
    (cond (ltb (most_lines_of form) n) (Err (TooMany n)) (Ok (record { number = number; parent = parent; name = name; node = p.0; made = p.1 }))) ≡ Ok e
    → (text ≡ entry_text form e) × Fits form earlier e
parts_read form earlier n text l number parent name p e place line_is number_is parent_is name_is node_is whole =
    let entry : Entry = record { number = number; parent = parent; name = name; node = p.0; made = p.1 } in
    let line = line_read form text l line_is in
    let a = only_if_read (λ m. ltb (last_number earlier) m) (number_within 1 999999 l.number) number number_is in
    let b = number_read 1 999999 l.number number (omega arith) a.0 in
    let c = only_if_read (is_earlier_dir earlier) (number_within 0 999999 l.parent) parent parent_is in
    let d = number_read 0 999999 l.parent parent (omega arith) c.0 in
    let f = name_read l.name name name_is in
    let g = node_read form earlier n number parent name l l.kind p line.1 node_is in
    let free : is_taken earlier parent name ≡ false = (past (is_taken earlier parent name) (Taken n) _ e whole).0 in
    let rest = passed (is_taken earlier parent name) (Taken n) _ e whole in
    let small = ltb-false (most_lines_of form) n ((past (ltb (most_lines_of form) n) (TooMany n) _ e rest).0) in
    let same : entry ≡ e = same_Ok entry e (passed (ltb (most_lines_of form) n) (TooMany n) _ e rest) in
    subst (λ x. (text ≡ entry_text form x) × Fits form earlier x) same (
      line.0
          ∙ (λ i. b.0 i ++ 32 ∷ (sym g.0 i ++ 32 ∷ (d.0 i ++ 32 ∷ (f.0 i ++ g.2 i))))
          ∙ sym (regrouped (decimal number) (line_word form (is_mount_made p.1) (option_map (λ m. m.kind) p.1)) (decimal parent) (spelling name)
          (last_field p.0 p.1)),
      record {
        above = ltb-true _ _ a.1;
        small = b.2;
        in_dir = c.1;
        named = f.1;
        free = free;
        room = omega (arith, place, small);
        made = g.1;
      },
    )

-- what a line says is spelled by that line alone, and fits the earlier lines
pub entry_read : (form : Form) (earlier : List Entry) (n : ℕ) (text : List ℕ) (e : Entry) → n ≡ length earlier + 3 →
    entry_of form earlier n text ≡ Ok e → (text ≡ entry_text form e) × Fits form earlier e
entry_read form earlier n text e place h =
    let line = step_read (ok_or (listing_line form text) (BadLine n)) _ e h in
    let number = step_read (ok_or (number_in earlier line.0) (BadNumber n)) _ e line.2 in
    let parent = step_read (ok_or (parent_in earlier line.0) (BadParent n)) _ e number.2 in
    let name = step_read (ok_or (result_ok (name_of line.0.name)) (BadName n)) _ e parent.2 in
    let node = step_read (node_of earlier n number.0 line.0 line.0.kind) _ e name.2 in
    parts_read form earlier n text line.0 number.0 parent.0 name.0 node.0 e place (ok_or_read _ _ _ line.1) (ok_or_read _ _ _ number.1)
    (ok_or_read _ _ _ parent.1) (result_ok_read _ _ (ok_or_read _ _ _ name.1)) node.1 node.2

-- the last field of an entry's line
abbrev spelled_target : Option (List ℕ) → List ℕ
spelled_target None = []
spelled_target (Some target) = spelling target

abbrev spelled_last : ℕ → Option Node → List ℕ
spelled_last node None = decimal node
spelled_last node (Some made) = spelled_target made.target

visible : (field : List ℕ) → IsTrue (is_field field) → IsTrue (list_all is_visible field)
visible field h = (and_parts _ (list_all is_visible field) h).1

four_fields : (a w c rest : List ℕ) → IsTrue (is_field a) → IsTrue (is_field w) → IsTrue (is_field c) →
    fields (a ++ 32 ∷ (w ++ 32 ∷ (c ++ 32 ∷ rest))) ≡ a ∷ w ∷ c ∷ fields rest
four_fields a w c rest p q r = fields_cons a _ (visible a p) ∙
    ap (λ l. a ∷ l) (fields_cons w _ (visible w q) ∙ ap (λ l. w ∷ l) (fields_cons c rest (visible c r)))

from_fields : (form : Form) (text : List ℕ) (fs : List (List ℕ)) (l : ListingLine) → fields text ≡ fs → IsTrue (list_all is_field fs) →
    line_of_fields form fs ≡ Some l → listing_line form text ≡ Some l
from_fields form text fs l e h g = ap (λ (xs : List (List ℕ)). cond (list_all is_field xs) (line_of_fields form xs) None) e ∙
    cond-true (list_all is_field fs) (line_of_fields form fs) None h ∙ g

plain_line : (form : Form) (a w c d : List ℕ) (kind : Kind) → IsTrue (is_field a) → IsTrue (is_field c) → IsTrue (is_field d) →
    IsTrue (is_field w) → plain_kind (knows_types form) w ≡ Some kind
    → listing_line form (a ++ 32 ∷ (w ++ 32 ∷ (c ++ 32 ∷ (d ++ []))))
    ≡ Some (record { number = a; kind = Some kind; mount = is_mount_word w; parent = c; name = d; last = [] })
plain_line form a w c d kind p q r s e =
    from_fields form (a ++ 32 ∷ (w ++ 32 ∷ (c ++ 32 ∷ (d ++ [])))) (a ∷ w ∷ c ∷ d ∷ [])
    (record { number = a; kind = Some kind; mount = is_mount_word w; parent = c; name = d; last = [] })
    (four_fields a w c (d ++ []) p s q ∙ ap (λ l. a ∷ w ∷ c ∷ l) (ap fields (append-nil d) ∙ fields_one d (visible d r)))
    (and_from (is_field a) _ p (and_from (is_field w) _ s (and_from (is_field c) _ q (and_from (is_field d) _ r refl))))
    (ap (λ (o : Option Kind). option_map (λ k. record {
      number = a;
      kind = Some k;
      mount = is_mount_word w;
      parent = c;
      name = d;
      last = [];
    }) o) e)

long_line : (form : Form) (a w c d f : List ℕ) (kind : Option Kind) → IsTrue (is_field a) → IsTrue (is_field c) → IsTrue (is_field d) →
    IsTrue (is_field f) → IsTrue (is_field w) → long_kind (knows_hard form) w ≡ Some kind
    → listing_line form (a ++ 32 ∷ (w ++ 32 ∷ (c ++ 32 ∷ (d ++ 32 ∷ f))))
    ≡ Some (record { number = a; kind = kind; mount = false; parent = c; name = d; last = f })
long_line form a w c d f kind p q r s t e =
    from_fields form (a ++ 32 ∷ (w ++ 32 ∷ (c ++ 32 ∷ (d ++ 32 ∷ f)))) (a ∷ w ∷ c ∷ d ∷ f ∷ [])
    (record { number = a; kind = kind; mount = false; parent = c; name = d; last = f })
    (four_fields a w c (d ++ 32 ∷ f) p t q ∙ ap (λ l. a ∷ w ∷ c ∷ l) (fields_cons d f (visible d r) ∙
    ap (λ l. d ∷ l) (fields_one f (visible f s))))
    (and_from (is_field a) _ p
    (and_from (is_field w) _ t (and_from (is_field c) _ q (and_from (is_field d) _ r (and_from (is_field f) _ s refl)))))
    (ap (λ (o : Option (Option Kind)). option_map (λ k. record {
      number = a;
      kind = k;
      mount = false;
      parent = c;
      name = d;
      last = f;
    }) o) e)

target_parts : (target : List ℕ) → IsTrue (is_target target && list_all is_byte target) →
    (0 < length target) × IsTrue (is_target target) × IsTrue (list_all is_byte target)
target_parts target h =
    let parts = and_parts (is_target target) (list_all is_byte target) h in (
      ltb-true 0 (length target) (and_parts (ltb 0 (length target)) (leb (length target) 1023
          && (not (has_byte 0 target) && has_short_components target)) parts.0).0,
      parts.0,
      parts.1,
    )

-- the word of a kind that the form knows is read as that kind
abbrev WordWritten : Form → Bool → Kind → Type 0
WordWritten form mount kind = IsTrue (is_field (listing_kind_word form mount kind))
    × (plain_kind (knows_types form) (listing_kind_word form mount kind) ≡ Some kind)
    × (is_mount_word (listing_kind_word form mount kind) ≡ mount)

-- a mount that is known
abbrev made_mount : Form → Bool → Kind → Bool
made_mount form mount kind = if mount then knows_types form && is_dir_kind (Some kind) else true

word_written : (form : Form) (mount : Bool) (kind : Kind) → IsTrue (kind_known form kind) → IsTrue (target_stands kind None) →
    IsTrue (made_mount form mount kind) → WordWritten form mount kind
word_written form false Dir known h m = (refl, refl, refl)
word_written First true Dir known h m = absurd (true≢false (sym m))
word_written Second true Dir known h m = absurd (true≢false (sym m))
word_written Third true Dir known h m = (refl, refl, refl)
word_written form false Prog known h m = (refl, refl, refl)
word_written form mount Link known h m = absurd (true≢false (sym h))
word_written First false File known h m = (refl, refl, refl)
word_written Second false File known h m = (refl, refl, refl)
word_written Third false File known h m = (refl, refl, refl)
word_written First false (Known type) known h m = absurd (true≢false (sym known))
word_written Second false (Known type) known h m = absurd (true≢false (sym known))
word_written Third false (Known Plain) known h m = (refl, refl, refl)
word_written Third false (Known Sock) known h m = (refl, refl, refl)
word_written Third false (Known Fifo) known h m = (refl, refl, refl)
word_written Third false (Known Dev) known h m = (refl, refl, refl)
word_written form true Prog known h m = absurd (true≢false (sym (and_parts (knows_types form) false m).1))
word_written form true File known h m = absurd (true≢false (sym (and_parts (knows_types form) false m).1))
word_written form true (Known type) known h m = absurd (true≢false (sym (and_parts (knows_types form) false m).1))

no_mount_link : (form : Form) (mount : Bool) → IsTrue (made_mount form mount Link) → mount ≡ false
no_mount_link form false m = refl
no_mount_link form true m = absurd (true≢false (sym (and_parts (knows_types form) false m).1))

-- an entry's line is that of its fields
line_made : (form : Form) (a c d : List ℕ) (node : ℕ) (kind : Kind) (target : Option (List ℕ)) (mount : Bool) → IsTrue (is_field a) →
    IsTrue (is_field c) → IsTrue (is_field d) → IsTrue (kind_known form kind) → IsTrue (target_stands kind target) →
    IsTrue (made_mount form mount kind)
    → listing_line form (a ++ 32 ∷ (listing_kind_word form mount kind ++ 32 ∷ (c ++ 32 ∷ (d ++ target_field target))))
    ≡ Some (record {
      number = a;
      kind = Some kind;
      mount = mount;
      parent = c;
      name = d;
      last = spelled_last node (Some (record { kind = kind; target = target; mount = mount }));
    })
line_made form a c d node kind None mount p q r known h m =
    let word = word_written form mount kind known h m in
    plain_line form a (listing_kind_word form mount kind) c d kind p q r word.0 word.1
    ∙ ap (λ marked. Some (record { number = a; kind = Some kind; mount = marked; parent = c; name = d; last = [] })) word.2
line_made form a c d node Dir (Some t) mount p q r known h m = absurd (true≢false (sym h))
line_made form a c d node File (Some t) mount p q r known h m = absurd (true≢false (sym h))
line_made form a c d node Prog (Some t) mount p q r known h m = absurd (true≢false (sym h))
line_made form a c d node (Known type) (Some t) mount p q r known h m = absurd (true≢false (sym h))
line_made form a c d node Link (Some t) mount p q r known h m =
    let parts = target_parts t h in
    long_line form a (codes "link") c d (spelling t) (Some Link) p q r (is_field-spelling t parts.0 parts.2) refl refl
    ∙ ap (λ marked. Some (record { number = a; kind = Some Link; mount = marked; parent = c; name = d; last = spelling t }))
    (sym (no_mount_link form mount m))

line_tied : (form : Form) (a c d : List ℕ) (node : ℕ) → IsTrue (knows_hard form) → IsTrue (is_field a) → IsTrue (is_field c) →
    IsTrue (is_field d) → IsTrue (is_field (decimal node))
    → listing_line form (a ++ 32 ∷ (codes "hard" ++ 32 ∷ (c ++ 32 ∷ (d ++ 32 ∷ decimal node))))
    ≡ Some (record { number = a; kind = None; mount = false; parent = c; name = d; last = decimal node })
line_tied form a c d node known p q r s =
    long_line form a (codes "hard") c d (decimal node) None p q r s refl (ap (λ b. long_kind b (codes "hard")) known)

-- what it makes is read from its last field
node_made : (form : Form) (earlier : List Entry) (n number node : ℕ) (l : ListingLine) (kind : Kind) (target : Option (List ℕ)) →
    l.last ≡ spelled_last node (Some (record { kind = kind; target = target; mount = l.mount })) → node ≡ number →
    IsTrue (target_stands kind target) → IsTrue (made_mount form l.mount kind)
    → node_of earlier n number l (Some kind) ≡ Ok (node, Some (record { kind = kind; target = target; mount = l.mount }))
node_made form earlier n number node l kind target e own h m = by kind target e h (no_mount kind m)
  where
    no_mount : (k : Kind) → IsTrue (made_mount form l.mount k) → (is_dir_kind (Some k) && l.mount) ≡ l.mount
    no_mount k known = at l.mount known
      where
        at : (b : Bool) → IsTrue (made_mount form b k) → (is_dir_kind (Some k) && b) ≡ b
        at true known = and_from _ true (and_parts (knows_types form) _ known).1 refl
        at false known = and-false (is_dir_kind (Some k))

    made : (k : Kind) → (is_dir_kind (Some k) && l.mount) ≡ l.mount → ◌≡◌ {A = Result (ℕ × Option Node) ListingFault} (Ok (
      number,
      Some (record { kind = k; target = None; mount = is_dir_kind (Some k) && l.mount }),
    )) (Ok (node, Some (record { kind = k; target = None; mount = l.mount })))
    made k marked = λ i. Ok (sym own i, Some (record { kind = k; target = None; mount = marked i }))

    by : (k : Kind) (o : Option (List ℕ)) → l.last ≡ spelled_last node (Some (record { kind = k; target = o; mount = l.mount })) →
        IsTrue (target_stands k o) → (is_dir_kind (Some k) && l.mount) ≡ l.mount
        → node_of earlier n number l (Some k) ≡ Ok (node, Some (record { kind = k; target = o; mount = l.mount }))
    by Dir None e h marked = made Dir marked
    by File None e h marked = made File marked
    by Prog None e h marked = made Prog marked
    by (Known type) None e h marked = made (Known type) marked
    by Link None e h marked = absurd (true≢false (sym h))
    by Dir (Some t) e h marked = absurd (true≢false (sym h))
    by File (Some t) e h marked = absurd (true≢false (sym h))
    by Prog (Some t) e h marked = absurd (true≢false (sym h))
    by (Known type) (Some t) e h marked = absurd (true≢false (sym h))
    by Link (Some t) e h marked =
        let parts = target_parts t h in
        step_from (ok_or (target_in l) (BadTarget n)) (λ target. Ok (
          number,
          Some (record { kind = Link; target = Some target; mount = false }),
        )) t (node, Some (record { kind = Link; target = Some t; mount = l.mount }))
        (ap (λ o. ok_or (only_if is_target o) (BadTarget n)) (ap bytes_spelled e ∙ unspelled-spelling t parts.2) ∙
        ap (λ o. ok_or o (BadTarget n)) (cond-true (is_target t) (Some t) None parts.1))
        (λ i. Ok (sym own i, Some (record { kind = Link; target = Some t; mount = marked i })))

node_tied : (earlier : List Entry) (n number node : ℕ) (l : ListingLine) → l.last ≡ decimal node → IsTrue (is_earlier_other earlier node) →
    1 ≤ node → node ≤ 999999 → node_of earlier n number l None ≡ Ok (node, None)
node_tied earlier n number node l e h low high = step_from (ok_or (hard_node_in earlier l) (BadNode n)) (λ x. Ok (x, None)) node (
  node,
  None,
)
    (ap (λ o. ok_or (only_if (is_earlier_other earlier) o) (BadNode n)) (ap (number_within 1 999999) e ∙
    decimal_within 1 999999 node low high (omega (arith, high)))
    ∙ ap (λ o. ok_or o (BadNode n)) (cond-true (is_earlier_other earlier node) (Some node) None h))
    refl

name_some : (n : List ℕ) → IsTrue (is_name n) → 0 < length n
name_some [] h = absurd (true≢false (sym h))
name_some (b ∷ n) h = omega arith

-- the line and the node of an entry that fits
abbrev line_by : Entry → Option Node → ListingLine
line_by e m = record {
  number = decimal e.number;
  kind = option_map (λ made. made.kind) m;
  mount = is_mount_made m;
  parent = decimal e.parent;
  name = spelling e.name;
  last = spelled_last e.node m;
}

abbrev line_for : Entry → ListingLine
line_for e = line_by e e.made

abbrev Written : Form → List Entry → ℕ → Entry → Option Node → Type 0
Written form earlier n e m =
    (listing_line form (decimal e.number ++ 32 ∷ line_word form (is_mount_made m) (option_map (λ made. made.kind) m) ++ 32
    ∷ decimal e.parent ++ 32 ∷ spelling e.name ++ last_field e.node m) ≡ Some (line_by e m))
    × (node_of earlier n e.number (line_by e m) (option_map (λ made. made.kind) m) ≡ Ok (e.node, m))

last_written : (form : Form) (earlier : List Entry) (n : ℕ) (e : Entry) → IsTrue (entries_fit form [] earlier) → Fits form earlier e
    → IsTrue (is_field (decimal e.number)) → IsTrue (is_field (decimal e.parent)) → IsTrue (is_field (spelling e.name))
    → (listing_line form (entry_text form e) ≡ Some (line_for e)) × (node_of earlier n e.number (line_for e) (line_for e).kind ≡ Ok (
      e.node,
      e.made,
    ))
last_written form earlier n e h f p q r = by e.made refl
  where
    by : (m : Option Node) → e.made ≡ m → Written form earlier n e m
    by None is =
        let fits = and_parts (knows_hard form) _ (subst (λ m. IsTrue (made_fits form earlier e m)) is f.made) in
        let between = earlier_below form earlier e (entries_rise form [] earlier h) f fits.1 in (
          ap (listing_line form) (regrouped (decimal e.number) (codes "hard") (decimal e.parent) (spelling e.name) (32 ∷ decimal e.node))
              ∙ line_tied form (decimal e.number) (decimal e.parent) (spelling e.name) e.node fits.0 p q r
              (is_field-decimal e.node (omega (arith, between.1, f.small))),
          node_tied earlier n e.number e.node (line_by e None) refl fits.1 (omega (arith, between.0)) (omega (arith, between.1, f.small)),
        )
    by (Some made) is =
        let fits = and_parts _ (kind_known form made.kind && (target_stands made.kind made.target && mount_known form made))
        (subst (λ m. IsTrue (made_fits form earlier e m)) is f.made) in
        let known = and_parts (kind_known form made.kind) _ fits.1 in
        let stands = and_parts (target_stands made.kind made.target) _ known.1 in (
          ap (listing_line form) (regrouped (decimal e.number) (listing_kind_word form made.mount made.kind) (decimal e.parent) (spelling e.name)
              (target_field made.target))
              ∙ line_made form (decimal e.number) (decimal e.parent) (spelling e.name) e.node made.kind made.target made.mount p q r known.0
              stands.0 stands.1,
          node_made form earlier n e.number e.node (line_by e (Some made)) made.kind made.target refl (eqb-true e.node e.number fits.0)
              stands.0 stands.1,
        )

-- an entry that fits is read from its line
pub entry_written : (form : Form) (earlier : List Entry) (n : ℕ) (e : Entry) → n ≡ length earlier + 3 →
    IsTrue (entries_fit form [] earlier) → Fits form earlier e → entry_of form earlier n (entry_text form e) ≡ Ok e
entry_written form earlier n e place h f =
    let l : ListingLine = line_for e in
    let below : e.parent < e.number = parent_below form earlier e (entries_rise form [] earlier h) f in
    let name_field : IsTrue (is_field (spelling e.name)) =
    is_field-spelling e.name (name_some e.name f.named) (name_is_bytes e.name f.named) in
    let number_field : IsTrue (is_field (decimal e.number)) = is_field-decimal e.number (omega (arith, f.small)) in
    let parent_field : IsTrue (is_field (decimal e.parent)) = is_field-decimal e.parent (omega (arith, f.small, below)) in
    let written = last_written form earlier n e h f number_field parent_field name_field in
    let number_is : number_in earlier l ≡ Some e.number =
    ap (only_if (λ m. ltb (last_number earlier) m)) (decimal_within 1 999999 e.number (omega (arith, f.above)) f.small (omega (
      arith,
      f.small,
    )))
    ∙ cond-true (ltb (last_number earlier) e.number) (Some e.number) None (lt-ltb (last_number earlier) e.number f.above) in
    let parent_is : parent_in earlier l ≡ Some e.parent =
    ap (only_if (is_earlier_dir earlier)) (decimal_within 0 999999 e.parent (omega arith) (omega (arith, f.small, below)) (omega (
      arith,
      f.small,
      below,
    )))
    ∙ cond-true (is_earlier_dir earlier e.parent) (Some e.parent) None f.in_dir in
    step_from (ok_or (listing_line form (entry_text form e)) (BadLine n)) _ l e (ap (λ o. ok_or o (BadLine n)) written.0)
    (step_from (ok_or (number_in earlier l) (BadNumber n)) _ e.number e (ap (λ o. ok_or o (BadNumber n)) number_is)
    (step_from (ok_or (parent_in earlier l) (BadParent n)) _ e.parent e (ap (λ o. ok_or o (BadParent n)) parent_is)
    (step_from (ok_or (result_ok (name_of (spelling e.name))) (BadName n)) _ e.name e
    (ap (λ r. ok_or (result_ok r) (BadName n)) (name_of-spelling e.name f.named))
    (step_from (node_of earlier n e.number l l.kind) _ (e.node, e.made) e written.1
    (cond-false (is_taken earlier e.parent e.name) (Err (Taken n)) (cond (ltb (most_lines_of form) n) (Err (TooMany n)) (Ok e)) f.free
    ∙ cond-false (ltb (most_lines_of form) n) (Err (TooMany n)) (Ok e) (le-ltb (most_lines_of form) n (omega (arith, place, f.room))))))))

-- the first line alone decides how the lines from it on are read
pub entries_more : (form : Form) (earlier : List Entry) (n : ℕ) (text : List ℕ) (texts : List (List ℕ)) (e : Entry) →
    entry_of form earlier n text ≡ Ok e → entries_of form earlier n (text ∷ texts) ≡ entries_of form (earlier ++ e ∷ []) (suc n) texts
entries_more form earlier n text texts e h = ap (λ r. r >>= λ e. entries_of form (earlier ++ e ∷ []) (suc n) texts) h

pub entries_stop : (form : Form) (earlier : List Entry) (n : ℕ) (text : List ℕ) (texts : List (List ℕ)) (fault : ListingFault) →
    entry_of form earlier n text ≡ Err fault → entries_of form earlier n (text ∷ texts) ≡ Err fault
entries_stop form earlier n text texts fault h = ap (λ r. r >>= λ e. entries_of form (earlier ++ e ∷ []) (suc n) texts) h

-- further lines say entries that fit, each spelled by its line
pub entries_read : (form : Form) (earlier : List Entry) (n : ℕ) (texts : List (List ℕ)) (es : List Entry) → n ≡ length earlier + 3 →
    entries_of form earlier n texts ≡ Ok es
    → (more : List Entry) × (es ≡ earlier ++ more) × (texts ≡ map (entry_text form) more) × IsTrue (entries_fit form earlier more)
entries_read form earlier n [] es place h = ([], sym (same_Ok earlier es h) ∙ sym (append-nil earlier), refl, refl)
entries_read form earlier n (text ∷ texts) es place h =
    let step = step_read (entry_of form earlier n text) (λ e. entries_of form (earlier ++ e ∷ []) (suc n) texts) es h in
    let first = entry_read form earlier n text step.0 place step.1 in
    let rest = entries_read form (earlier ++ step.0 ∷ []) (suc n) texts es (omega (arith, place, length-append earlier (step.0 ∷ [])))
    step.2 in (
      step.0 ∷ rest.0,
      rest.1 ∙ append_assoc earlier (step.0 ∷ []) rest.0,
      (λ i. first.0 i ∷ rest.2 i),
      and_from (entry_fits form earlier step.0) _ (fits_from form earlier step.0 first.1) rest.3,
    )

pub entries_written : (form : Form) (earlier : List Entry) (n : ℕ) (more : List Entry) → n ≡ length earlier + 3 →
    IsTrue (entries_fit form [] earlier) → IsTrue (entries_fit form earlier more) →
    entries_of form earlier n (map (entry_text form) more) ≡ Ok (earlier ++ more)
entries_written form earlier n [] place h k = ap Ok (sym (append-nil earlier))
entries_written form earlier n (e ∷ more) place h k =
    let parts = and_parts (entry_fits form earlier e) (entries_fit form (earlier ++ e ∷ []) more) k in
    step_from (entry_of form earlier n (entry_text form e)) (λ e. entries_of form (earlier ++ e ∷ []) (suc n) (map (entry_text form) more)) e
    (earlier ++ e ∷ more) (entry_written form earlier n e place h (fits_parts form earlier e parts.0))
    (entries_written form (earlier ++ e ∷ []) (suc n) more (omega (arith, place, length-append earlier (e ∷ [])))
    (entries_push form [] earlier e h parts.0) parts.1 ∙ ap Ok (append_assoc earlier (e ∷ []) more))

held : {A E : Type 0} (t : Bool) (f : E) (r : Result A E) (x : A) → cond t r (Err f) ≡ Ok x → IsTrue t × (r ≡ Ok x)
held true f r x e = (refl, e)
held false f r x e = absurd (Err≢Ok f x e)

-- the first line
header_read : (text : List ℕ) (form : Form) → header text ≡ Ok form → text ≡ header_text form
header_read text form e =
    first (same_bytes text (codes "tree 1")) (same_bytes text (codes "tree 2")) (same_bytes text (codes "tree 3")) refl refl refl e
  where
    first : (a b c : Bool) → same_bytes text (codes "tree 1") ≡ a → same_bytes text (codes "tree 2") ≡ b
        → same_bytes text (codes "tree 3") ≡ c
        → cond a (Ok First) (cond b (Ok Second) (cond c (Ok Third) (Err BadHeader))) ≡ Ok form → text ≡ header_text form
    first true b c p q r e = same_word text _ p ∙ ap header_text (same_Ok First form e)
    first false true c p q r e = same_word text _ q ∙ ap header_text (same_Ok Second form e)
    first false false true p q r e = same_word text _ r ∙ ap header_text (same_Ok Third form e)
    first false false false p q r e = absurd (Err≢Ok BadHeader form e)

header_written : (form : Form) (texts : List (List ℕ)) → listing_of_lines (header_text form ∷ texts) ≡ after_header form texts
header_written First texts = refl
header_written Second texts = refl
header_written Third texts = refl

-- what is read was spelled so
after_read : (form : Form) (ls : List (List ℕ)) (t : Tree) → after_header form ls ≡ Ok t →
    (es : List Entry) × IsTrue (entries_fit form [] es) × (ls ≡ codes "0 dir" ∷ map (entry_text form) es) × (t ≡ tree_of form es)
after_read form [] t h = absurd (Err≢Ok (BadLine 2) t h)
after_read form (text ∷ texts) t h =
    let root = held (same_bytes text (codes "0 dir")) (BadLine 2) (entries_of form [] 3 texts >>= λ es. Ok (tree_of form es)) t h in
    let step = step_read (entries_of form [] 3 texts) (λ es. Ok (tree_of form es)) t root.1 in
    let rest = entries_read form [] 3 texts step.0 refl step.1 in
    (rest.0, rest.3, (λ i. same_word text (codes "0 dir") root.0 i ∷ rest.2 i), sym (same_Ok (tree_of form step.0) t step.2) ∙ ap (tree_of form) rest.1)

lines_read : (ls : List (List ℕ)) (t : Tree) → listing_of_lines ls ≡ Ok t →
    (form : Form) × (es : List Entry) × IsTrue (entries_fit form [] es) × (ls ≡ header_text form ∷ codes "0 dir" ∷ map (entry_text form) es) ×
    (t ≡ tree_of form es)
lines_read [] t h = absurd (Err≢Ok BadHeader t h)
lines_read (text ∷ texts) t h =
    let first = step_read (header text) (λ form. after_header form texts) t h in
    let rest = after_read first.0 texts t first.2 in
    (first.0, rest.0, rest.1, (λ i. header_read text first.0 first.1 i ∷ rest.2 i), rest.3)

lines_written : (form : Form) (es : List Entry) → IsTrue (entries_fit form [] es) →
    listing_of_lines (header_text form ∷ codes "0 dir" ∷ map (entry_text form) es) ≡ Ok (tree_of form es)
lines_written form es h =
    header_written form (codes "0 dir" ∷ map (entry_text form) es)
    ∙ step_from (entries_of form [] 3 (map (entry_text form) es)) (λ es. Ok (tree_of form es)) es (tree_of form es)
    (entries_written form [] 3 es refl refl h) refl

-- what a line of the first form makes may stand in the second, and is spelled alike there
made_more : (earlier : List Entry) (e : Entry) (m : Option Node) → IsTrue (made_fits First earlier e m) →
    IsTrue (made_fits Second earlier e m)
made_more earlier e None h = absurd (true≢false (sym h))
made_more earlier e (Some made) h =
    let parts = and_parts _ _ h in
    let known = and_parts (kind_known First made.kind) _ parts.1 in
    let stands = and_parts (target_stands made.kind made.target) _ known.1 in
    and_from _ _ parts.0 (and_from _ _ (by made.kind known.0) (and_from _ _ stands.0 (ap (marked made.kind) (unmarked made.mount stands.1))))
  where
    by : (kind : Kind) → IsTrue (kind_known First kind) → IsTrue (kind_known Second kind)
    by Dir h = refl
    by File h = refl
    by Prog h = refl
    by Link h = refl
    by (Known type) h = h

    marked : Kind → Bool → Bool
    marked kind mount = made_mount Second mount kind

    unmarked : (mount : Bool) → IsTrue (made_mount First mount made.kind) → mount ≡ false
    unmarked false h = refl
    unmarked true h = absurd (true≢false (sym h))

fit_more : (earlier es : List Entry) → IsTrue (entries_fit First earlier es) → IsTrue (entries_fit Second earlier es)
fit_more earlier [] h = refl
fit_more earlier (e ∷ es) h =
    let parts = and_parts (entry_fits First earlier e) (entries_fit First (earlier ++ e ∷ []) es) h in
    let f = fits_parts First earlier e parts.0 in
    and_from (entry_fits Second earlier e) _
    (fits_from Second earlier e
    (record {
      above = f.above;
      small = f.small;
      in_dir = f.in_dir;
      named = f.named;
      free = f.free;
      room = f.room;
      made = made_more earlier e e.made f.made;
    }))
    (fit_more (earlier ++ e ∷ []) es parts.1)

same_kind_word : (mount : Bool) (kind : Kind) → listing_kind_word First mount kind ≡ listing_kind_word Second mount kind
same_kind_word mount Dir = refl
same_kind_word mount File = refl
same_kind_word mount Prog = refl
same_kind_word mount Link = refl
same_kind_word mount (Known type) = refl

same_line_word : (mount : Bool) (kind : Option Kind) → line_word First mount kind ≡ line_word Second mount kind
same_line_word mount None = refl
same_line_word mount (Some kind) = same_kind_word mount kind

same_texts : (es : List Entry) → map (entry_text First) es ≡ map (entry_text Second) es
same_texts [] = refl
same_texts (e ∷ es) = λ i.
    (decimal e.number ++ 32 ∷ same_line_word (is_mount_made e.made) (option_map (λ made. made.kind) e.made) i ++ 32 ∷ decimal e.parent ++ 32 ∷ spelling e.name
    ++ last_field e.node e.made) ∷ same_texts es i

pub second_forms_agree : SecondFormsAgree
second_forms_agree texts t h =
    let read = after_read First texts t (sym (header_written First texts) ∙ h) in
    ap (λ (ls : List (List ℕ)). listing_of_lines (header_text Second ∷ ls)) (read.2 ∙ ap (λ ls. codes "0 dir" ∷ ls) (same_texts read.0))
    ∙ lines_written Second read.0 (fit_more [] read.0 read.1) ∙ ap Ok (sym read.3)

-- and in a listing of the third form all kinds are known, and there is room for more
known_there : (kind : Kind) → IsTrue (kind_known Third kind)
known_there Dir = refl
known_there File = refl
known_there Prog = refl
known_there Link = refl
known_there (Known type) = refl

made_wide : (earlier : List Entry) (e : Entry) (m : Option Node) → IsTrue (made_fits Second earlier e m) →
    IsTrue (made_fits Third earlier e m)
made_wide earlier e None h = h
made_wide earlier e (Some made) h =
    let parts = and_parts _ _ h in
    let stands = and_parts (target_stands made.kind made.target) _ (and_parts (kind_known Second made.kind) _ parts.1).1 in
    and_from _ _ parts.0 (and_from _ _ (known_there made.kind) (and_from _ _ stands.0 (marked made.mount stands.1)))
  where
    marked : (mount : Bool) → IsTrue (made_mount Second mount made.kind) → IsTrue (made_mount Third mount made.kind)
    marked false h = refl
    marked true h = absurd (true≢false (sym h))

fit_wide : (earlier es : List Entry) → IsTrue (entries_fit Second earlier es) → IsTrue (entries_fit Third earlier es)
fit_wide earlier [] h = refl
fit_wide earlier (e ∷ es) h =
    let parts = and_parts (entry_fits Second earlier e) (entries_fit Second (earlier ++ e ∷ []) es) h in
    let f = fits_parts Second earlier e parts.0 in
    and_from (entry_fits Third earlier e) _
    (fits_from Third earlier e
    (record {
      above = f.above;
      small = f.small;
      in_dir = f.in_dir;
      named = f.named;
      free = f.free;
      room = omega (arith, f.room);
      made = made_wide earlier e e.made f.made;
    }))
    (fit_wide (earlier ++ e ∷ []) es parts.1)

pub third_forms_agree : ThirdFormsAgree
third_forms_agree es h = lines_written Third es (fit_wide [] es h)

pub listings_are_read : ListingsAreRead
listings_are_read bytes t = (λ h. lines_read (lines bytes) t h, λ l. ap listing_of_lines l.3 ∙ lines_written l.0 l.1 l.2 ∙ ap Ok (sym l.4))

pub listings_list_trees : ListingsListTrees
listings_list_trees bytes t l = subst WellFormed (sym l.4) (well_formed l.0 l.1 l.2)

-- what was read is a tree
pub spellings_are_read : SpellingsAreRead
spellings_are_read text bytes = (
  λ h. (bytes_unspelled text bytes h, spelling-unspelled text bytes h),
  λ s. ap bytes_spelled s.1 ∙
      unspelled-spelling bytes s.0,
)
