-- A comment stays behind a line's text where another text takes that one's place.
use Rattle.std.proofs.Common.{◌≡◌, ◌≢◌, ℕ, ◌≤◌, map, List, [], ◌∷◌, ◌++◌, refl, sym, ap, ◌∙◌, subst, Bool, true, false, cond, not, ◌&&◌, ◌==◌, length, drop, arith}
use Rattle.std.proofs.lemmas.Bool.{false≢true, eqb-true, and_parts, leb-true, ne_eqb, or_parts}
use Rattle.std.proofs.lemmas.List.{append-nil, drop_at, drop_all, length-append, length-take}
use Rattle.std.proofs.Common.{◌-◌, get_or, take}
use Rattle.std.specs.Str.Lines.{strip_carriage_return}
use Rattle.std.specs.List.{list_all, list_any, join_with_byte, onto_first}
use Rattle.std.specs.Option.{unwrap_or}
use Rattle.std.specs.Prelude.{Option, Some, None, Ok, ◌||◌, nat_le, option_map}
use Rattle.pua_tree.proofs.ForCallers.{is_visible, Err≢Ok, None≢Some, Some≢None, same_Some}
use Rattle.pua_tree.specs.Spelling.{is_field}
use Rattle.pua_path.specs.declared.errno.Errno.TheVariants.{EINVAL}
use Rattle.pua_calls.specs.Promises.{promise_of, promises_of, perms_of, union_of}
use Rattle.pua_calls.specs.declared.rules.Rules.{Rules}
use Rattle.pua_calls.specs.declared.rules.Rules.TheVariants.{Standard, Openbsd}
use Rattle.pua_script.specs.Scripts.{before_rest, before_comment, text_in}
use Rattle.pua_script.specs.ScriptGrammar.{SpellsGiven, nothing, known, SpellsPerms, no_letter, letters}
use Rattle.pua_script.specs.declared.request.Given.TheVariants.{Good}
use Rattle.pua_tight.proofs.KeptWords.{cut}

-- a text begins with `#`
abbrev pub hashed : List ℕ → Bool
hashed [] = false
hashed (b ∷ more) = b == 35

-- a text ends in a byte that is no blank
abbrev pub ends_shown : List ℕ → Bool
ends_shown [] = false
ends_shown (b ∷ []) = not (b == 32)
ends_shown (b ∷ c ∷ more) = ends_shown (c ∷ more)

-- whether a comment may begin behind a text that ends in no blank
abbrev behind : List ℕ → Bool → Bool
behind [] may_begin = may_begin
behind (b ∷ more) may_begin = false

mapped_none : {A B : Type 0} (f : A → B) (o : Option A) → option_map f o ≡ None → o ≡ None
mapped_none f None e = refl
mapped_none f (Some x) e = absurd (Some≢None (f x) e)

-- a byte that begins no comment, in a text without one
none_here : (may_begin : Bool) (b : ℕ) (more : List ℕ) → before_comment may_begin (b ∷ more) ≡ None →
    ((may_begin && b == 35) ≡ false) × (before_comment (b == 32) more ≡ None)
none_here may_begin b more = by (may_begin && b == 35) refl
  where
    by : (t : Bool) → (may_begin && b == 35) ≡ t → cond t (Some []) (option_map (before_rest b) (before_comment (b == 32) more)) ≡ None →
        ((may_begin && b == 35) ≡ false) × (before_comment (b == 32) more ≡ None)
    by true at e = absurd (Some≢None [] e)
    by false at e = (at, mapped_none (before_rest b) (before_comment (b == 32) more) e)

is_false : (t : Bool) → not t ≡ true → t ≡ false
is_false false e = refl
is_false true e = absurd (false≢true e)

-- behind a text without a comment, which ends in no blank, blanks and a comment are cut off again
pub cut_again : (may_begin : Bool) (text tail : List ℕ) → before_comment may_begin text ≡ None → ends_shown text ≡ true →
    before_comment false tail ≡ Some [] → before_comment may_begin (text ++ tail) ≡ Some text
cut_again may_begin [] tail none shown cuts = absurd (false≢true shown)
cut_again may_begin (b ∷ []) tail none shown cuts =
    let byte : (b == 32) ≡ false = is_false (b == 32) shown in
    ap (λ t. cond t (Some []) (option_map (before_rest b) (before_comment (b == 32) tail))) (none_here may_begin b [] none).0
    ∙ ap (λ t. option_map (before_rest b) (before_comment t tail)) byte
    ∙ ap (option_map (before_rest b)) cuts
    ∙ ap (λ t. Some (cond t [] (b ∷ []))) byte
cut_again may_begin (b ∷ c ∷ more) tail none shown cuts =
    let here = none_here may_begin b (c ∷ more) none in
    ap (λ t. cond t (Some []) (option_map (before_rest b) (before_comment (b == 32) (c ∷ more ++ tail)))) here.0
    ∙ ap (option_map (before_rest b)) (cut_again (b == 32) (c ∷ more) tail here.1 shown cuts)

-- what a comment cuts off of a line
pub record IsCut (may_begin : Bool) (line text : List ℕ) : Type 0 where
  pub tail : List ℕ
  pub is : line ≡ text ++ tail
  pub none : before_comment may_begin text ≡ None
  pub cuts : before_comment (behind text may_begin) tail ≡ Some []

pub is_cut : (may_begin : Bool) (line text : List ℕ) → before_comment may_begin line ≡ Some text → IsCut may_begin line text
is_cut may_begin [] text e = absurd (None≢Some text e)
is_cut may_begin (b ∷ more) text e =
    by (λ rest r. is_cut (b == 32) more rest r) (may_begin && b == 35) refl (before_comment (b == 32) more) refl e
  where
    first : (rest : List ℕ) → (may_begin && b == 35) ≡ false → before_comment (b == 32) more ≡ Some rest → IsCut (b == 32) more rest →
        (blank : Bool) → (b == 32) ≡ blank → IsCut may_begin (b ∷ more) (before_rest b rest)
    first (c ∷ cs) apart r so blank at = record {
      tail = so.tail;
      is = ap (λ l. b ∷ l) so.is;
      none = ap (λ t. cond t (Some []) (option_map (before_rest b) (before_comment (b == 32) (c ∷ cs)))) apart ∙ ap (option_map (before_rest b)) so.none;
      cuts = so.cuts;
    }
    first [] apart r so true at = subst (IsCut may_begin (b ∷ more)) (sym (ap (λ t. cond t [] (b ∷ [])) at)) (record {
      tail = b ∷ more;
      is = refl;
      none = refl;
      cuts = ap (λ t. cond t (Some []) (option_map (before_rest b) (before_comment (b == 32) more))) apart
          ∙ ap (option_map (before_rest b)) r ∙ ap (λ t. Some (cond t [] (b ∷ []))) at;
    })
    first [] apart r so false at = subst (IsCut may_begin (b ∷ more)) (sym (ap (λ t. cond t [] (b ∷ [])) at)) (record {
      tail = so.tail;
      is = ap (λ l. b ∷ l) so.is;
      none = ap (λ t. cond t (Some []) (option_map (before_rest b) (before_comment (b == 32) []))) apart;
      cuts = ap (λ t. before_comment t so.tail) (sym at) ∙ so.cuts;
    })

    by : ((rest : List ℕ) → before_comment (b == 32) more ≡ Some rest → IsCut (b == 32) more rest) →
        (t : Bool) → (may_begin && b == 35) ≡ t → (o : Option (List ℕ)) → before_comment (b == 32) more ≡ o →
        cond t (Some []) (option_map (before_rest b) o) ≡ Some text → IsCut may_begin (b ∷ more) text
    by further true at o r e = subst (IsCut may_begin (b ∷ more)) (same_Some [] text e) (record {
      tail = b ∷ more;
      is = refl;
      none = refl;
      cuts = ap (λ t. cond t (Some []) (option_map (before_rest b) (before_comment (b == 32) more))) at;
    })
    by further false at None r e = absurd (None≢Some text e)
    by further false at (Some rest) r e =
        subst (IsCut may_begin (b ∷ more)) (same_Some (before_rest b rest) text e) (first rest at r (further rest r) (b == 32) refl)

-- a line's end is no part of a comment's beginning
pub cut_without : (may_begin : Bool) (front text : List ℕ) → before_comment may_begin (front ++ 13 ∷ []) ≡ Some text →
    before_comment may_begin front ≡ Some text
cut_without true [] text e = absurd (None≢Some text e)
cut_without false [] text e = absurd (None≢Some text e)
cut_without may_begin (b ∷ more) text e =
    by (λ rest r. cut_without (b == 32) more rest r) (may_begin && b == 35) refl (before_comment (b == 32) (more ++ 13 ∷ [])) refl e
  where
    by : ((rest : List ℕ) → before_comment (b == 32) (more ++ 13 ∷ []) ≡ Some rest → before_comment (b == 32) more ≡ Some rest) →
        (t : Bool) → (may_begin && b == 35) ≡ t → (o : Option (List ℕ)) → before_comment (b == 32) (more ++ 13 ∷ []) ≡ o →
        cond t (Some []) (option_map (before_rest b) o) ≡ Some text → before_comment may_begin (b ∷ more) ≡ Some text
    by further true at o r e = ap (λ t. cond t (Some []) (option_map (before_rest b) (before_comment (b == 32) more))) at ∙ e
    by further false at None r e = absurd (None≢Some text e)
    by further false at (Some rest) r e =
        ap (λ t. cond t (Some []) (option_map (before_rest b) (before_comment (b == 32) more))) at
        ∙ ap (option_map (before_rest b)) (further rest r) ∙ e

-- what a line says, and what stands behind that
pub record IsSplit (rules : Rules) (line text : List ℕ) : Type 0 where
  pub tail : List ℕ
  pub is : line ≡ text ++ tail
  pub left : drop (length text) line ≡ tail
  -- a comment begins behind it, if at all
  pub none : rules ≡ Openbsd → before_comment true text ≡ None
  -- and so it does behind another text
  pub again : text ≢ [] → (other : List ℕ) → (rules ≡ Openbsd → before_comment true other ≡ None) → ends_shown other ≡ true →
      text_in rules (other ++ tail) ≡ other

nothing_cut : (rules : Rules) (line : List ℕ) → (rules ≡ Openbsd → before_comment true line ≡ None) → IsSplit rules line line
nothing_cut rules line none = record {
  tail = [];
  is = sym (append-nil line);
  left = drop_all (length line) line (omega arith);
  none = none;
  again = λ some other clean shown. ap (text_in rules) (append-nil other) ∙ says rules other clean;
}
  where
    says : (rules : Rules) (other : List ℕ) → (rules ≡ Openbsd → before_comment true other ≡ None) → text_in rules other ≡ other
    says Standard other clean = refl
    says Openbsd other clean = ap (λ o. unwrap_or o other) (clean refl)

behind_some : (text : List ℕ) → text ≢ [] → behind text true ≡ false
behind_some [] some = absurd (some refl)
behind_some (b ∷ more) some = refl

pub split : (rules : Rules) (line : List ℕ) → IsSplit rules line (text_in rules line)
split Standard line = nothing_cut Standard line (λ e. cc)
split Openbsd line = by (before_comment true line) refl
  where
    by : (o : Option (List ℕ)) → before_comment true line ≡ o → IsSplit Openbsd line (unwrap_or o line)
    by None e = nothing_cut Openbsd line (λ _. e)
    by (Some text) e =
        let so = is_cut true line text e in
        record {
          tail = so.tail;
          is = so.is;
          left = ap (drop (length text)) so.is ∙ drop_at text so.tail (length text) refl;
          none = λ _. so.none;
          again = λ some other clean shown.
              ap (λ o. unwrap_or o (other ++ so.tail)) (cut_again true other so.tail (clean refl) shown
              (ap (λ t. before_comment t so.tail) (sym (behind_some text some)) ∙ so.cuts));
        }

-- ---- fields of which none begins with `#`

pub neither : (x y : Bool) → x ≡ false → y ≡ false → (x || y) ≡ false
neither x y a b = ap (λ t. t || y) a ∙ b

no_blank : (b : ℕ) → is_visible b ≡ true → (b == 32) ≡ false
no_blank b e = ne_eqb b 32 (λ is. omega (arith, is, leb-true 33 b (and_parts (nat_le 33 b) (nat_le b 126) e).0))

and_false : (t : Bool) → (t && false) ≡ false
and_false true = refl
and_false false = refl

word_passes : (may_begin : Bool) (word rest : List ℕ) → list_all is_visible word ≡ true → (may_begin && hashed word) ≡ false →
    before_comment (behind word may_begin) rest ≡ None → before_comment may_begin (word ++ rest) ≡ None
word_passes may_begin [] rest visible clean none = none
word_passes may_begin (b ∷ word) rest visible clean none =
    let both = and_parts (is_visible b) (list_all is_visible word) visible in
    ap (λ t. cond t (Some []) (option_map (before_rest b) (before_comment (b == 32) (word ++ rest)))) clean
    ∙ ap (λ t. option_map (before_rest b) (before_comment t (word ++ rest))) (no_blank b both.0)
    ∙ ap (option_map (before_rest b)) (word_passes false word rest both.1 refl (stays word none))
  where
    stays : (word : List ℕ) → before_comment false rest ≡ None → before_comment (behind word false) rest ≡ None
    stays [] e = e
    stays (b ∷ more) e = e

word_clean : (may_begin : Bool) (word rest : List ℕ) → list_all is_visible word ≡ true → before_comment may_begin (word ++ rest) ≡ None →
    ((may_begin && hashed word) ≡ false) × (before_comment (behind word may_begin) rest ≡ None)
word_clean may_begin [] rest visible none = (and_false may_begin, none)
word_clean may_begin (b ∷ word) rest visible none =
    let both = and_parts (is_visible b) (list_all is_visible word) visible in
    let here = none_here may_begin b (word ++ rest) none in
    let more = word_clean (b == 32) word rest both.1 here.1 in
    (here.0, stays word (ap (λ t. before_comment (behind word t) rest) (sym (no_blank b both.0)) ∙ more.1))
  where
    stays : (word : List ℕ) → before_comment (behind word false) rest ≡ None → before_comment false rest ≡ None
    stays [] e = e
    stays (b ∷ more) e = e

field_visible : (word : List ℕ) → is_field word ≡ true → list_all is_visible word ≡ true
field_visible word e = (and_parts _ (list_all is_visible word) e).1

pub joined_clean : (word : List ℕ) (words : List (List ℕ)) → list_all is_field (word ∷ words) ≡ true → list_any hashed (word ∷ words) ≡ false →
    before_comment true (join_with_byte 32 (word ∷ words)) ≡ None
joined_clean word [] fields clean =
    ap (before_comment true) (sym (append-nil word))
    ∙ word_passes true word [] (field_visible word (and_parts (is_field word) true fields).0) (or_parts (hashed word) false clean).0 refl
joined_clean [] (next ∷ words) fields clean = absurd (false≢true fields)
joined_clean (b ∷ word) (next ∷ words) fields clean =
    let both = and_parts (is_field (b ∷ word)) (list_all is_field (next ∷ words)) fields in
    let two = or_parts (hashed (b ∷ word)) (list_any hashed (next ∷ words)) clean in
    word_passes true (b ∷ word) (32 ∷ join_with_byte 32 (next ∷ words)) (field_visible (b ∷ word) both.0) two.0
    (ap (option_map (before_rest 32)) (joined_clean next words both.1 two.1))

pub clean_joined : (word : List ℕ) (words : List (List ℕ)) → list_all is_field (word ∷ words) ≡ true →
    before_comment true (join_with_byte 32 (word ∷ words)) ≡ None → list_any hashed (word ∷ words) ≡ false
clean_joined word [] fields none =
    neither (hashed word) false (word_clean true word [] (field_visible word (and_parts (is_field word) true fields).0)
    (ap (before_comment true) (append-nil word) ∙ none)).0 refl
clean_joined [] (next ∷ words) fields none = absurd (false≢true fields)
clean_joined (b ∷ word) (next ∷ words) fields none =
    let both = and_parts (is_field (b ∷ word)) (list_all is_field (next ∷ words)) fields in
    let two = word_clean true (b ∷ word) (32 ∷ join_with_byte 32 (next ∷ words)) (field_visible (b ∷ word) both.0) none in
    neither (hashed (b ∷ word)) (list_any hashed (next ∷ words)) two.0 (clean_joined next words both.1
    (mapped_none (before_rest 32) (before_comment true (join_with_byte 32 (next ∷ words))) two.1))

-- fields end in no blank
word_ends : (b : ℕ) (word : List ℕ) → list_all is_visible (b ∷ word) ≡ true → ends_shown (b ∷ word) ≡ true
word_ends b [] visible = ap not (no_blank b (and_parts (is_visible b) true visible).0)
word_ends b (c ∷ word) visible = word_ends c word (and_parts (is_visible b) (list_all is_visible (c ∷ word)) visible).1

ends_behind : (front : List ℕ) (c : ℕ) (more : List ℕ) → ends_shown (front ++ c ∷ more) ≡ ends_shown (c ∷ more)
ends_behind [] c more = refl
ends_behind (b ∷ []) c more = refl
ends_behind (b ∷ d ∷ front) c more = ends_behind (d ∷ front) c more

pub joined_ends : (word : List ℕ) (words : List (List ℕ)) → list_all is_field (word ∷ words) ≡ true →
    ends_shown (join_with_byte 32 (word ∷ words)) ≡ true
joined_ends [] words fields = absurd (false≢true fields)
joined_ends (b ∷ word) [] fields = word_ends b word (field_visible (b ∷ word) (and_parts (is_field (b ∷ word)) true fields).0)
joined_ends (b ∷ word) ([] ∷ words) fields = absurd (false≢true (and_parts (is_field (b ∷ word)) (list_all is_field ([] ∷ words)) fields).1)
joined_ends (b ∷ word) ((c ∷ next) ∷ words) fields =
    ends_behind (b ∷ word) 32 (join_with_byte 32 ((c ∷ next) ∷ words))
    ∙ first words
    ∙ joined_ends (c ∷ next) words (and_parts (is_field (b ∷ word)) (list_all is_field ((c ∷ next) ∷ words)) fields).1
  where
    first : (words : List (List ℕ)) →
        ends_shown (32 ∷ join_with_byte 32 ((c ∷ next) ∷ words)) ≡ ends_shown (join_with_byte 32 ((c ∷ next) ∷ words))
    first [] = refl
    first (w ∷ ws) = refl

-- no promise and no letter begins with `#`
unknown_first : (more : List ℕ) (words : List (List ℕ)) → cut 44 more ≡ words → (set : ℕ) → promises_of (35 ∷ more) ≢ Ok set
unknown_first more [] are set e = Err≢Ok EINVAL set (sym (ap (λ ws. union_of (map promise_of (onto_first 35 ws))) are) ∙ e)
unknown_first more (w ∷ ws) are set e = Err≢Ok EINVAL set (sym (ap (λ ws. union_of (map promise_of (onto_first 35 ws))) are) ∙ e)

pub given_unhashed : (field : List ℕ) (set : ℕ) → SpellsGiven field (Good set) → hashed field ≡ false
given_unhashed field _ (nothing is) = ap hashed is
given_unhashed [] set (known list named) = refl
given_unhashed (b ∷ more) set (known list named) = by (b == 35) refl
  where
    by : (t : Bool) → (b == 35) ≡ t → (b == 35) ≡ false
    by true at = absurd (unknown_first more (cut 44 more) refl set (ap (λ c. promises_of (c ∷ more)) (sym (eqb-true b 35 at)) ∙ named))
    by false at = at

pub perms_unhashed : (field : List ℕ) (set : ℕ) → SpellsPerms field (Some set) → hashed field ≡ false
perms_unhashed field _ (no_letter is) = ap hashed is
perms_unhashed [] set (letters apart named) = refl
perms_unhashed (b ∷ more) set (letters apart named) = by (b == 35) refl
  where
    by : (t : Bool) → (b == 35) ≡ t → (b == 35) ≡ false
    by true at = absurd (Err≢Ok EINVAL set (ap (λ c. perms_of (c ∷ more)) (sym (eqb-true b 35 at)) ∙ named))
    by false at = at

-- what a line says is no longer than the line
pub said_short : (rules : Rules) (line : List ℕ) → length (text_in rules (strip_carriage_return line)) ≤ length line
said_short rules line =
    let so = split rules (strip_carriage_return line) in
    omega (arith, ap length so.is, length-append (text_in rules (strip_carriage_return line)) so.tail, bare_short (get_or line (length line - 1) 0 == 13))
  where
    bare_short : (t : Bool) → length (cond t (take (length line - 1) line) line) ≤ length line
    bare_short true = omega (arith, length-take (length line - 1) line)
    bare_short false = omega arith
