-- A line whose argument is spelled with fewer words is read as the request that has less.
use Rattle.std.proofs.Common.{◌≡◌, ◌≢◌, ℕ, List, [], ◌∷◌, refl, sym, ap, ◌∙◌, subst, true, false, ◌&&◌, map, length, arith}
use Rattle.std.proofs.lemmas.Bool.{true≢false, and_parts, and_from, lt-ltb, or_parts}
use Rattle.std.specs.List.{list_all, list_any, join_with_byte}
use Rattle.std.specs.Prelude.{Option, Some, None, Ok, codes, decimal, filter, nat_lt, ◌==◌, ◌||◌}
use Rattle.pua_tree.proofs.ForCallers.{Err≢Ok, same_Ok, fields_cons, fields_joined, fields_one, is_visible}
use Rattle.pua_tree.specs.Spelling.{fields, is_field}
use Rattle.pua_path.specs.declared.errno.Errno.TheVariants.{EINVAL}
use Rattle.pua_calls.specs.Promises.{holds, promise_of, promises_of, letter_of, union_of}
use Rattle.pua_script.specs.Requests.{Asked}
use Rattle.pua_script.specs.Scripts.{before_comment, has_empty_word}
use Rattle.pua_calls.specs.declared.rules.Rules.{Rules}
use Rattle.pua_script.specs.ScriptGrammar.{SpellsGiven, nothing, known, SpellsPerms, no_letter, letters}
use Rattle.pua_script.specs.ScriptGrammar.{SpellsAction, on_path, symlink, rename, link, pledge, unveil, lock, fork, exit, uses, hold, close, fchdir, SpellsRequest}
use Rattle.pua_script.specs.ScriptGrammar.{chroot, take}
use Rattle.pua_script.specs.declared.request.Given.{Given}
use Rattle.pua_script.specs.declared.request.Given.TheVariants.{Null, Good, Unknown}
use Rattle.pua_script.specs.declared.request.Action.{Action}
use Rattle.pua_script.specs.declared.request.Action.TheVariants.{Pledge, Unveil}
use Rattle.pua_tight.specs.Texts.{stays_in, or_equals, given_text, perms_text, fields_text, line_text}
use Rattle.pua_tight.specs.Narrower.{GivenWithin, given_none, given_unknown, given_less, ActionWithin, as_given, less_pledged, less_unveiled}
use Rattle.pua_tight.proofs.Comments.{hashed, ends_shown, neither, joined_clean, clean_joined, joined_ends, given_unhashed, perms_unhashed}
use Rattle.pua_tight.proofs.Sets.{holds_self}
use Rattle.pua_tight.proofs.Tightened.{given_self}
use Rattle.pua_tight.proofs.KeptWords.{promise_single, letter_single, left_named, left_within, none_within, all_left, none_left, cut, free}
use Rattle.pua_tight.proofs.KeptWords.{pieces_free, pieces_pass, joined_pass, cut_joined}

-- a list whose words are none of them empty
words_named : (field : List ℕ) → has_empty_word field ≡ false → promises_of field ≡ union_of (map promise_of (cut 44 field))
words_named [] e = absurd (true≢false e)
words_named (b ∷ more) e = refl

words_stand : (field : List ℕ) → has_empty_word field ≡ false → or_equals field ≡ field
words_stand [] e = absurd (true≢false e)
words_stand (b ∷ more) e = refl

-- a text that is one unknown word names no set
no_word : (word field : List ℕ) (words : List (List ℕ)) (set : ℕ) → cut 44 field ≡ words → map promise_of (cut 44 word) ≡ None ∷ [] →
    union_of (map promise_of words) ≡ Ok set → field ≢ word
no_word word field words set are none e is =
    Err≢Ok EINVAL set (sym (ap union_of none) ∙ ap (λ f. union_of (map promise_of (cut 44 f))) (sym is)
    ∙ ap (λ ws. union_of (map promise_of ws)) are ∙ e)

module _ (set : ℕ) (field : List ℕ) where
  abbrev words : List (List ℕ)
  words = filter (λ word. stays_in set (promise_of word)) (cut 44 field)

  free_words : list_all (free 44) words ≡ true
  free_words = all_left (λ word. stays_in set (promise_of word)) (free 44) (cut 44 field)
      (pieces_free 44 field)

  given_words : (ws : List (List ℕ)) → words ≡ ws → list_any (λ word. length word == 0) words ≡ false →
      union_of (map promise_of words) ≡ Ok set → SpellsGiven (or_equals (join_with_byte 44 ws)) (Good set)
  given_words [] are none named =
      subst (λ s. SpellsGiven (codes "=") (Good s)) (same_Ok 0 set (ap (λ ws. union_of (map promise_of ws)) (sym are) ∙ named)) (nothing refl)
  given_words (w ∷ ws) are none named =
      let text : List ℕ = join_with_byte 44 (w ∷ ws) in
      let pieces : cut 44 text ≡ w ∷ ws = cut_joined 44 w ws (ap (list_all (free 44)) (sym are) ∙ free_words) in
      let names : union_of (map promise_of (w ∷ ws)) ≡ Ok set = ap (λ ws. union_of (map promise_of ws)) (sym are) ∙ named in
      let full : has_empty_word text ≡ false =
      ap (list_any (λ word. length word == 0)) pieces ∙ ap (list_any (λ word. length word == 0)) (sym are) ∙ none in
      subst (λ f. SpellsGiven f (Good set)) (sym (words_stand text full))
      (known (record {
        no_dash = no_word (codes "-") text (w ∷ ws) set pieces refl names;
        no_equals = no_word (codes "=") text (w ∷ ws) set pieces refl names;
        words = full;
      }) (words_named text full ∙ ap (λ ws. union_of (map promise_of ws)) pieces ∙ names))

thin_given : {p q : Given} (field : List ℕ) → GivenWithin p q → SpellsGiven field q → SpellsGiven (given_text p field) p
thin_given field given_none spells = spells
thin_given field given_unknown spells = spells
thin_given field (given_less {a = a} {b = b} less) spells = by b less spells
  where
    by : (b : ℕ) → holds b a ≡ true → SpellsGiven field (Good b) → SpellsGiven (given_text (Good a) field) (Good a)
    by _ less (nothing is) =
        subst (λ s. SpellsGiven (given_text (Good a) field) (Good s)) (sym (none_within a less)) (nothing (ap (given_text (Good a)) is))
    by b less (known list named) =
        given_words a field (words a field) refl
        (none_left (λ word. stays_in a (promise_of word)) (λ word. length word == 0) (cut 44 field) list.words)
        (left_named promise_of promise_single a (cut 44 field) b (sym (words_named field list.words) ∙ named) ∙ ap Ok (left_within a b less))

thin_perms : (a b : ℕ) (field : List ℕ) → holds b a ≡ true → SpellsPerms field (Some b) → SpellsPerms (perms_text (Some a) field) (Some a)
thin_perms a b field less spells = by b less spells
  where
    named : (fs : List ℕ) → union_of (map letter_of fs) ≡ Ok a → SpellsPerms (or_equals fs) (Some a)
    named [] e = subst (λ s. SpellsPerms (codes "=") (Some s)) (same_Ok 0 a e) (no_letter refl)
    named (c ∷ cs) e = letters (λ is. Err≢Ok EINVAL a (ap (λ f. union_of (map letter_of f)) (sym is) ∙ e)) e

    by : (b : ℕ) → holds b a ≡ true → SpellsPerms field (Some b) → SpellsPerms (perms_text (Some a) field) (Some a)
    by _ less (no_letter is) =
        subst (λ s. SpellsPerms (perms_text (Some a) field) (Some s)) (sym (none_within a less)) (no_letter (ap (perms_text (Some a)) is))
    by b less (letters apart is) =
        named (filter (λ c. stays_in a (letter_of c)) field)
        (left_named letter_of letter_single a field b is ∙ ap Ok (left_within a b less))

-- letters are no `-`
no_null : (field : List ℕ) (set : ℕ) → SpellsPerms field (Some set) → field ≢ codes "-"
no_null field _ (no_letter is) e = true≢false (ap (λ f. list_any (λ b. b == 61) f) (sym is ∙ e))
no_null field set (letters apart is) e = Err≢Ok EINVAL set (ap (λ f. union_of (map letter_of f)) (sym e) ∙ is)

-- bytes of a field
or_field : (text : List ℕ) → list_all is_visible text ≡ true → is_field (or_equals text) ≡ true
or_field [] e = refl
or_field (b ∷ more) e =
    and_from (nat_lt 0 (length (b ∷ more))) (list_all is_visible (b ∷ more)) (lt-ltb 0 (length (b ∷ more)) (omega arith)) e

pub field_bytes : (text : List ℕ) → is_field text ≡ true → list_all is_visible text ≡ true
field_bytes text e = (and_parts (nat_lt 0 (length text)) (list_all is_visible text) e).1

given_field : (p : Given) (field : List ℕ) → is_field field ≡ true → is_field (given_text p field) ≡ true
given_field Null field e = e
given_field Unknown field e = e
given_field (Good set) field e =
    or_field (join_with_byte 44 (words set field))
    (joined_pass 44 is_visible refl (words set field)
    (all_left (λ word. stays_in set (promise_of word)) (list_all is_visible) (cut 44 field)
    (pieces_pass 44 is_visible is_visible (λ x seen apart. seen) field (field_bytes field e))))

perms_field : (p : Option ℕ) (field : List ℕ) → is_field field ≡ true → is_field (perms_text p field) ≡ true
perms_field None field e = e
perms_field (Some set) field e =
    or_field (filter (λ c. stays_in set (letter_of c)) field)
    (all_left (λ c. stays_in set (letter_of c)) is_visible field (field_bytes field e))

-- nor do the words of a list that is left begin with `#`, where the list doesn't
given_clean : {p q : Given} (field : List ℕ) → GivenWithin p q → SpellsGiven field q → hashed field ≡ false → hashed (given_text p field) ≡ false
given_clean field given_none spells clean = clean
given_clean field given_unknown spells clean = clean
given_clean field (given_less {a = a} less) spells clean =
    given_unhashed (given_text (Good a) field) a (thin_given field (given_less less) spells)

-- the fields of a line that has less
pub record ThinFields (rules : Rules) (action : Action) (process : List ℕ) (more : List (List ℕ)) : Type 0 where
  pub after : List (List ℕ)
  pub clean : list_any hashed (process ∷ more) ≡ false → list_any hashed (process ∷ after) ≡ false
  pub are : fields_text action (process ∷ more) ≡ process ∷ after
  pub visible : list_all is_field (process ∷ after) ≡ true
  pub spells : SpellsAction rules after action

module _ {rules : Rules} (process : List ℕ) where
  as_they_are : {action : Action} (more : List (List ℕ)) → fields_text action (process ∷ more) ≡ process ∷ more →
      list_all is_field (process ∷ more) ≡ true → SpellsAction rules more action → ThinFields rules action process more
  as_they_are more are visible spells = record { after = more; clean = λ e. e; are = are; visible = visible; spells = spells }

  pledge_fields : (word a b : List ℕ) {p q e f : Given} → GivenWithin p q → GivenWithin e f → word ≡ codes "pledge" →
      list_all is_field (process ∷ word ∷ a ∷ b ∷ []) ≡ true → SpellsGiven a q → SpellsGiven b f →
      ThinFields rules (Pledge p e) process (word ∷ a ∷ b ∷ [])
  pledge_fields word a b {p = p} {e = e} first second is visible x y =
      let one = and_parts (is_field process) (is_field word && (is_field a && (is_field b && true))) visible in
      let two = and_parts (is_field word) (is_field a && (is_field b && true)) one.1 in
      let three = and_parts (is_field a) (is_field b && true) two.1 in
      let four = and_parts (is_field b) true three.1 in
      record {
        after = word ∷ given_text p a ∷ given_text e b ∷ [];
        clean = λ none.
            let of_process = or_parts (hashed process) (hashed word || (hashed a || (hashed b || false))) none in
            let of_word = or_parts (hashed word) (hashed a || (hashed b || false)) of_process.1 in
            let of_a = or_parts (hashed a) (hashed b || false) of_word.1 in
            let of_b = or_parts (hashed b) false of_a.1 in
            neither (hashed process) _ of_process.0 (neither (hashed word) _ of_word.0
            (neither (hashed (given_text p a)) _ (given_clean a first x of_a.0)
            (neither (hashed (given_text e b)) false (given_clean b second y of_b.0) refl)));
        are = refl;
        visible = and_from (is_field process) _ one.0 (and_from (is_field word) _ two.0 (and_from (is_field (given_text p a)) _
            (given_field p a three.0) (and_from (is_field (given_text e b)) true (given_field e b four.0) refl)));
        spells = pledge is (thin_given a first x) (thin_given b second y);
      }

  unveil_fields : (word a b path : List ℕ) (s t : ℕ) → holds t s ≡ true → word ≡ codes "unveil" → a ≢ codes "-" →
      list_all is_field (process ∷ word ∷ a ∷ b ∷ []) ≡ true → SpellsAction rules (word ∷ a ∷ b ∷ []) (Unveil path (Some t)) →
      ThinFields rules (Unveil path (Some s)) process (word ∷ a ∷ b ∷ [])
  unveil_fields word a b path s t less is apart visible (unveil named no_a no_b first second) =
      let one = and_parts (is_field process) (is_field word && (is_field a && (is_field b && true))) visible in
      let two = and_parts (is_field word) (is_field a && (is_field b && true)) one.1 in
      let three = and_parts (is_field a) (is_field b && true) two.1 in
      let four = and_parts (is_field b) true three.1 in
      let thinner : SpellsPerms (perms_text (Some s) b) (Some s) = thin_perms s t b less second in
      record {
        after = word ∷ a ∷ perms_text (Some s) b ∷ [];
        clean = λ none.
            let of_process = or_parts (hashed process) (hashed word || (hashed a || (hashed b || false))) none in
            let of_word = or_parts (hashed word) (hashed a || (hashed b || false)) of_process.1 in
            let of_a = or_parts (hashed a) (hashed b || false) of_word.1 in
            neither (hashed process) _ of_process.0 (neither (hashed word) _ of_word.0
            (neither (hashed a) _ of_a.0
            (neither (hashed (perms_text (Some s) b)) false (perms_unhashed (perms_text (Some s) b) s thinner) refl)));
        are = refl;
        visible = and_from (is_field process) _ one.0 (and_from (is_field word) _ two.0 (and_from (is_field a) _ three.0
            (and_from (is_field (perms_text (Some s) b)) true (perms_field (Some s) b four.0) refl)));
        spells = unveil named no_a (no_null (perms_text (Some s) b) s thinner) first thinner;
      }

  pub thin_fields : {action less : Action} (more : List (List ℕ)) → ActionWithin less action → list_all is_field (process ∷ more) ≡ true →
      SpellsAction rules more action → ThinFields rules less process more
  thin_fields more (less_pledged first second) visible (pledge {word = word} {a = a} {b = b} is x y) =
      pledge_fields word a b first second is visible x y
  thin_fields more (less_unveiled {path = path} {a = s} {b = t} less) visible (unveil {word = word} {a = a} {b = b} named no_a no_b x y) =
      unveil_fields word a b path s t less named no_a visible (unveil named no_a no_b x y)
  thin_fields more as_given visible (pledge {word = word} {a = a} {b = b} {promises = p} {execpromises = e} is x y) =
      pledge_fields word a b (given_self p) (given_self e) is visible x y
  thin_fields more as_given visible (unveil {word = word} {a = a} {b = b} {path = path} {perms = Some s} named no_a no_b x y) =
      unveil_fields word a b path s s (holds_self s) named no_a visible (unveil named no_a no_b x y)
  thin_fields more as_given visible (unveil {perms = None} named no_a no_b x y) =
      as_they_are more refl visible (unveil named no_a no_b x y)
  thin_fields more as_given visible (on_path other named x) = as_they_are more refl visible (on_path other named x)
  thin_fields more as_given visible (symlink named x y) = as_they_are more refl visible (symlink named x y)
  thin_fields more as_given visible (rename named x y) = as_they_are more refl visible (rename named x y)
  thin_fields more as_given visible (link named x y) = as_they_are more refl visible (link named x y)
  thin_fields more as_given visible (lock named x y) = as_they_are more refl visible (lock named x y)
  thin_fields more as_given visible (fork named x low high) = as_they_are more refl visible (fork named x low high)
  thin_fields more as_given visible (exit named) = as_they_are more refl visible (exit named)
  thin_fields more as_given visible (uses there named x) = as_they_are more refl visible (uses there named x)
  thin_fields more as_given visible (hold there named n opens call x) = as_they_are more refl visible (hold there named n opens call x)
  thin_fields more as_given visible (close there named n) = as_they_are more refl visible (close there named n)
  thin_fields more as_given visible (fchdir there named n) = as_they_are more refl visible (fchdir there named n)
  thin_fields more as_given visible (chroot there named x) = as_they_are more refl visible (chroot there named x)
  thin_fields more as_given visible (take there named n is low high m) = as_they_are more refl visible (take there named n is low high m)

-- fields with spaces between them are the fields of the line
fields_of_joined : (w : List ℕ) (ws : List (List ℕ)) → list_all is_field (w ∷ ws) ≡ true → fields (join_with_byte 32 (w ∷ ws)) ≡ w ∷ ws
fields_of_joined w [] e = fields_one w (field_bytes w (and_parts (is_field w) true e).0)
fields_of_joined w (v ∷ ws) e =
    let both = and_parts (is_field w) (list_all is_field (v ∷ ws)) e in
    fields_cons w (join_with_byte 32 (v ∷ ws)) (field_bytes w both.0) ∙ ap (λ l. w ∷ l) (fields_of_joined v ws both.1)

abbrev pub with_action : Asked → Action → Asked
with_action ask action = record { process = ask.process; action = action }

-- what is left of a line's text is read as the request that has less; no comment begins in it, and it ends in no blank
pub record IsThin (rules : Rules) (line : List ℕ) (ask : Asked) (less : Action) : Type 0 where
  pub spells : SpellsRequest rules (line_text less line) (with_action ask less)
  pub clean : before_comment true line ≡ None → before_comment true (line_text less line) ≡ None
  pub shown : ends_shown (line_text less line) ≡ true

pub thin_line_read : {rules : Rules} (line : List ℕ) (ask : Asked) (less : Action) → SpellsRequest rules line ask →
    ActionWithin less ask.action → IsThin rules line ask less
thin_line_read {rules = rules} line ask less spells within =
    let thin : ThinFields rules less (decimal ask.process) spells.more =
    thin_fields (decimal ask.process) spells.more within (ap (list_all is_field) (sym spells.split) ∙ spells.visible) spells.spells in
    let text : line_text less line ≡ join_with_byte 32 (decimal ask.process ∷ thin.after) =
    ap (λ fs. join_with_byte 32 (fields_text less fs)) spells.split ∙ ap (join_with_byte 32) thin.are in
    let split : fields (line_text less line) ≡ decimal ask.process ∷ thin.after =
    ap fields text ∙ fields_of_joined (decimal ask.process) thin.after thin.visible in
    let given : list_all is_field (decimal ask.process ∷ spells.more) ≡ true = ap (list_all is_field) (sym spells.split) ∙ spells.visible in
    let line_is : line ≡ join_with_byte 32 (decimal ask.process ∷ spells.more) =
    sym (fields_joined line) ∙ ap (join_with_byte 32) spells.split in
    record {
      spells = record {
        visible = ap (list_all is_field) split ∙ thin.visible;
        more = thin.after;
        split = split;
        low = spells.low;
        high = spells.high;
        spells = thin.spells;
      };
      clean = λ none.
          ap (before_comment true) text
          ∙ joined_clean (decimal ask.process) thin.after thin.visible
          (thin.clean (clean_joined (decimal ask.process) spells.more given (ap (before_comment true) (sym line_is) ∙ none)));
      shown = ap ends_shown text ∙ joined_ends (decimal ask.process) thin.after thin.visible;
    }
