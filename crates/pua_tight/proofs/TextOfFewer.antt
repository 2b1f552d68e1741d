-- The bytes that are written are a script of the requests that have less.
use Rattle.std.proofs.Common.{◌≡◌, ℕ, zero, suc, ◌-◌, ◌≤◌, List, [], ◌∷◌, ◌++◌, refl, sym, ap, ◌∙◌, subst, Bool, true, false, cond, not, ◌&&◌, take, drop, length}
use Rattle.std.proofs.Common.{arith, get_or, ◌+◌, ◌≢◌, append_assoc, inl, inr, ◌⊎◌, Option, Some, None}
use Rattle.std.proofs.lemmas.Bool.{false≢true, eqb-true, ne_eqb, and_parts, and_from, not_from_false, leb-true, le-leb}
use Rattle.std.proofs.lemmas.List.{take_at, take_all, drop_at, append-nil, length-append, length-take-le, get_or_at}
use Rattle.std.specs.Option.{unwrap_or}
use Rattle.std.proofs.lemmas.List.Folds.{list_all-append}
use Rattle.std.proofs.lemmas.List.Splits.{length-slice_split}
use Rattle.std.proofs.lemmas.Grind.{take_at_read}
use Rattle.std.specs.List.{list_all, join_with_byte}
use Rattle.std.specs.Prelude.{IsTrue, Ok, ◌==◌, nat_le}
use Rattle.std.specs.Str.Lines.{lines, lines_of_parts, strip_carriage_return}
use Rattle.pua_tree.proofs.ForCallers.{is_visible, fields_joined, step_read, same_Ok}
use Rattle.pua_tree.specs.Spelling.{fields, is_field}
use Rattle.pua_calls.specs.declared.rules.Rules.{Rules}
use Rattle.pua_script.proofs.ForCallers.{scripts_are_read}
use Rattle.pua_script.specs.Limits.{most_script_lines}
use Rattle.pua_calls.specs.declared.rules.Rules.TheVariants.{Standard, Openbsd}
use Rattle.pua_script.specs.Requests.{Asked, comment, says_nothing}
use Rattle.pua_script.specs.Scripts.{before_comment, is_blank, script_by, text_in}
use Rattle.pua_script.specs.Replay.{new_world}
use Rattle.pua_script.specs.ScriptGrammar.{SpellsLine, blank, request, SpellsRequest, SpellRequests}
use Rattle.pua_script.specs.declared.request.Action.{Action}
use Rattle.pua_script.specs.declared.request.Action.TheVariants.{Comment}
use Rattle.pua_tight.specs.Texts.{line_text, ended_text, lines_text, thinned_text}
use Rattle.pua_tight.specs.Tight.{tight, lines_of}
use Rattle.pua_tight.specs.Narrower.{ActionWithin, AskWithin, AsksWithin, no_asks, asks, as_given, less_pledged, less_unveiled}
use Rattle.pua_tight.specs.Laws.{TextsAreRead, TightTextsAreRead}
use Rattle.pua_tight.proofs.KeptWords.{cut, free, joined_pass, cut_joined, pieces_free}
use Rattle.pua_tight.proofs.Comments.{IsSplit, cut_without, split}
use Rattle.pua_tight.proofs.Thinned.{IsThin, field_bytes, thin_line_read}
use Rattle.pua_tight.proofs.Tightened.{tightens}
use Rattle.pua_tight.proofs.MayBeLeftOut.{scripts_are_tightened}

-- the bytes of a line: visible ones, and spaces
abbrev is_shown : ℕ → Bool
is_shown b = nat_le 32 b && nat_le b 126

more_pass : {X : Type 0} (p q : X → Bool) → ((x : X) → p x ≡ true → q x ≡ true) → (xs : List X) → list_all p xs ≡ true → list_all q xs ≡ true
more_pass p q more [] e = refl
more_pass p q more (x ∷ xs) e =
    let both = and_parts (p x) (list_all p xs) e in
    and_from (q x) (list_all q xs) (more x both.0) (more_pass p q more xs both.1)

seen_is_shown : (b : ℕ) → is_visible b ≡ true → is_shown b ≡ true
seen_is_shown b e =
    let both = and_parts (nat_le 33 b) (nat_le b 126) e in
    and_from (nat_le 32 b) (nat_le b 126) (le-leb 32 b (omega (arith, leb-true 33 b both.0))) both.1

no_control : (c b : ℕ) → c ≤ 31 → is_shown b ≡ true → (b == c) ≡ false
no_control c b low e = ne_eqb b c (λ is. omega (arith, is, low, leb-true 32 b (and_parts (nat_le 32 b) (nat_le b 126) e).0))

spelled_shown : {rules : Rules} (line : List ℕ) (ask : Asked) → SpellsRequest rules line ask → list_all is_shown line ≡ true
spelled_shown line ask spells =
    ap (list_all is_shown) (sym (fields_joined line))
    ∙ joined_pass 32 is_shown refl (fields line) (more_pass is_field (list_all is_shown)
    (λ field e. more_pass is_visible is_shown seen_is_shown field (field_bytes field e)) (fields line) spells.visible)

shown_free : (line : List ℕ) → list_all is_shown line ≡ true → free 10 line ≡ true
shown_free line e = more_pass is_shown (λ b. not (b == 10)) (λ b seen. not_from_false (b == 10) (no_control 10 b (omega arith) seen)) line e

no_return : (line : List ℕ) (i : ℕ) → list_all is_shown line ≡ true → (get_or line i 0 == 13) ≡ false
no_return [] zero e = refl
no_return [] (suc i) e = refl
no_return (b ∷ line) zero e = no_control 13 b (omega arith) (and_parts (is_shown b) (list_all is_shown line) e).0
no_return (b ∷ line) (suc i) e = no_return line i (and_parts (is_shown b) (list_all is_shown line) e).1

shown_stays : (line : List ℕ) → list_all is_shown line ≡ true → strip_carriage_return line ≡ line
shown_stays line e = ap (λ b. cond b (take (length line - 1) line) line) (no_return line (length line - 1) e)

return_goes : (line : List ℕ) → strip_carriage_return (line ++ 13 ∷ []) ≡ line
return_goes line =
    let less : length (line ++ 13 ∷ []) - 1 ≡ length line = omega (arith, length-append line (13 ∷ [])) in
    ap (λ n. cond (get_or (line ++ 13 ∷ []) n 0 == 13) (take n (line ++ 13 ∷ [])) (line ++ 13 ∷ [])) less
    ∙ ap (λ b. cond (b == 13) (take (length line) (line ++ 13 ∷ [])) (line ++ 13 ∷ [])) (get_or_at line 13 [] 0 (length line) refl)
    ∙ take_at line (13 ∷ []) (length line) refl

-- how a line ends
data Ends (line : List ℕ) : Type 0 where
  bare : strip_carriage_return line ≡ line → Ends line
  returned : (front : List ℕ) → line ≡ front ++ 13 ∷ [] → strip_carriage_return line ≡ front → Ends line

ends : (line : List ℕ) → Ends line
ends [] = bare refl
ends (b ∷ more) = by (get_or (b ∷ more) (length (b ∷ more) - 1) 0 == 13) refl
  where
    by : (t : Bool) → (get_or (b ∷ more) (length (b ∷ more) - 1) 0 == 13) ≡ t → Ends (b ∷ more)
    by false e = bare (ap (λ t. cond t (take (length (b ∷ more) - 1) (b ∷ more)) (b ∷ more)) e)
    by true e =
        let i : ℕ = length (b ∷ more) - 1 in
        let read = (take_at_read (b ∷ more) i 0 (omega arith)).1 in
        returned (take i (b ∷ more))
        (sym (take_all (i + 1) (b ∷ more) (omega arith)) ∙ read ∙ ap (λ c. take i (b ∷ more) ++ c ∷ []) (eqb-true _ _ e))
        (ap (λ t. cond t (take i (b ∷ more)) (b ∷ more)) e)

-- the last byte of what stands behind a text
last_behind : (front : List ℕ) (c : ℕ) (more : List ℕ) →
    get_or (front ++ c ∷ more) (length (front ++ c ∷ more) - 1) 0 ≡ get_or (c ∷ more) (length (c ∷ more) - 1) 0
last_behind [] c more = refl
last_behind (b ∷ front) c more =
    let some : length (b ∷ front ++ c ∷ more) - 1 ≡ suc (length (front ++ c ∷ more) - 1) = omega (arith, length-append front (c ∷ more)) in
    ap (λ i. get_or (b ∷ front ++ c ∷ more) i 0) some ∙ last_behind front c more

-- a line that ends in no carriage return, of which another text takes the first one's place
other_bare : (text other tail : List ℕ) → strip_carriage_return (text ++ tail) ≡ text ++ tail → strip_carriage_return other ≡ other →
    strip_carriage_return (other ++ tail) ≡ other ++ tail
other_bare text other [] e stays = ap strip_carriage_return (append-nil other) ∙ stays ∙ sym (append-nil other)
other_bare text other (c ∷ more) e stays = by (get_or (text ++ c ∷ more) (length (text ++ c ∷ more) - 1) 0 == 13) refl
  where
    by : (t : Bool) → (get_or (text ++ c ∷ more) (length (text ++ c ∷ more) - 1) 0 == 13) ≡ t →
        strip_carriage_return (other ++ c ∷ more) ≡ other ++ c ∷ more
    by true at =
        let line : List ℕ = text ++ c ∷ more in
        let cuts : take (length line - 1) line ≡ line = sym (ap (λ t. cond t (take (length line - 1) line) line) at) ∙ e in
        absurd (omega (arith, ap length cuts, length-take-le (length line - 1) line (omega arith), length-append text (c ∷ more)))
    by false at =
        ap (λ t. cond t (take (length (other ++ c ∷ more) - 1) (other ++ c ∷ more)) (other ++ c ∷ more))
        (ap (λ b. b == 13) (last_behind other c more ∙ sym (last_behind text c more)) ∙ at)

-- a comment's line stays
comment_stays : (rules : Rules) (line : List ℕ) → ended_text rules Comment line ≡ line
comment_stays rules line = by (ends line)
  where
    whole : (front end : List ℕ) → line ≡ front ++ end → strip_carriage_return line ≡ front → ended_text rules Comment line ≡ line
    whole front end is e =
        let so = split rules front in
        let text : List ℕ = text_in rules front in
        let all : line ≡ text ++ (so.tail ++ end) = is ∙ ap (λ l. l ++ end) so.is ∙ append_assoc text so.tail end in
        ap (λ l. line_text Comment (text_in rules l) ++ drop (length (text_in rules l)) line) e
        ∙ ap (λ l. l ++ drop (length text) line) (fields_joined text)
        ∙ ap (λ l. text ++ drop (length text) l) all
        ∙ ap (λ rest. text ++ rest) (drop_at text (so.tail ++ end) (length text) refl)
        ∙ sym all

    by : Ends line → ended_text rules Comment line ≡ line
    by (bare e) = whole line [] (sym (append-nil line)) e
    by (returned front is e) = whole front (13 ∷ []) is e

spelled_some : {rules : Rules} (text : List ℕ) (ask : Asked) → SpellsRequest rules text ask → text ≢ []
spelled_some [] ask spells is = false≢true spells.visible
spelled_some (b ∷ more) ask spells is = cc

free_behind : (text tail : List ℕ) → free 10 (text ++ tail) ≡ true → free 10 tail ≡ true
free_behind text tail clean =
    (and_parts (free 10 text) (free 10 tail) (sym (list_all-append (λ b. not (b == 10)) text tail) ∙ clean)).1

free_both : (text tail : List ℕ) → free 10 text ≡ true → free 10 tail ≡ true → free 10 (text ++ tail) ≡ true
free_both text tail one two =
    list_all-append (λ b. not (b == 10)) text tail ∙ and_from (free 10 text) (free 10 tail) one two

-- a line that says nothing, or asks for something
kind_of : {rules : Rules} (line : List ℕ) (ask : Asked) → SpellsLine rules line ask →
    (IsTrue (is_blank rules (text_in rules line)) × (ask ≡ comment)) ⊎ SpellsRequest rules (text_in rules line) ask
kind_of line _ (blank none) = inl (none, refl)
kind_of line ask (request spells) = inr spells

-- nobody asks on a comment's line with less
no_less : (less given : Action) → ActionWithin less given → says_nothing given ≡ true → less ≡ given
no_less less _ as_given e = refl
no_less _ _ (less_pledged first second) e = absurd (false≢true e)
no_less _ _ (less_unveiled held) e = absurd (false≢true e)

nobody_less : (x y : Asked) → AskWithin x y → y ≡ comment → x ≡ comment
nobody_less x y within is =
    let action : x.action ≡ y.action = no_less x.action y.action within.action (ap (λ (ask : Asked). says_nothing ask.action) is) in
    (λ i. record { process = within.process i; action = action i }) ∙ is

-- what a line says is said before its end
said_shorter : (rules : Rules) (front : List ℕ) (ask : Asked) → SpellsRequest rules (text_in rules (front ++ 13 ∷ [])) ask →
    text_in rules front ≡ text_in rules (front ++ 13 ∷ [])
said_shorter rules front ask = by rules
  where
    not_shown : {rules : Rules} → SpellsRequest rules (front ++ 13 ∷ []) ask → ⊥
    not_shown spells =
        let shown = sym (list_all-append is_shown front (13 ∷ [])) ∙ spelled_shown (front ++ 13 ∷ []) ask spells in
        false≢true (and_parts (list_all is_shown front) false shown).1

    by : (rules : Rules) → SpellsRequest rules (text_in rules (front ++ 13 ∷ [])) ask → text_in rules front ≡ text_in rules (front ++ 13 ∷ [])
    by Standard spells = absurd (not_shown spells)
    by Openbsd spells = cases (before_comment true (front ++ 13 ∷ [])) refl spells
      where
        cases : (o : Option (List ℕ)) → before_comment true (front ++ 13 ∷ []) ≡ o →
            SpellsRequest Openbsd (unwrap_or o (front ++ 13 ∷ [])) ask → text_in Openbsd front ≡ unwrap_or o (front ++ 13 ∷ [])
        cases None e spells = absurd (not_shown spells)
        cases (Some text) e spells = ap (λ o. unwrap_or o front) (cut_without true front text e)

-- a line whose text is thinned: it has no line feed, and is read with its end or without
record LineThin (rules : Rules) (x : Asked) (line : List ℕ) : Type 0 where
  clean : free 10 (ended_text rules x.action line) ≡ true
  spells : SpellsLine rules (strip_carriage_return (ended_text rules x.action line)) x

-- and so is the last line, with what ends it
record LastThin (rules : Rules) (x : Asked) (line : List ℕ) : Type 0 where
  clean : free 10 (ended_text rules x.action line) ≡ true
  some : (length (ended_text rules x.action line) == 0) ≡ false
  spells : SpellsLine rules (ended_text rules x.action line) x

some_text : {rules : Rules} (text tail : List ℕ) (ask : Asked) → SpellsRequest rules text ask → (length (text ++ tail) == 0) ≡ false
some_text [] tail ask spells = absurd (false≢true spells.visible)
some_text (b ∷ more) tail ask spells = ne_eqb (length (b ∷ more ++ tail)) 0 (λ e. omega (arith, e))

module _ (rules : Rules) (line : List ℕ) (x y : Asked) (within : AskWithin x y) where
  thin : (text : List ℕ) → SpellsRequest rules text y → IsThin rules text y x.action
  thin text spells = thin_line_read text y x.action spells within.action

  is_less : (text : List ℕ) → SpellsRequest rules text y → SpellsRequest rules (line_text x.action text) x
  is_less text spells =
      subst (λ p. SpellsRequest rules (line_text x.action text) (record { process = p; action = x.action })) (sym within.process)
      (thin text spells).spells

  -- what is read of a line without an end
  module _ (front : List ℕ) (spells : SpellsRequest rules (text_in rules front) y) where
    abbrev text : List ℕ
    text = text_in rules front

    abbrev other : List ℕ
    other = line_text x.action (text_in rules front)

    so : IsSplit rules front (text_in rules front)
    so = split rules front

    said_again : text_in rules (other ++ so.tail) ≡ other
    said_again = so.again (spelled_some text y spells) other (λ by_openbsd. (thin text spells).clean (so.none by_openbsd)) (thin text spells).shown

    other_shown : list_all is_shown other ≡ true
    other_shown = spelled_shown other x (is_less text spells)

    read_again : SpellsLine rules (other ++ so.tail) x
    read_again = request (subst (λ t. SpellsRequest rules t x) (sym said_again) (is_less text spells))

    -- the line with its end
    ended : (end : List ℕ) → line ≡ front ++ end → strip_carriage_return line ≡ front →
        ended_text rules x.action line ≡ (other ++ so.tail) ++ end
    ended end is e =
        ap (λ l. line_text x.action (text_in rules l) ++ drop (length (text_in rules l)) line) e
        ∙ ap (λ l. other ++ drop (length text) l) (is ∙ ap (λ l. l ++ end) so.is ∙ append_assoc text so.tail end)
        ∙ ap (λ rest. other ++ rest) (drop_at text (so.tail ++ end) (length text) refl)
        ∙ sym (append_assoc other so.tail end)

  blank_stays : x ≡ comment → ended_text rules x.action line ≡ line
  blank_stays silent = ap (λ (ask : Asked). ended_text rules ask.action line) silent ∙ comment_stays rules line

  thin_line : free 10 line ≡ true → SpellsLine rules (strip_carriage_return line) y → LineThin rules x line
  thin_line clean spells = by (kind_of (strip_carriage_return line) y spells)
    where
      of_request : (front : List ℕ) → SpellsRequest rules (text_in rules front) y → Ends line → strip_carriage_return line ≡ front → LineThin rules x line
      of_request front spells (bare e) is =
          let same : line ≡ front = sym e ∙ is in
          let s = so front spells in
          let made : ended_text rules x.action line ≡ other front spells ++ s.tail =
          ended front spells [] (same ∙ sym (append-nil front)) is ∙ append-nil (other front spells ++ s.tail) in
          let shown = other_shown front spells in
          let stays : strip_carriage_return (other front spells ++ s.tail) ≡ other front spells ++ s.tail =
          other_bare (text_in rules front) (other front spells) s.tail
          (ap strip_carriage_return (sym (same ∙ s.is)) ∙ e ∙ same ∙ s.is) (shown_stays (other front spells) shown) in
          record {
            clean = ap (free 10) made ∙ free_both (other front spells) s.tail (shown_free (other front spells) shown)
                (free_behind (text_in rules front) s.tail (ap (free 10) (sym (same ∙ s.is)) ∙ clean));
            spells = subst (λ l. SpellsLine rules l x) (sym (ap strip_carriage_return made ∙ stays)) (read_again front spells);
          }
      of_request front spells (returned short at e) is =
          let same : short ≡ front = sym e ∙ is in
          let s = so front spells in
          let made : ended_text rules x.action line ≡ (other front spells ++ s.tail) ++ 13 ∷ [] =
          ended front spells (13 ∷ []) (at ∙ ap (λ l. l ++ 13 ∷ []) same) is in
          let shown = other_shown front spells in
          let all : line ≡ text_in rules front ++ (s.tail ++ 13 ∷ []) =
          at ∙ ap (λ l. l ++ 13 ∷ []) (same ∙ s.is) ∙ append_assoc (text_in rules front) s.tail (13 ∷ []) in
          record {
            clean = ap (free 10) (made ∙ append_assoc (other front spells) s.tail (13 ∷ []))
                ∙ free_both (other front spells) (s.tail ++ 13 ∷ []) (shown_free (other front spells) shown)
                (free_behind (text_in rules front) (s.tail ++ 13 ∷ []) (ap (free 10) (sym all) ∙ clean));
            spells = subst (λ l. SpellsLine rules l x) (sym (ap strip_carriage_return made ∙ return_goes (other front spells ++ s.tail)))
                (read_again front spells);
          }

      by : (IsTrue (is_blank rules (text_in rules (strip_carriage_return line))) × (y ≡ comment))
          ⊎ SpellsRequest rules (text_in rules (strip_carriage_return line)) y → LineThin rules x line
      by (inr spells) = of_request (strip_carriage_return line) spells (ends line) refl
      by (inl nobody) =
          let silent : x ≡ comment = nobody_less x y within nobody.1 in
          let stays = blank_stays silent in
          record {
            clean = ap (free 10) stays ∙ clean;
            spells = subst (SpellsLine rules (strip_carriage_return (ended_text rules x.action line))) (sym silent)
                (subst (λ l. SpellsLine rules (strip_carriage_return l) comment) (sym stays) (blank nobody.0));
          }

  -- the last line, whose end is not cut off
  last_line : free 10 line ≡ true → (length line == 0) ≡ false → SpellsLine rules line y → LastThin rules x line
  last_line clean some reads = by (kind_of line y reads)
    where
      by : (IsTrue (is_blank rules (text_in rules line)) × (y ≡ comment)) ⊎ SpellsRequest rules (text_in rules line) y → LastThin rules x line
      by (inl nobody) =
          let silent : x ≡ comment = nobody_less x y within nobody.1 in
          let stays = blank_stays silent in
          record {
            clean = ap (free 10) stays ∙ clean;
            some = ap (λ l. length l == 0) stays ∙ some;
            spells = subst (SpellsLine rules (ended_text rules x.action line)) (sym silent)
                (subst (λ l. SpellsLine rules l comment) (sym stays) (blank nobody.0));
          }
      by (inr spells) =
          let s = so line spells in
          let same : text_in rules (strip_carriage_return line) ≡ text_in rules line = said (ends line) spells in
          let made : ended_text rules x.action line ≡ other line spells ++ s.tail =
          ap (λ t. line_text x.action t ++ drop (length t) line) same ∙ ap (λ rest. other line spells ++ rest) s.left in
          let shown = other_shown line spells in
          record {
            clean = ap (free 10) made ∙ free_both (other line spells) s.tail (shown_free (other line spells) shown)
                (free_behind (text_in rules line) s.tail (ap (free 10) (sym s.is) ∙ clean));
            some = ap (λ l. length l == 0) made ∙ some_text (other line spells) s.tail x (is_less (text_in rules line) spells);
            spells = subst (λ l. SpellsLine rules l x) (sym made) (read_again line spells);
          }
        where
          said : Ends line → SpellsRequest rules (text_in rules line) y → text_in rules (strip_carriage_return line) ≡ text_in rules line
          said (bare e) spells = ap (text_in rules) e
          said (returned front at e) spells =
              ap (text_in rules) e ∙ said_shorter rules front y (subst (λ l. SpellsRequest rules (text_in rules l) y) at spells)
              ∙ ap (text_in rules) (sym at)

-- the lines of the parts between line feeds
record LinesThin (rules : Rules) (xs : List Asked) (parts : List (List ℕ)) : Type 0 where
  spell : SpellRequests rules (lines_of_parts (lines_text rules xs parts)) xs
  cuts : list_all (free 10) (lines_text rules xs parts) ≡ true
  count : length (lines_of_parts (lines_text rules xs parts)) ≡ length (lines_of_parts parts)

then_more : (rules : Rules) (line y : List ℕ) (parts : List (List ℕ)) (xs : List Asked) →
    lines_of_parts (line ∷ lines_text rules xs (y ∷ parts)) ≡ strip_carriage_return line ∷ lines_of_parts (lines_text rules xs (y ∷ parts))
then_more rules line y parts [] = refl
then_more rules line y parts (x ∷ xs) = refl

last_thin : {rules : Rules} (line : List ℕ) {xs ys : List Asked} → AsksWithin xs ys → free 10 line ≡ true → (b : Bool) → (length line == 0) ≡ b →
    SpellRequests rules (cond b [] (line ∷ [])) ys → LinesThin rules xs (line ∷ [])
last_thin {rules = rules} line no_asks clean true none spells =
    record { spell = subst (λ ls. SpellRequests rules ls []) (sym (ap (λ b. cond b [] (line ∷ [])) none)) tt; cuts = and_from (free 10 line) true clean refl; count = refl }
last_thin line (asks first rest) clean true none spells = absurd spells
last_thin line no_asks clean false some spells = absurd spells
last_thin {rules = rules} line (asks {x = x} {y = y} first no_asks) clean false some spells =
    let thin : LastThin rules x line = last_line rules line x y first clean some spells.0 in
    let text : List ℕ = ended_text rules x.action line in
    let lines : lines_of_parts (text ∷ []) ≡ text ∷ [] = ap (λ b. cond b [] (text ∷ [])) thin.some in
    record {
      spell = subst (λ ls. SpellRequests rules ls (x ∷ [])) (sym lines) (thin.spells, tt);
      cuts = and_from (free 10 text) true thin.clean refl;
      count = ap length lines ∙ sym (ap (λ b. length (cond b [] (line ∷ []))) some);
    }
last_thin line (asks first (asks next rest)) clean false some spells = absurd spells.1

lines_thin : {rules : Rules} (parts : List (List ℕ)) {xs ys : List Asked} → AsksWithin xs ys → list_all (free 10) parts ≡ true →
    SpellRequests rules (lines_of_parts parts) ys → LinesThin rules xs parts
lines_thin [] no_asks clean spells = record { spell = tt; cuts = refl; count = refl }
lines_thin [] (asks first rest) clean spells = absurd spells
lines_thin (line ∷ []) within clean spells =
    last_thin line within (and_parts (free 10 line) true clean).0 (length line == 0) refl spells
lines_thin (line ∷ next ∷ parts) no_asks clean spells = absurd spells
lines_thin {rules = rules} (line ∷ next ∷ parts) (asks {x = x} {y = y} {xs = xs} first rest) clean spells =
    let both = and_parts (free 10 line) (list_all (free 10) (next ∷ parts)) clean in
    let more : LinesThin rules xs (next ∷ parts) = lines_thin (next ∷ parts) rest both.1 spells.1 in
    let one : LineThin rules x line = thin_line rules line x y first both.0 spells.0 in
    let text : List ℕ = ended_text rules x.action line in
    record {
      spell = subst (λ ls. SpellRequests rules ls (x ∷ xs)) (sym (then_more rules text next parts xs)) (one.spells, more.spell);
      cuts = and_from (free 10 text) (list_all (free 10) (lines_text rules xs (next ∷ parts))) one.clean more.cuts;
      count = ap length (then_more rules text next parts xs) ∙ ap suc more.count;
    }

joined_again : (rules : Rules) (line : List ℕ) (parts : List (List ℕ)) (xs : List Asked) → list_all (free 10) (lines_text rules xs (line ∷ parts)) ≡ true →
    cut 10 (join_with_byte 10 (lines_text rules xs (line ∷ parts))) ≡ lines_text rules xs (line ∷ parts)
joined_again rules line parts [] clean = cut_joined 10 line parts clean
joined_again rules line parts (x ∷ xs) clean = cut_joined 10 (ended_text rules x.action line) (lines_text rules xs parts) clean

pub texts_are_read : TextsAreRead
texts_are_read rules bytes ys xs read within = by (cut 10 bytes) refl
  where
    by : (parts : List (List ℕ)) → cut 10 bytes ≡ parts → script_by rules (thinned_text rules xs bytes) ≡ Ok xs
    by [] are = absurd (omega (arith, ap length are, length-slice_split (λ b. b == 10) bytes))
    by (line ∷ parts) are =
        let is = (scripts_are_read rules bytes ys).0 read in
        let thin : LinesThin rules xs (line ∷ parts) =
        lines_thin (line ∷ parts) within (ap (list_all (free 10)) (sym are) ∙ pieces_free 10 bytes)
        (subst (λ ps. SpellRequests rules (lines_of_parts ps) ys) are is.1) in
        let text : List ℕ = thinned_text rules xs bytes in
        let lines_are : lines text ≡ lines_of_parts (lines_text rules xs (line ∷ parts)) =
        ap (λ ps. lines_of_parts (cut 10 (join_with_byte 10 (lines_text rules xs ps)))) are
        ∙ ap lines_of_parts (joined_again rules line parts xs thin.cuts) in
        (scripts_are_read rules text xs).1 (
          subst (λ n. n ≤ most_script_lines) (ap (λ ps. length (lines_of_parts ps)) are ∙ sym thin.count ∙ ap length (sym lines_are)) is.0,
          subst (λ ls. SpellRequests rules ls xs) (sym lines_are) thin.spell,
        )

pub tight_texts_are_read : TightTextsAreRead
tight_texts_are_read rules table t bytes text told =
    let read = step_read (script_by rules bytes) (λ more. Ok (thinned_text rules (tight table (new_world t) (lines_of table (new_world t) more)) bytes)) text told in
    let same = tightens table (new_world t) (lines_of table (new_world t) read.0) in (
      read.0,
      read.1,
      ap (script_by rules) (sym (same_Ok _ text read.2))
          ∙ texts_are_read rules bytes read.0 (tight table (new_world t) (lines_of table (new_world t) read.0)) read.1
          (subst (AsksWithin (tight table (new_world t) (lines_of table (new_world t) read.0)))
          (scripts_are_tightened table (new_world t) read.0).asks same.within),
    )
