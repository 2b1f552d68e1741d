-- The lines of items beside the definition's, one after another.
use Rattle.pua_texts.proofs.Common.{◌≡◌, ℕ, ◌+◌, List, [], ◌∷◌, ◌++◌, ◌<◌, ◌≤◌, ◌∙◌, cond, refl, sym, ap, subst, map}
use Rattle.pua_texts.proofs.Common.{take, drop, length, slice_index_or, append_assoc, append-nil, arith, filter, flat_map, option_map}
use Rattle.pua_texts.proofs.Common.{drop_more, drop_of_length-le, Option, Bor, Tree, CallTable, Call, call_name, calls, calls_in, ProcessState}
use Rattle.pua_texts.proofs.Common.{Word, printed_path, Root, kind_word, with_commas, lines_of, subject_given}
use Rattle.std.proofs.Common.{suc, zero}
use Rattle.std.specs.List.{AllByRecursion}
use Rattle.std.specs.Prelude.{nat_lt}
use Rattle.std.proofs.lemmas.Bool.{lt-ltb}
use Rattle.pua_ever.specs.declared.line.EverThing.TheVariants.{Stands}
use Rattle.std.specs.Prelude.{◌&&◌, Bool, true, false}
use Rattle.pua_calls.specs.CallSets.{has}
use Rattle.pua_policy.specs.Verdict.{is_allowed}
use Rattle.pua_objects.specs.Objects.{Subject, Item, Line, line_of, line_text, has_calls, is_named_by, subject_verdict}
use Rattle.pua_objects.specs.Lines.{IsShownLine, shown_lines}
use Rattle.pua_objects.specs.Roots.{shows}
use Rattle.pua_objects.specs.declared.roots.Shown.{Shown}
use Rattle.pua_objects.specs.declared.line.ObjectLine.{ObjectLine}
use Rattle.pua_texts.specs.EndingsState.{EndingsState, columns_of}
use Rattle.pua_objects.specs.ListItems as given
use Rattle.pua_texts.specs.ListLines.{last_word, lines_text, text_at, unless_none, word_after}
use Rattle.pua_objects.specs.declared.list.ListItem.{ListItem}
use Rattle.pua_texts.specs.declared.list_line.ListLine.{ListLine}
use Rattle.pua_texts.proofs.ListLines.{line_added, word_added}
use Rattle.pua_texts.proofs.ObjectLines.{parts_before}

-- the line about something at the end of these names, as the code gives it
abbrev pub line_on : Word → Subject → ObjectLine → Line
line_on word subject given = record { word = word; subject = subject; calls = calls_in given.calls }

abbrev pub line_at : ListItem → Option (Bor (List ℕ)) → ObjectLine → ℕ → Option ℕ → ListLine
line_at item name given resting veil =
    record { depth = item.depth; name = name; thing = Stands given.kind; calls = given.calls; resting = resting; veil = veil }

-- what is so of each item is so of the next
pub told_at : (t : Tree) (process : ProcessState) (items : List ListItem) (item : ListItem) (i : ℕ) → i < length items →
    item ≡ slice_index_or items i item → AllByRecursion (given.IsToldIn t process) items → given.IsToldIn t process item
told_at t process items item i within is all =
    subst (given.IsToldIn t process) (sym is) (at items i within all)
  where
    at : (items : List ListItem) (i : ℕ) → i < length items → AllByRecursion (given.IsToldIn t process) items →
        given.IsToldIn t process (slice_index_or items i item)
    at [] i within all = absurd (omega (arith, within))
    at (first ∷ items) zero within all = all.0
    at (first ∷ items) (suc i) within all = at items i (omega (arith, within)) all.1

-- what is shown, and what stands behind a line
module _ (t : Tree) (table : CallTable) (h : ProcessState) (shown : Shown) (behind : Line → List ℕ) where
  abbrev is_seen : Line → Bool
  is_seen line = shows t shown line.subject

  abbrev text : Line → List ℕ
  text line = line_text t line ++ behind line

  abbrev pub told : List Item → List ℕ
  told items = flat_map text (shown_lines t table h shown items)

  module _ (word : Word) (subject : Subject) (given : ObjectLine) (on : IsShownLine t table h shown subject given) where
    abbrev item : Item
    item = record { word = word; subject = subject }

    abbrev own : Line
    own = line_on word subject given

    -- the line of what is shown
    line_is : shows t shown subject ≡ true → line_of t table h item ≡ own
    line_is seen = (λ i. record { word = word; subject = subject; calls = filter (λ call. same call i) calls })
      where
        same : (call : Call) → (is_named_by t call subject && is_allowed (subject_verdict t table h call subject)) ≡ has given.calls call
        same call =
            ap (λ b. b && (is_named_by t call subject && is_allowed (subject_verdict t table h call subject))) (sym seen) ∙ sym (on.calls call)

    -- and what isn't shown has no calls
    no_calls : shows t shown subject ≡ false → calls_in given.calls ≡ []
    no_calls hidden = (λ i. filter (λ call. none call i) calls)
      where
        none : (call : Call) → has given.calls call ≡ false
        none call =
            on.calls call
            ∙ ap (λ b. b && (is_named_by t call subject && is_allowed (subject_verdict t table h call subject))) hidden

    by_calls : (cs : List Call) (rest : List Line) → is_seen own ≡ true →
        flat_map text (filter is_seen (cond (nat_lt 0 (length cs)) (own ∷ rest) rest))
        ≡ unless_none cs (text own) ++ flat_map text (filter is_seen rest)
    by_calls [] rest seen = refl
    by_calls (c ∷ cs) rest seen =
        ap (λ b. flat_map text (filter is_seen (cond b (own ∷ rest) rest))) (lt-ltb 0 (length (c ∷ cs)) (omega arith))
        ∙ ap (λ b. flat_map text (cond b (own ∷ filter is_seen rest) (filter is_seen rest))) seen

    left_out : (line : Line) (b : Bool) (rest : List Line) → is_seen line ≡ false →
        flat_map text (filter is_seen (cond b (line ∷ rest) rest)) ≡ flat_map text (filter is_seen rest)
    left_out line true rest hidden = ap (λ b. flat_map text (cond b (line ∷ filter is_seen rest) (filter is_seen rest))) hidden
    left_out line false rest hidden = refl

    told_next : (rest : List Item) → told (item ∷ rest) ≡ unless_none (calls_in given.calls) (text own) ++ told rest
    told_next rest = by (shows t shown subject) refl
      where
        by : (b : Bool) → shows t shown subject ≡ b → told (item ∷ rest) ≡ unless_none (calls_in given.calls) (text own) ++ told rest
        by true seen =
            (λ i. flat_map text (filter is_seen (cond (has_calls (line_is seen i)) (line_is seen i ∷ lines_of t table h rest)
            (lines_of t table h rest))))
            ∙ by_calls (calls_in given.calls) (lines_of t table h rest) seen
        by false hidden =
            left_out (line_of t table h item) (has_calls (line_of t table h item)) (lines_of t table h rest) hidden
            ∙ ap (λ cs. unless_none cs (text own) ++ told rest) (sym (no_calls hidden))

  -- one more line, of the next of some items
  module _ (columns : EndingsState) (items : List ListItem) (item : ListItem) (i : ℕ) (within : i < length items)
      (is : item ≡ slice_index_or items i item) (name : Option (Bor (List ℕ)))
      (named : option_map (λ n. n.now) name ≡ given.last_name item.item.subject) (line : ObjectLine)
      (on : IsShownLine t table h shown (subject_given t item.item.subject) line) (resting : ℕ) (veil : Option ℕ) where
    abbrev Behind : Type 0
    Behind = (word : Word) → columns_of columns resting veil ≡ behind (line_on word (subject_given t item.item.subject) line)

    item_text : (word : Word) → Behind → text_at columns (word_after word (line_at item name line resting veil))
        (line_at item name line resting veil)
        ≡ unless_none (calls_in line.calls) (line_text t (line_on (given.word_after word item) (subject_given t item.item.subject) line)
        ++ behind (line_on (given.word_after word item) (subject_given t item.item.subject) line))
    item_text word ends =
        let names = with_commas (map call_name (calls_in line.calls)) in
        let at = given.word_after word item in
        (λ j. text_at columns (given.with_name (take item.depth word) (named j)) (line_at item name line resting veil))
        ∙ ap (unless_none (calls_in line.calls))
        (parts_before (kind_word line.kind) (printed_path Root at) names (columns_of columns resting veil)
        ∙ (λ j. (on.kind j ++ 32 ∷ printed_path Root at ++ 32 ∷ names) ++ ends at j))

    pub told_more : (lines : List ListLine) (all : List ℕ) → Behind →
        lines_text columns [] lines ++ told (given.items_told t (last_word [] lines) (drop i items)) ≡ all
        → lines_text columns [] (lines ++ line_at item name line resting veil ∷ [])
        ++ told (given.items_told t (last_word [] (lines ++ line_at item name line resting veil ∷ [])) (drop (i + 1) items)) ≡ all
    told_more lines all ends so_far =
        let word = last_word [] lines in
        let new = line_at item name line resting veil in
        let at = given.word_after word item in
        let one = unless_none (calls_in line.calls) (line_text t (line_on at (subject_given t item.item.subject) line)
        ++ behind (line_on at (subject_given t item.item.subject) line)) in
        let rest = told (given.items_told t at (drop (i + 1) items)) in
        (λ j. (line_added columns [] lines new ∙ ap (λ s. lines_text columns [] lines ++ s) (item_text word ends)) j
        ++ told (given.items_told t ((word_added [] lines new ∙ ap (given.with_name (take item.depth word)) named) j) (drop (i + 1) items)))
        ∙ append_assoc (lines_text columns [] lines) one rest
        ∙ ap (λ s. lines_text columns [] lines ++ s)
        (sym (told_next at (subject_given t item.item.subject) line on (given.items_told t at (drop (i + 1) items)))
        ∙ ap (λ its. told (given.items_told t word its)) (sym (drop_more items i item within ∙ ap (λ l. l ∷ drop (i + 1) items) (sym is))))
        ∙ so_far

  pub told_all : (columns : EndingsState) (items : List ListItem) (i : ℕ) (lines : List ListLine) (all : List ℕ) → length items ≤ i →
      lines_text columns [] lines ++ told (given.items_told t (last_word [] lines) (drop i items)) ≡ all → lines_text columns [] lines ≡ all
  told_all columns items i lines all past so_far =
      sym (append-nil (lines_text columns [] lines))
      ∙ ap (λ its. lines_text columns [] lines ++ told (given.items_told t (last_word [] lines) its)) (sym (drop_of_length-le items past))
      ∙ so_far
