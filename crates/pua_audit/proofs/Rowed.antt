-- A row of a table of steps while it grows by one letter after another.
use Rattle.pua_audit.proofs.Common.{ℕ, suc, ◌+◌, ◌<◌, ◌≤◌, ◌^◌, ◌≡◌, List, [], ◌∷◌, ◌++◌, Option, Some, None, Bool, true, false, ◌==◌}
use Rattle.pua_audit.proofs.Common.{nat_le, cond, refl, ap, arith, sym, ◌∙◌, length, get_or, option_map, subst, inl, inr, IfSome}
use Rattle.pua_audit.proofs.Common.{AllByRecursion, cases_eq, eq-eqb, ne_eqb, most_links, bit_of, Judge, IsGrown, IsEntryFor, IsJudgedRow}
use Rattle.pua_audit.proofs.Common.{IsLetter, has_call, call_count, Entry, all_joined}
use Rattle.pua_audit.specs.Table.{IsLetterTold, entry_with_letter}
use Rattle.pua_audit.specs.Judge as named
use Rattle.pua_steps.specs.Table.{Rising}

pub grown_itself : (dirs : List ℕ) → IsGrown dirs dirs
grown_itself dirs = record { more = omega arith; same = λ d low. refl }

pub grown_further : (a b c : List ℕ) → IsGrown a b → IsGrown b c → IsGrown a c
grown_further a b c first second =
    record {
      more = omega (arith, first.more, second.more);
      same = λ d low. second.same d (omega (arith, low, first.more)) ∙
          first.same d low;
    }

-- the letters of the entries are below n, so n itself has none

no_entry : (n dirs : ℕ) (es : List Entry) → AllByRecursion (λ e. IsEntryFor n dirs e) es → (i : ℕ) → n ≤ i → entry_with_letter i es ≡ None
no_entry n dirs [] all i low = refl
no_entry n dirs (e ∷ es) all i low =
    ap (λ b. cond b (Some e) (entry_with_letter i es)) (ne_eqb e.letter i (λ same. omega (arith, same, low, all.0.letter))) ∙
    no_entry n dirs es all.1 i low

entry_before : (i : ℕ) (e : Entry) (es : List Entry) → (e.letter ≡ i → ⊥) → entry_with_letter i (es ++ e ∷ []) ≡ entry_with_letter i es
entry_before i e [] away = ap (λ b. cond b (Some e) None) (ne_eqb e.letter i away)
entry_before i e (x ∷ es) away =
    elim (x.letter == i) as (λ b. cond b (Some x) (entry_with_letter i (es ++ e ∷ [])) ≡ cond b (Some x) (entry_with_letter i es)) [
      | true ↦ refl
      | false ↦ entry_before i e es away
    ]

entry_last : (n dirs : ℕ) (e : Entry) (es : List Entry) → AllByRecursion (λ x. IsEntryFor n dirs x) es → e.letter ≡ n →
    entry_with_letter n (es ++ e ∷ []) ≡ Some e
entry_last n dirs e [] all same = ap (λ b. cond b (Some e) None) (eq-eqb e.letter n same)
entry_last n dirs e (x ∷ es) all same =
    ap (λ b. cond b (Some x) (entry_with_letter n (es ++ e ∷ []))) (ne_eqb x.letter n (λ eq. omega (arith, eq, all.0.letter))) ∙
    entry_last n dirs e es all.1 same

-- more letters and directories

wider : (n m a b : ℕ) → n ≤ m → a ≤ b → (e : Entry) → IsEntryFor n a e → IsEntryFor m b e
wider n m a b letters dirs e is = record {
  letter = omega (arith, is.letter, letters);
  kept = is.kept;
  all = is.all;
  more = is.more;
  links = is.links;
  to = by e.to is.to;
}
  where
    by : (to : Option ℕ) → IfSome to (λ d. d < a) → IfSome to (λ d. d < b)
    by None low = tt
    by (Some d) low = omega (arith, low, dirs)

all_wider : (n m a b : ℕ) → n ≤ m → a ≤ b → (es : List Entry) → AllByRecursion (λ e. IsEntryFor n a e) es →
    AllByRecursion (λ e. IsEntryFor m b e) es
all_wider n m a b letters dirs [] all = tt
all_wider n m a b letters dirs (e ∷ es) all = (wider n m a b letters dirs e all.0, all_wider n m a b letters dirs es all.1)

module _ (w : Judge) (letters : List (List ℕ)) (dir missing : ℕ) where
  leads_alike : (old new : List ℕ) → IsGrown old new → (to : Option ℕ) → IfSome to (λ d. d < length old) →
      option_map (λ d. get_or old d 0) to ≡ option_map (λ d. get_or new d 0) to
  leads_alike old new grown None low = refl
  leads_alike old new grown (Some d) low = ap Some (sym (grown.same d low))

  told_grown : (old new : List ℕ) → IsGrown old new → (i n : ℕ) (es : List Entry) → AllByRecursion (λ e. IsEntryFor n (length old) e) es →
      IsLetterTold w old dir (get_or letters i []) missing (entry_with_letter i es) →
      IsLetterTold w new dir (get_or letters i []) missing (entry_with_letter i es)
  told_grown old new grown i n [] all told = told
  told_grown old new grown i n (e ∷ es) all told =
      elim (e.letter == i) as (λ b. IsLetterTold w old dir (get_or letters i []) missing (cond b (Some e) (entry_with_letter i es)) →
      IsLetterTold w new dir (get_or letters i []) missing (cond b (Some e) (entry_with_letter i es))) [
        | true ↦ λ first. subst (IsLetter w dir (get_or letters i []) e.all e.kept e.links) (leads_alike old new grown e.to all.0.to) first
        | false ↦ λ rest. told_grown old new grown i n es all.1 rest
      ] told

  -- directories may come after those that a row knows
  pub row_grown : (old new : List ℕ) (n : ℕ) (es : List Entry) → IsGrown old new → IsJudgedRow w letters old dir n missing es →
      IsJudgedRow w letters new dir n missing es
  row_grown old new n es grown is = record {
    told = λ i low. told_grown old new grown i n es is.listed (is.told i low);
    listed = all_wider n n (length old) (length new) (omega arith) grown.more es is.listed;
    rises = is.rises;
    others = is.others;
  }

  -- no letter yet
  pub row_empty : (dirs : List ℕ) → missing < 2 ^ call_count → IsJudgedRow w letters dirs dir 0 missing []
  row_empty dirs fits = record { told = λ i low. absurd (omega (arith, low)); listed = tt; rises = tt; others = fits }

  either : (b : Bool) → cond b missing missing ≡ missing
  either true = refl
  either false = refl

  nowhere : (b : Bool) (used other : ℕ) → cond b (option_map {U = named.JudgeState} (λ (d : ℕ). record { dir = d; used = used }) None) None
      ≡ cond (nat_le other most_links) (option_map {U = named.JudgeState} (λ (d : ℕ). record { dir = d; used = other }) None) None
  nowhere true used other =
      elim (nat_le other most_links)
      as (λ b. None ≡ cond b (option_map {U = named.JudgeState} (λ (d : ℕ). record { dir = d; used = other }) None) None) [
        | true ↦ refl
        | false ↦ refl
      ]
  nowhere false used other =
      elim (nat_le other most_links)
      as (λ b. None ≡ cond b (option_map {U = named.JudgeState} (λ (d : ℕ). record { dir = d; used = other }) None) None) [
        | true ↦ refl
        | false ↦ refl
      ]

  -- a letter without an entry
  plain : (letter : List ℕ) (links : ℕ) → IsLetter w dir letter missing missing links None → IsLetter w dir letter missing missing 0 None
  plain letter links is = record {
    own = λ used call low. is.own used call low ∙ ap (λ set. has_call set (bit_of call)) (either (nat_le (used + links) most_links) ∙
        sym (either (nat_le (used + 0) most_links)));
    step = λ used low. is.step used low ∙ nowhere (nat_le (used + links) most_links) (used + links) (used + 0);
  }

  pub row_skipped : (dirs : List ℕ) (n all kept links : ℕ) (leads : Option ℕ) (es : List Entry) →
      IsJudgedRow w letters dirs dir n missing es → IsLetter w dir (get_or letters n []) all kept links leads
      → all ≡ missing → kept ≡ missing → leads ≡ None → IsJudgedRow w letters dirs dir (n + 1) missing es
  row_skipped dirs n all kept links leads es is letter same_all same_kept none =
      let bare : IsLetter w dir (get_or letters n []) missing missing 0 None =
      plain (get_or letters n []) links (subst (λ o. IsLetter w dir (get_or letters n []) missing missing links o) none
      (subst (λ m. IsLetter w dir (get_or letters n []) missing m links leads) same_kept
      (subst (λ m. IsLetter w dir (get_or letters n []) m kept links leads) same_all letter))) in
      record {
        told = λ i low. elim (cases_eq i n) [
          | inl e ↦ subst (λ j. IsLetterTold w dirs dir (get_or letters j []) missing (entry_with_letter j es)) (sym e)
              (subst (IsLetterTold w dirs dir (get_or letters n []) missing) (sym (no_entry n (length dirs) es is.listed n (omega arith)))
              bare)
          | inr away ↦ is.told i (omega (arith, low, away))
        ];
        listed = all_wider n (n + 1) (length dirs) (length dirs) (omega arith) (omega arith) es is.listed;
        rises = is.rises;
        others = is.others;
      }

  rising_pushed : (n dirs next : ℕ) (e : Entry) (es : List Entry) → AllByRecursion (λ x. IsEntryFor n dirs x) es → e.letter ≡ n → next ≤ n →
      Rising next es → Rising next (es ++ e ∷ [])
  rising_pushed n dirs next e [] all same low rises = (omega (arith, same, low), tt)
  rising_pushed n dirs next e (x ∷ es) all same low rises =
      (rises.0, rising_pushed n dirs (suc x.letter) e es all.1 same (omega (arith, all.0.letter)) rises.1)

  -- a letter with an entry
  pub row_added : (dirs : List ℕ) (n : ℕ) (e : Entry) (es : List Entry) → IsJudgedRow w letters dirs dir n missing es →
      IsLetter w dir (get_or letters n []) e.all e.kept e.links (option_map (λ d. get_or dirs d 0) e.to)
      → e.letter ≡ n → IsEntryFor (n + 1) (length dirs) e → IsJudgedRow w letters dirs dir (n + 1) missing (es ++ e ∷ [])
  row_added dirs n e es is letter same fits = record {
    told = λ i low. elim (cases_eq i n) [
      | inl eq ↦ subst (λ j. IsLetterTold w dirs dir (get_or letters j []) missing (entry_with_letter j (es ++ e ∷ []))) (sym eq)
          (subst (IsLetterTold w dirs dir (get_or letters n []) missing) (sym (entry_last n (length dirs) e es is.listed same)) letter)
      | inr away ↦ subst (IsLetterTold w dirs dir (get_or letters i []) missing) (sym (entry_before i e es (λ eq. away (sym eq ∙ same))))
          (is.told i (omega (arith, low, away)))
    ];
    listed = all_joined (λ x. IsEntryFor (n + 1) (length dirs) x) es (e ∷ []) (all_wider n (n + 1) (length dirs) (length dirs) (omega arith)
        (omega arith) es is.listed) (fits, tt);
    rises = rising_pushed n (length dirs) 0 e es is.listed same (omega arith) is.rises;
    others = is.others;
  }
