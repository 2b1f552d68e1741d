-- The graph of a table of steps stands for the judge whose letters its rows tell.
use Rattle.pua_audit.proofs.Common.{ℕ, zero, suc, ◌+◌, ◌-◌, ◌<◌, ◌≤◌, ◌≡◌, List, [], ◌∷◌, ◌++◌, Option, Some, None, Bool, true, false, ◌||◌}
use Rattle.pua_audit.proofs.Common.{◌==◌, nat_le, cond, refl, ap, arith, sym, ◌∙◌, map, length, get_or, option_map, append-nil, subst, inl}
use Rattle.pua_audit.proofs.Common.{inr, IfSome, AllByRecursion, range_with_len, cases_eq, cases_lt, eqb-true, eq-eqb, ne_eqb, most_links}
use Rattle.pua_audit.proofs.Common.{bit_of, Call, Judge, WordEnd, Below, allowed_at, named_in, IsRight, HasJudgedVisits, IsKnown, IsTableOf}
use Rattle.pua_audit.proofs.Common.{has_call, calls_of, State, Entry, Steps, Visit, all_joined}
use Rattle.std.proofs.lemmas.Bool.{leb-true, or_parts}
use Rattle.pua_audit.specs.Graphs.{is_visited, RisingVisits, IsMissing}
use Rattle.pua_audit.specs.Table.{IsLetterTold, entry_with_letter}
use Rattle.pua_audit.specs.Judge as named
use Rattle.pua_audit.proofs.Leading.{masks_list}
use Rattle.pua_steps.specs.Table as steps

visited-append : (xs ys : List Visit) (i : ℕ) → is_visited (xs ++ ys) i ≡ (is_visited xs i || is_visited ys i)
visited-append [] ys i = refl
visited-append (x ∷ xs) ys i =
    elim (x.letter == i) as (λ b. cond b true (is_visited (xs ++ ys) i) ≡ (cond b true (is_visited xs i) || is_visited ys i)) [
      | true ↦ refl
      | false ↦ visited-append xs ys i
    ]

module _ (missing : ℕ) where
  abbrev all_missed : ℕ → ℕ → List Visit
  all_missed next n = map (steps.missing_visit missing) (range_with_len next n)

  all_in_gap : (P : Visit → Type 0) (n next : ℕ) → ((i : ℕ) → next ≤ i → i < next + n → P (steps.missing_visit missing i)) →
      AllByRecursion P (all_missed next n)
  all_in_gap P zero next each = tt
  all_in_gap P (suc n) next each =
      (each next (omega arith) (omega arith), all_in_gap P n (next + 1) (λ i low high. each i (omega (arith, low)) (omega (arith, high))))

  met_in_gap : (n next i : ℕ) → next ≤ i → i < next + n → is_visited (all_missed next n) i ≡ true
  met_in_gap zero next i low high = absurd (omega (arith, low, high))
  met_in_gap (suc n) next i low high = elim (cases_eq next i) [
    | inl e ↦ ap (λ b. cond b true (is_visited (all_missed (next + 1) n) i)) (eq-eqb next i e)
    | inr away ↦ ap (λ b. cond b true (is_visited (all_missed (next + 1) n) i)) (ne_eqb next i away) ∙
        met_in_gap n (next + 1) i (omega (arith, low, away)) (omega (arith, high))
  ]

  rising_later : (low next letters : ℕ) (vs : List Visit) → low ≤ next → RisingVisits next letters vs → RisingVisits low letters vs
  rising_later low next letters [] h rises = tt
  rising_later low next letters (v ∷ vs) h rises = (omega (arith, h, rises.0), rises.1, rises.2)

  rising_after_gap : (n next letters : ℕ) (vs : List Visit) → next + n ≤ letters → RisingVisits (next + n) letters vs →
      RisingVisits next letters (all_missed next n ++ vs)
  rising_after_gap zero next letters vs high rises = rising_later next (next + 0) letters vs (omega arith) rises
  rising_after_gap (suc n) next letters vs high rises =
      let same : next + suc n ≡ next + 1 + n = omega arith in (
        omega arith,
        omega (arith, high),
        rising_later (suc next) (next + 1) letters (all_missed (next + 1) n ++ vs) (omega arith)
            (rising_after_gap n (next + 1) letters vs (omega (arith, high)) (subst (λ m. RisingVisits m letters vs) same rises)),
      )

  -- the gap is empty, or it has all its letters
  abbrev InGap : (List Visit → Type 0) → ℕ → ℕ → Type 0
  InGap P next n = (missing ≡ 0 → P []) → ((missing ≡ 0 → ⊥) → P (all_missed next n)) → P (steps.gap missing next n)

  in_gap : (P : List Visit → Type 0) (next n : ℕ) → InGap P next n
  unfolding steps.gap
  in_gap P next n empty full = elim (missing == 0) as (λ b. (missing == 0) ≡ b → P (cond b [] (all_missed next n))) [
    | true ↦ λ e. empty (eqb-true missing 0 e)
    | false ↦ λ e. full (λ none. absurd (let no : (missing == 0) ≡ true = eq-eqb missing 0 none in let both : true ≡ false = sym no ∙ e in
        cc))
  ] refl

  gap_rises : (n next letters : ℕ) (vs : List Visit) → next + n ≤ letters → RisingVisits (next + n) letters vs →
      RisingVisits next letters (steps.gap missing next n ++ vs)
  gap_rises n next letters vs high rises =
      in_gap (λ gap. RisingVisits next letters (gap ++ vs)) next n (λ _. rising_later next (next + n) letters vs (omega arith) rises)
      (λ _. rising_after_gap n next letters vs high rises)

module _ (w : Judge) (letters : List (List ℕ)) (names : List ℕ) (missing : ℕ) (s : State) (known : IsKnown names s) where
  abbrev dir : ℕ
  dir = get_or names s.dir 0

  abbrev at : ℕ → WordEnd
  at i = Below (named_in names s) (get_or letters i [])

  abbrev Told : ℕ → Option Entry → Type 0
  Told i o = IsLetterTold w names dir (get_or letters i []) missing o

  abbrev Right : Visit → Type 0
  Right v = IsRight w letters names s v

  abbrev Closed : Visit → Type 0
  Closed v = IfSome v.behind (IsKnown names)

  calls_listed : (i set : ℕ) → ((call : Call) → w.own (at i) call ≡ has_call set (bit_of call)) →
      map bit_of (allowed_at w (at i)) ≡ calls_of set
  unfolding allowed_at
  calls_listed i set own = masks_list (w.own (at i)) set (λ call. sym (own call))

  either : (b : Bool) (n : ℕ) → cond b n n ≡ n
  either true n = refl
  either false n = refl

  nowhere : (b : Bool) (links : ℕ) → cond b (option_map {U = named.JudgeState} (λ (d : ℕ). record { dir = d; used = links }) None) None
      ≡ None
  nowhere true links = refl
  nowhere false links = refl

  missed_right : (i : ℕ) → Told i None → Right (steps.missing_visit missing i)
  missed_right i told = record {
    calls = calls_listed i missing (λ call. told.own s.used call known.used ∙
        ap (λ set. has_call set (bit_of call)) (either (nat_le (s.used + 0) most_links) missing));
    behind = told.step s.used known.used ∙ nowhere (nat_le (s.used + 0) most_links) (s.used + 0);
  }

  no_call : (cs : List Call) → map bit_of cs ≡ [] → cs ≡ []
  no_call [] e = refl
  no_call (c ∷ cs) e = absurd cc

  not_there : (i : ℕ) → missing ≡ 0 → Told i None → IsMissing w letters names s i
  unfolding calls_of
  not_there i none told =
      let right = missed_right i told in
      record { calls = no_call (allowed_at w (at i)) (right.calls ∙ ap calls_of none); behind = right.behind }

  -- a letter with an entry
  entry_right : (e : Entry) → Told e.letter (Some e) → Right (steps.visit_of s.used e)
  unfolding steps.visit_of
  entry_right e told = elim (nat_le (s.used + e.links) most_links) as (λ b.
      ((call : Call) → w.own (at e.letter) call ≡ has_call (cond b e.all e.kept) (bit_of call))
      → (w.step (at e.letter)
      ≡ cond b (option_map (λ d. record { dir = d; used = s.used + e.links }) (option_map (λ d. get_or names d 0) e.to)) None)
      → Right (cond b (record
      { letter = e.letter; calls = e.all; behind = option_map (λ to. record { dir = to; used = s.used + e.links }) e.to })
      (record { letter = e.letter; calls = e.kept; behind = None }))) [
        | true ↦ λ own step. record { calls = calls_listed e.letter e.all own; behind = step ∙ by e.to }
        | false ↦ λ own step. record { calls = calls_listed e.letter e.kept own; behind = step }
      ] (λ call. told.own s.used call known.used) (told.step s.used known.used)
    where
      by : (to : Option ℕ) → option_map (λ d. record { dir = d; used = s.used + e.links }) (option_map (λ d. get_or names d 0) to)
          ≡ option_map (named_in names) (option_map (λ d. record { dir = d; used = s.used + e.links }) to)
      by None = refl
      by (Some d) = refl

  entry_closed : (e : Entry) → IfSome e.to (λ d. d < length names) → Closed (steps.visit_of s.used e)
  unfolding steps.visit_of
  entry_closed e inside = elim (nat_le (s.used + e.links) most_links) as (λ b. nat_le (s.used + e.links) most_links ≡ b
      → Closed (cond b (record
      { letter = e.letter; calls = e.all; behind = option_map (λ to. record { dir = to; used = s.used + e.links }) e.to })
      (record { letter = e.letter; calls = e.kept; behind = None }))) [
        | true ↦ λ low. by e.to inside (leb-true (s.used + e.links) most_links low)
        | false ↦ λ _. tt
      ] refl
    where
      by : (to : Option ℕ) → IfSome to (λ d. d < length names) → s.used + e.links ≤ most_links →
          IfSome (option_map (λ d. record { dir = d; used = s.used + e.links }) to) (IsKnown names)
      by None inside low = tt
      by (Some d) inside low = record { dir = inside; used = low }

  visit_letter : (e : Entry) → (steps.visit_of s.used e).letter ≡ e.letter
  unfolding steps.visit_of
  visit_letter e = elim (nat_le (s.used + e.links) most_links)
      as (λ b. (cond {A = Visit} b
      (record { letter = e.letter; calls = e.all; behind = option_map (λ to. record { dir = to; used = s.used + e.links }) e.to })
      (record { letter = e.letter; calls = e.kept; behind = None })).letter ≡ e.letter) [
        | true ↦ refl
        | false ↦ refl
      ]

  -- entries that rise from a letter on

  none_before : (i next : ℕ) (es : List Entry) → i < next → steps.Rising next es → entry_with_letter i es ≡ None
  none_before i next [] low rises = refl
  none_before i next (e ∷ es) low rises =
      ap (λ b. cond b (Some e) (entry_with_letter i es)) (ne_eqb e.letter i (λ same. omega (arith, same, low, rises.0))) ∙
      none_before i (suc e.letter) es (omega (arith, low, rises.0)) rises.1

  abbrev Tell : ℕ → List Entry → Type 0
  Tell next es = (i : ℕ) → next ≤ i → i < length letters → Told i (entry_with_letter i es)

  abbrev AreIn : List Entry → Type 0
  AreIn es = AllByRecursion (λ e. (e.letter < length letters) × IfSome e.to (λ d. d < length names)) es

  told_before : (e : Entry) (es : List Entry) (next i : ℕ) → Tell next (e ∷ es) → steps.Rising next (e ∷ es) → next ≤ i → i < e.letter →
      i < length letters → Told i None
  told_before e es next i tell rises low high inside =
      subst (Told i) (ap (λ b. cond b (Some e) (entry_with_letter i es)) (ne_eqb e.letter i (λ same. omega (arith, same, high))) ∙
      none_before i (suc e.letter) es (omega (arith, high)) rises.1) (tell i low inside)

  told_here : (e : Entry) (es : List Entry) (next : ℕ) → Tell next (e ∷ es) → next ≤ e.letter → e.letter < length letters →
      Told e.letter (Some e)
  told_here e es next tell low inside =
      subst (Told e.letter) (ap (λ b. cond b (Some e) (entry_with_letter e.letter es)) (eq-eqb e.letter e.letter refl))
      (tell e.letter low inside)

  tell_later : (e : Entry) (es : List Entry) (next : ℕ) → Tell next (e ∷ es) → next ≤ e.letter → Tell (suc e.letter) es
  tell_later e es next tell low =
      λ i above inside. subst (Told i) (ap (λ b. cond b (Some e) (entry_with_letter i es))
      (ne_eqb e.letter i (λ same. omega (arith, same, above)))) (tell i (omega (arith, low, above)) inside)

  abbrev visits : ℕ → List Entry → List Visit
  visits next es = steps.visits_from (length letters) missing s.used next es

  visits_rise : (next : ℕ) (es : List Entry) → next ≤ length letters → steps.Rising next es → AreIn es →
      RisingVisits next (length letters) (visits next es)
  unfolding steps.visits_from
  visits_rise next [] low rises inside =
      subst (RisingVisits next (length letters)) (append-nil (steps.gap missing next (length letters - next)))
      (gap_rises missing (length letters - next) next (length letters) [] (omega (arith, low)) tt)
  visits_rise next (e ∷ es) low rises inside =
      let more : next + (e.letter - next) ≡ e.letter = omega (arith, rises.0) in
      let rest = visits_rise (suc e.letter) es (omega (arith, inside.0.0)) rises.1 inside.1 in
      let letter : e.letter ≡ (steps.visit_of s.used e).letter = sym (visit_letter e) in
      gap_rises missing (e.letter - next) next (length letters) (steps.visit_of s.used e ∷ visits (suc e.letter) es) (omega (
        arith,
        more,
        inside.0.0,
      )) (
        omega (arith, more, letter),
        omega (arith, inside.0.0, letter),
        subst (λ l. RisingVisits (suc l) (length letters) (visits (suc e.letter) es)) letter rest,
      )

  all_visits : (P : Visit → Type 0) → ((i : ℕ) → Told i None → P (steps.missing_visit missing i)) →
      ((e : Entry) → Told e.letter (Some e) → IfSome e.to (λ d. d < length names) → P (steps.visit_of s.used e))
      → (next : ℕ) (es : List Entry) → steps.Rising next es → AreIn es → Tell next es → AllByRecursion P (visits next es)
  unfolding steps.visits_from
  all_visits P missed entry next [] rises inside tell =
      in_gap missing (AllByRecursion P) next (length letters - next) (λ _. tt) (λ _. all_in_gap missing P (length letters - next) next
      (λ i low high. missed i (tell i low (omega (arith, low, high)))))
  all_visits P missed entry next (e ∷ es) rises inside tell =
      all_joined P (steps.gap missing next (e.letter - next)) (steps.visit_of s.used e ∷ visits (suc e.letter) es)
      (in_gap missing (AllByRecursion P) next (e.letter - next) (λ _. tt)
      (λ _. all_in_gap missing P (e.letter - next) next
      (λ i low high. missed i (told_before e es next i tell rises low (omega (arith, low, high)) (omega (
        arith,
        low,
        high,
        inside.0.0,
      )))))) (
        entry e (told_here e es next tell rises.0 inside.0.0) inside.0.1,
        all_visits P missed entry (suc e.letter) es rises.1 inside.1 (tell_later e es next tell rises.0),
      )

  -- a letter that no gap has
  empty_gap : (next n i : ℕ) → next ≤ i → i < next + n → is_visited (steps.gap missing next n) i ≡ false → missing ≡ 0
  empty_gap next n i low high =
      in_gap missing (λ gap. is_visited gap i ≡ false → missing ≡ 0) next n (λ none _. none) (λ _ gone. absurd (let both : true ≡ false =
      sym (met_in_gap missing n next i low high) ∙ gone in cc))

  unvisited : (next : ℕ) (es : List Entry) → steps.Rising next es → AreIn es → Tell next es → (i : ℕ) → next ≤ i → i < length letters →
      is_visited (visits next es) i ≡ false → IsMissing w letters names s i
  unfolding steps.visits_from
  unvisited next [] rises inside tell i low high gone =
      not_there i (empty_gap next (length letters - next) i low (omega (arith, low, high)) gone) (tell i low high)
  unvisited next (e ∷ es) rises inside tell i low high gone =
      let parts = or_parts (is_visited (steps.gap missing next (e.letter - next)) i)
      (is_visited (steps.visit_of s.used e ∷ visits (suc e.letter) es) i)
      (sym (visited-append (steps.gap missing next (e.letter - next)) (steps.visit_of s.used e ∷ visits (suc e.letter) es) i) ∙ gone) in
      let letter : (steps.visit_of s.used e).letter ≡ e.letter = visit_letter e in
      elim (cases_lt i e.letter) [
        | inl before ↦ not_there i (empty_gap next (e.letter - next) i low (omega (arith, low, before, rises.0)) parts.0)
            (told_before e es next i tell rises low before high)
        | inr after ↦ elim (cases_eq e.letter i) [
          | inl same ↦ absurd (let both : true ≡ false =
              sym (ap (λ b. cond b true (is_visited (visits (suc e.letter) es) i)) (eq-eqb (steps.visit_of s.used e).letter i (letter ∙
              same))) ∙ parts.1 in cc)
          | inr away ↦
              unvisited (suc e.letter) es rises.1 inside.1 (tell_later e es next tell rises.0) i (omega (arith, after, away)) high
              (sym (ap (λ b. cond b true (is_visited (visits (suc e.letter) es) i))
              (ne_eqb (steps.visit_of s.used e).letter i (λ same. away (sym letter ∙ same)))) ∙ parts.1)
        ]
      ]

module _ (w : Judge) (letters : List (List ℕ)) (names : List ℕ) (t : Steps) (is : IsTableOf w letters names t) where
  inside_all : (es : List Entry) → AllByRecursion (λ e. steps.IsEntry t e) es →
      AllByRecursion (λ e. (e.letter < length letters) × IfSome e.to (λ d. d < length names)) es
  inside_all [] all = tt
  inside_all (e ∷ es) all = (
    (subst (λ n. e.letter < n) is.many all.0.letter, subst (λ n. IfSome e.to (λ d. d < n)) is.dirs all.0.to),
    inside_all es all.1,
  )

  -- each state of the table has the visits of the judge
  pub table_stands : (s : State) → IsKnown names s → HasJudgedVisits w letters names (steps.graph_of t 0) (IsKnown names) s
  unfolding steps.graph_of
  table_stands s known =
      let m : ℕ = steps.missing_at t s.dir in
      let es : List Entry = steps.entries_at t s.dir in
      let row = is.table s.dir (subst (λ n. s.dir < n) (sym is.dirs) known.dir) in
      let inside = inside_all es row.entries in
      let tell = λ (i : ℕ) (low : 0 ≤ i) (high : i < length letters). is.rows s.dir known.dir i high in
      let same : length letters ≡ t.letters = sym is.many in
      record {
        rises = subst (λ n. RisingVisits 0 (length letters) (steps.visits_from n m s.used 0 es)) same
            (visits_rise w letters names m s known 0 es (omega arith) row.rises inside);
        right = subst (λ n. AllByRecursion (λ v. IsRight w letters names s v) (steps.visits_from n m s.used 0 es)) same
            (all_visits w letters names m s known (λ v. IsRight w letters names s v) (missed_right w letters names m s known)
            (λ e told _. entry_right w letters names m s known e told) 0 es row.rises inside tell);
        missing = λ i high gone. unvisited w letters names m s known 0 es row.rises inside tell i (omega arith) high
            (ap (λ n. is_visited (steps.visits_from n m s.used 0 es) i) same ∙ gone);
        closed = subst (λ n. AllByRecursion (λ v. IfSome v.behind (IsKnown names)) (steps.visits_from n m s.used 0 es)) same
            (all_visits w letters names m s known (λ v. IfSome v.behind (IsKnown names)) (λ i _. tt)
            (λ e _ to. entry_closed w letters names m s known e to) 0 es row.rises inside tell);
      }
