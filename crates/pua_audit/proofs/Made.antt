-- The rows of all directories are a table.
use Rattle.pua_audit.proofs.Common.{nat_eq, ℕ, ◌<◌, ◌≤◌, ◌≡◌, List, [], ◌∷◌, ◌++◌, ap, arith, sym, ◌∙◌, map, length, get_or, subst, inl}
use Rattle.pua_audit.proofs.Common.{inr, IfSome, AllByRecursion, cases_eq, cases_lt, eq-eqb, false≢true, map-append, length-append}
use Rattle.pua_audit.proofs.Common.{length-map, Judge, AreApart, IsDistinct, IsGrown, IsEntryFor, IsJudgedRow, IsTableOf, Entry, Steps}
use Rattle.std.proofs.lemmas.Map.Keys.{apart_from_distinct}
use Rattle.std.proofs.Math.ListN.{get_or-append}
use Rattle.std.proofs.Math.Seq.{get_or-append_seam}
use Rattle.pua_audit.proofs.Rowed.{row_grown}
use Rattle.pua_steps.specs.Table as steps
use Rattle.pua_steps.specs.declared.steps.Row.{Row}

-- the rows of the first directories
abbrev pub AreRows : Judge → List (List ℕ) → List ℕ → List Row → Type 0
AreRows w letters dirs rows =
    (d : ℕ) → d < length rows → IsJudgedRow w letters dirs (get_or dirs d 0) (length letters) (get_or (map steps.missing_in rows) d 0)
    (get_or (map steps.entries_in rows) d [])

-- one more row
module _ (w : Judge) (letters : List (List ℕ)) (old new : List ℕ) (rows : List Row) (row : Row) (grown : IsGrown old new)
    (within : length rows ≤ length old) where
  abbrev all_rows : List Row
  all_rows = rows ++ row ∷ []

  missing_before : (d : ℕ) → d < length rows → get_or (map steps.missing_in all_rows) d 0 ≡ get_or (map steps.missing_in rows) d 0
  missing_before d low = ap (λ ms. get_or ms d 0) (map-append steps.missing_in rows (row ∷ [])) ∙
      get_or-append (map steps.missing_in rows) (row.missing ∷ []) 0 d (omega (arith, low, length-map rows steps.missing_in))

  entries_before : (d : ℕ) → d < length rows → get_or (map steps.entries_in all_rows) d [] ≡ get_or (map steps.entries_in rows) d []
  entries_before d low = ap (λ es. get_or es d []) (map-append steps.entries_in rows (row ∷ [])) ∙
      get_or-append (map steps.entries_in rows) (row.entries.items ∷ []) [] d (omega (arith, low, length-map rows steps.entries_in))

  missing_last : get_or (map steps.missing_in all_rows) (length rows) 0 ≡ row.missing
  missing_last = ap (λ n. get_or (map steps.missing_in all_rows) n 0) (sym (length-map rows steps.missing_in)) ∙
      ap (λ ms. get_or ms (length (map steps.missing_in rows)) 0) (map-append steps.missing_in rows (row ∷ [])) ∙
      get_or-append_seam (map steps.missing_in rows) row.missing [] 0

  entries_last : get_or (map steps.entries_in all_rows) (length rows) [] ≡ row.entries.items
  entries_last = ap (λ n. get_or (map steps.entries_in all_rows) n []) (sym (length-map rows steps.entries_in)) ∙
      ap (λ es. get_or es (length (map steps.entries_in rows)) []) (map-append steps.entries_in rows (row ∷ [])) ∙
      get_or-append_seam (map steps.entries_in rows) row.entries.items [] []

  abbrev Row_at : ℕ → ℕ → List Entry → Type 0
  Row_at dir missing entries = IsJudgedRow w letters new dir (length letters) missing entries

  pub rows_pushed : AreRows w letters old rows →
      IsJudgedRow w letters new (get_or old (length rows) 0) (length letters) row.missing row.entries.items → length rows < length old →
      AreRows w letters new all_rows
  rows_pushed all last inside = λ d low. elim (cases_eq d (length rows)) [
    | inl e ↦ subst (λ n. Row_at (get_or new n 0) (get_or (map steps.missing_in all_rows) n 0)
        (get_or (map steps.entries_in all_rows) n [])) (sym e)
        (subst (λ n. Row_at n (get_or (map steps.missing_in all_rows) (length rows) 0) (get_or (map steps.entries_in all_rows) (length rows)
        [])) (sym (grown.same (length rows) inside))
        (subst (λ m. Row_at (get_or old (length rows) 0) m (get_or (map steps.entries_in all_rows) (length rows) [])) (sym missing_last)
        (subst (λ es. Row_at (get_or old (length rows) 0) row.missing es) (sym entries_last) last)))
    | inr away ↦
        let before : d < length rows = omega (arith, low, away, length-append rows (row ∷ [])) in
        let m : ℕ = get_or (map steps.missing_in rows) d 0 in
        let es : List Entry = get_or (map steps.entries_in rows) d [] in
        let is : Row_at (get_or old d 0) m es = row_grown w letters (get_or old d 0) m old new (length letters) es grown (all d before) in
        subst (λ n. Row_at n (get_or (map steps.missing_in all_rows) d 0) (get_or (map steps.entries_in all_rows) d []))
        (sym (grown.same d (omega (arith, before, within))))
        (subst (λ n. Row_at (get_or old d 0) n (get_or (map steps.entries_in all_rows) d [])) (sym (missing_before d before))
        (subst (λ xs. Row_at (get_or old d 0) m xs) (sym (entries_before d before)) is))
  ]

-- numbers of which none is there twice are apart
pub distinct_apart : (ns : List ℕ) → IsDistinct nat_eq ns → AreApart ns
distinct_apart ns is i j low_i low_j same = elim (cases_lt i j) [
  | inl h ↦ absurd (false≢true (sym (apart_from_distinct nat_eq ns i j 0 is h low_j) ∙ eq-eqb (get_or ns i 0) (get_or ns j 0) same))
  | inr h ↦ elim (cases_eq i j) [
    | inl e ↦ e
    | inr away ↦ absurd (false≢true (sym (apart_from_distinct nat_eq ns j i 0 is (omega (arith, h, away)) low_i) ∙
        eq-eqb (get_or ns j 0) (get_or ns i 0) (sym same)))
  ]
]

-- a row for each directory
module _ (w : Judge) (letters : List (List ℕ)) (dirs : List ℕ) (t : Steps) (many : t.letters ≡ length letters)
    (few : length letters < 18446744073709551616) (whole : length t.rows.items ≡ length dirs) where
  entries_fit : (es : List Entry) → AllByRecursion (λ e. IsEntryFor (length letters) (length dirs) e) es →
      AllByRecursion (λ e. steps.IsEntry t e) es
  entries_fit [] all = tt
  entries_fit (e ∷ es) all = (
    record {
      letter = omega (arith, all.0.letter, many);
      fits = omega (arith, all.0.letter, few);
      kept = all.0.kept;
      all = all.0.all;
      more = all.0.more;
      links = all.0.links;
      to = subst (λ n. IfSome e.to (λ d. d < n)) (sym whole) all.0.to;
    },
    entries_fit es all.1,
  )

  pub table_made : AreRows w letters dirs t.rows.items → IsTableOf w letters dirs t
  table_made all = record {
    many = many;
    dirs = whole;
    table = λ d low. record {
      entries = entries_fit (steps.entries_at t d) (all d low).listed;
      rises = (all d low).rises;
      missing = (all d low).others;
    };
    rows = λ d low. (all d (omega (arith, low, whole))).told;
  }
