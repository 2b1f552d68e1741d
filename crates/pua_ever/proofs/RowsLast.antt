-- Rows of the list that holds longest: whether one has exec, and what is let through.
use Rattle.pua_ever.proofs.Common.{◌≡◌, ℕ, zero, suc, Bool, true, false, if◌then◌else◌, ◌||◌, ◌&&◌, ◌<◌, ◌≤◌, List, [], ◌∷◌, ◌++◌, length, cond, refl, sym, ap, subst, ◌∙◌}
use Rattle.pua_ever.proofs.Common.{arith, inl, inr, false≢true, filter, list_any, Tree, calls, has, Call, Word, EverLine, has_ever_calls}
use Rattle.std.proofs.Common.{◌+◌, drop, drop_of_length-le, slice_index_or, take}
use Rattle.std.proofs.lemmas.Bool.{lt-ltb}
use Rattle.std.proofs.lemmas.List.{drop_more, map-append, take_more}
use Rattle.std.proofs.lemmas.Map.Views.{any-filter_same}
use Rattle.pua_calls.specs.CallSets.{calls_in}
use Rattle.pua_calls.proofs.ForCallers.{has_none}
use Rattle.pua_calls.specs.declared.call.Call.TheVariants as call
use Rattle.pua_ever.specs.Ever.{Thing, is_exec_call}
use Rattle.pua_ever.specs.EverLines.{IsThing, line_with}
use Rattle.std.specs.List.{AllByRecursion}
use Rattle.pua_policy.specs.States.{Locked, ProcessState, root_dir, state_after, with_both}
use Rattle.std.specs.Prelude.{IfSome, Option, Some, None}
use Rattle.pua_policy.specs.declared.answer.Cover.{Cover}
use Rattle.pua_policy.specs.declared.object.Object.{Object}
use Rattle.pua_objects.specs.Items.{cover_on}
use Rattle.pua_objects.specs.Objects.{At, Others, Subject}
use Rattle.pua_ever.specs.EverList.{AreEverTold, IsAboutOn, IsMarked, IsRowOn, IsStandingOn, about_of, abouts, last_row_word, own_name, subject_at}
use Rattle.pua_ever.specs.EverList.{thing_by, word_of_row}
use Rattle.pua_ever.specs.ShownForEver.{is_inside, only_inside}
use Rattle.pua_ever.specs.Through.{has_exec, let_through, only_through}
use Rattle.pua_ever.specs.declared.line.EverLine as given
use Rattle.pua_ever.specs.declared.list.EverAbout.{EverAbout}
use Rattle.pua_ever.specs.declared.list.EverAbout.TheVariants as ever_about
use Rattle.pua_ever.specs.declared.list.EverRow.{EverRow}
use Rattle.pua_ever.proofs.ExecCalls.{exec_or_other}
use Rattle.pua_ever.proofs.RowsTell.{last_row_more, told_more}

-- ---- exec

is_exec_of : (set : ℕ) (c : Call) → is_exec_call c ≡ true → has set c ≡ has set call.Exec
is_exec_of set c starts = elim (exec_or_other c) [
  | inl is ↦ ap (has set) is
  | inr other ↦ absurd (false≢true (sym other.1 ∙ starts))
]

and_true : (b : Bool) → (b && true) ≡ b
and_true true = refl
and_true false = refl

or_false : (b : Bool) → (b || false) ≡ b
or_false true = refl
or_false false = refl

exec_in : (set : ℕ) → list_any is_exec_call (calls_in set) ≡ has set call.Exec
exec_in set = any-filter_same is_exec_call (has set) (has set call.Exec) (is_exec_of set) calls ∙ and_true (has set call.Exec)

-- a line that has no calls is left out, and has no exec
exec_first : (word : Word) (about : Thing) (cs : List Call) (more : List EverLine) →
    has_exec (filter has_ever_calls (record { word = word; thing = about; calls = cs } ∷ []) ++ more) ≡ (list_any is_exec_call cs || has_exec more)
exec_first word about [] more = refl
exec_first word about (c ∷ cs) more =
    ap (λ b. has_exec (cond b (record { word = word; thing = about; calls = c ∷ cs } ∷ []) [] ++ more)) (lt-ltb 0 (length (c ∷ cs)) (omega arith))

abbrev pub starts : EverRow → Bool
starts row = has row.line.calls call.Exec

module _ (t : Tree) where
  -- a row has exec where a line has
  pub exec_told : (before : Word) (rows : List EverRow) (lines : List EverLine) → AreEverTold t before rows lines [] →
      list_any starts rows ≡ has_exec lines
  exec_told before [] lines told = ap has_exec (sym told)
  exec_told before (row ∷ rows) lines told =
      let word = word_of_row before row in
      (λ i. sym (exec_in row.line.calls) i || exec_told word rows told.1 told.4 i)
      ∙ sym (exec_first word told.0 (calls_in row.line.calls) told.1)
      ∙ ap has_exec (sym told.3)

  -- ---- what is let through

  module _ (passes : ℕ) where
    through_first : (word : Word) (about : Thing) (cs : List Call) (more : List EverLine) →
        let line : EverLine = record { word = word; thing = about; calls = cs } in
        only_through (has passes) (filter has_ever_calls (line ∷ []) ++ more)
        ≡ filter has_ever_calls (let_through (has passes) line ∷ []) ++ only_through (has passes) more
    through_first word about [] more = refl
    through_first word about (c ∷ cs) more =
        let line : EverLine = record { word = word; thing = about; calls = c ∷ cs } in
        ap (λ b. only_through (has passes) (cond b (line ∷ []) [] ++ more)) (lt-ltb 0 (length (c ∷ cs)) (omega arith))
        ∙ by (has_ever_calls (let_through (has passes) line)) (let_through (has passes) line)
      where
        by : (b : Bool) (line : EverLine) → cond b (line ∷ only_through (has passes) more) (only_through (has passes) more)
            ≡ cond b (line ∷ []) [] ++ only_through (has passes) more
        by true line = refl
        by false line = refl

    -- the rows so far tell what is let through of the lines before the rest
    pub record Through (lines : List EverLine) (left new : List EverRow) : Type 0 where
      pub rest : List EverLine
      pub coming : AreEverTold t (last_row_word [] new) left rest []
      pub told : AreEverTold t [] new (only_through (has passes) lines) (only_through (has passes) rest)

    abbrev IsLet : given.EverLine → given.EverLine → Type 0
    IsLet line through = (u : Tree) (word : Word) (about : Thing) → IsThing u about line.thing →
        line_with word about through ≡ let_through (has passes) (line_with word about line)

    next : (lines : List EverLine) (row : EverRow) (left new : List EverRow) (line : given.EverLine) → line.thing ≡ row.line.thing →
        IsLet row.line line → Through lines (row ∷ left) new →
        Through lines left (new ++ record { depth = row.depth; name = row.name; about = row.about; line = line; inside = row.inside } ∷ [])
    next lines row left new line same is so_far =
        let through : EverRow = record { depth = row.depth; name = row.name; about = row.about; line = line; inside = row.inside } in
        let word = word_of_row (last_row_word [] new) row in
        let about = so_far.coming.0 in
        let more = so_far.coming.1 in
        record {
          rest = more;
          coming = subst (λ w. AreEverTold t w left more []) (sym (last_row_more [] new through)) so_far.coming.4;
          told = told_more t [] new through about (only_through (has passes) lines) (only_through (has passes) more)
              (subst (IsThing t about) (sym same) so_far.coming.2) so_far.coming.5
              (subst (AreEverTold t [] new (only_through (has passes) lines))
              (ap (only_through (has passes)) so_far.coming.3
              ∙ through_first word about (calls_in row.line.calls) more
              ∙ ap (λ l. filter has_ever_calls (l ∷ []) ++ only_through (has passes) more) (sym (is t word about so_far.coming.2)))
              so_far.told);
        }

    pub through_more : (rows : List EverRow) (row : EverRow) (i : ℕ) → i < length rows → row ≡ slice_index_or rows i row →
        (line : given.EverLine) → line.thing ≡ row.line.thing → IsLet row.line line → (lines : List EverLine) (new : List EverRow) →
        Through lines (drop i rows) new → Through lines (drop (i + 1) rows) (new ++ record {
          depth = row.depth;
          name = row.name;
          about = row.about;
          line = line;
          inside = row.inside;
        } ∷ [])
    through_more rows row i within here line same is lines new so_far =
        next lines row (drop (i + 1) rows) new line same is (subst (λ left. Through lines left new)
        (drop_more rows i row within ∙ ap (λ r. r ∷ drop (i + 1) rows) (sym here)) so_far)

    pub all_through : (rows : List EverRow) (i : ℕ) → length rows ≤ i → (lines : List EverLine) (new : List EverRow) →
        Through lines (drop i rows) new → AreEverTold t [] new (only_through (has passes) lines) []
    all_through rows i past lines new so_far =
        subst (λ rest. AreEverTold t [] new (only_through (has passes) lines) (only_through (has passes) rest))
        (subst (λ left. AreEverTold t (last_row_word [] new) left so_far.rest []) (drop_of_length-le rows past) so_far.coming) so_far.told

-- ---- what is at or below a root

-- no call is in the empty set
none_in : calls_in 0 ≡ []
none_in = λ i. filter (λ call. has_none call i) calls

-- a set of calls, or none
abbrev pub calls_if : Bool → ℕ → ℕ
calls_if b set = if b then set else 0

module _ (t : Tree) (root : ℕ) where
  -- a row of what is not there has no calls
  abbrev pub kept_inside : EverRow → EverRow
  kept_inside row = record row { line = record { thing = row.line.thing; calls = calls_if row.inside row.line.calls } }

  inside_first : (word : Word) (about : Thing) (set : ℕ) (b : Bool) (more : List EverLine) → b ≡ is_inside t root about →
      only_inside t root (filter has_ever_calls (record { word = word; thing = about; calls = calls_in set } ∷ []) ++ more)
      ≡ filter has_ever_calls (record { word = word; thing = about; calls = calls_in (calls_if b set) } ∷ []) ++ only_inside t root more
  inside_first word about set b more is = by (calls_in set) b is
      ∙ ap (λ cs. filter has_ever_calls (record { word = word; thing = about; calls = cs } ∷ []) ++ only_inside t root more) (sym (calls_by b))
    where
      calls_by : (b : Bool) → calls_in (calls_if b set) ≡ (if b then calls_in set else [])
      calls_by true = refl
      calls_by false = none_in

      cut : (cs : List Call) (seen : Bool) → is_inside t root about ≡ seen → (b : Bool) →
          only_inside t root (cond b (record { word = word; thing = about; calls = cs } ∷ []) [] ++ more)
          ≡ cond (b && seen) (record { word = word; thing = about; calls = cs } ∷ []) [] ++ only_inside t root more
      cut cs seen is false = refl
      cut cs true is true = ap (λ b. cond b (record { word = word; thing = about; calls = cs } ∷ only_inside t root more) (only_inside t root more)) is
      cut cs false is true = ap (λ b. cond b (record { word = word; thing = about; calls = cs } ∷ only_inside t root more) (only_inside t root more)) is

      by : (cs : List Call) (b : Bool) → b ≡ is_inside t root about →
          only_inside t root (filter has_ever_calls (record { word = word; thing = about; calls = cs } ∷ []) ++ more)
          ≡ filter has_ever_calls (record { word = word; thing = about; calls = if b then cs else [] } ∷ []) ++ only_inside t root more
      by [] true is = refl
      by [] false is = refl
      by (c ∷ cs) true is =
          let has : has_ever_calls (record { word = word; thing = about; calls = c ∷ cs }) ≡ true = lt-ltb 0 (length (c ∷ cs)) (omega arith) in
          ap (λ b. only_inside t root (cond b (record { word = word; thing = about; calls = c ∷ cs } ∷ []) [] ++ more)) has
          ∙ cut (c ∷ cs) true (sym is) true
          ∙ ap (λ b. cond b (record { word = word; thing = about; calls = c ∷ cs } ∷ []) [] ++ only_inside t root more) (sym has)
      by (c ∷ cs) false is =
          let has : has_ever_calls (record { word = word; thing = about; calls = c ∷ cs }) ≡ true = lt-ltb 0 (length (c ∷ cs)) (omega arith) in
          ap (λ b. only_inside t root (cond b (record { word = word; thing = about; calls = c ∷ cs } ∷ []) [] ++ more)) has
          ∙ cut (c ∷ cs) false (sym is) true

  -- the rows so far tell what is at or below the root of the lines before the rest
  pub record Inside (lines : List EverLine) (left new : List EverRow) : Type 0 where
    pub rest : List EverLine
    pub coming : AreEverTold t (last_row_word [] new) left rest []
    pub told : AreEverTold t [] new (only_inside t root lines) (only_inside t root rest)

  next_inside : (lines : List EverLine) (row : EverRow) (left new : List EverRow) → IsMarked t root row → Inside lines (row ∷ left) new →
      Inside lines left (new ++ kept_inside row ∷ [])
  next_inside lines row left new marked so_far =
      let word = word_of_row (last_row_word [] new) row in
      let about = so_far.coming.0 in
      let more = so_far.coming.1 in
      record {
        rest = more;
        coming = subst (λ w. AreEverTold t w left more []) (sym (last_row_more [] new (kept_inside row))) so_far.coming.4;
        told = told_more t [] new (kept_inside row) about (only_inside t root lines) (only_inside t root more) so_far.coming.2 so_far.coming.5
            (subst (AreEverTold t [] new (only_inside t root lines))
            (ap (only_inside t root) so_far.coming.3
            ∙ inside_first word about row.line.calls row.inside more (marked about so_far.coming.5))
            so_far.told);
      }

  pub inside_more : (rows : List EverRow) (row : EverRow) (i : ℕ) → i < length rows → row ≡ slice_index_or rows i row →
      AllByRecursion (IsMarked t root) rows → (lines : List EverLine) (new : List EverRow) → Inside lines (drop i rows) new →
      Inside lines (drop (i + 1) rows) (new ++ kept_inside row ∷ [])
  inside_more rows row i within here all lines new so_far =
      next_inside lines row (drop (i + 1) rows) new
      (subst (IsMarked t root) (sym here) (marked_at rows i within all))
      (subst (λ left. Inside lines left new) (drop_more rows i row within ∙ ap (λ r. r ∷ drop (i + 1) rows) (sym here)) so_far)
    where
      marked_at : (rows : List EverRow) (i : ℕ) → i < length rows → AllByRecursion (IsMarked t root) rows →
          IsMarked t root (slice_index_or rows i row)
      marked_at [] i within all = absurd (omega (arith, within))
      marked_at (first ∷ rows) zero within all = all.0
      marked_at (first ∷ rows) (suc i) within all = marked_at rows i (omega (arith, within)) all.1

  pub all_inside : (rows : List EverRow) (i : ℕ) → length rows ≤ i → (lines : List EverLine) (new : List EverRow) →
      Inside lines (drop i rows) new → AreEverTold t [] new (only_inside t root lines) []
  all_inside rows i past lines new so_far =
      subst (λ rest. AreEverTold t [] new (only_inside t root lines) (only_inside t root rest))
      (subst (λ left. AreEverTold t (last_row_word [] new) left so_far.rest []) (drop_of_length-le rows past) so_far.coming) so_far.told

pub all_marked : (t : Tree) (h : ProcessState) (rows : List EverRow) → AllByRecursion (IsRowOn t h) rows →
    AllByRecursion (IsMarked t (root_dir h)) rows
all_marked t h [] all = tt
all_marked t h (row ∷ rows) all = (all.0.1, all_marked t h rows all.1)

-- ---- what rows are about

module _ (P : Option (List ℕ) × EverAbout × Bool → Type 0) where
  all_abouts : (rows : List EverRow) → AllByRecursion (λ row. P (about_of row)) rows → AllByRecursion P (abouts rows)
  all_abouts [] all = tt
  all_abouts (row ∷ rows) all = (all.0, all_abouts rows all.1)

  all_rows : (rows : List EverRow) → AllByRecursion P (abouts rows) → AllByRecursion (λ row. P (about_of row)) rows
  all_rows [] all = tt
  all_rows (row ∷ rows) all = (all.0, all_rows rows all.1)

  pub same_abouts : (rows new : List EverRow) → abouts new ≡ abouts rows → AllByRecursion (λ row. P (about_of row)) rows →
      AllByRecursion (λ row. P (about_of row)) new
  same_abouts rows new same all = all_rows new (subst (AllByRecursion P) (sym same) (all_abouts rows all))

-- so what is so of rows is so of others that are about the same
pub same_rows : (t : Tree) (h : ProcessState) (rows new : List EverRow) → abouts new ≡ abouts rows → AllByRecursion (IsRowOn t h) rows →
    AllByRecursion (IsRowOn t h) new
same_rows t h = same_abouts (λ a. IsAboutOn t h a.0 a.1 × ((about : Thing) → thing_by t a.0 a.1 ≡ Some about → a.2 ≡ is_inside t (root_dir h) about))

pub abouts_more : (rows : List EverRow) (row : EverRow) (i : ℕ) → i < length rows → row ≡ slice_index_or rows i row → (new : List EverRow)
    (more : EverRow) → about_of more ≡ about_of row → abouts new ≡ abouts (take i rows) → abouts (new ++ more ∷ []) ≡ abouts (take (i + 1) rows)
abouts_more rows row i within here new more alike same =
    map-append about_of new (more ∷ [])
    ∙ (λ j. same j ++ alike j ∷ [])
    ∙ sym (map-append about_of (take i rows) (row ∷ []))
    ∙ sym (ap abouts (take_more rows i row within ∙ ap (λ r. take i rows ++ r ∷ []) (sym here)))

-- rows are on the same where what covers items is
module _ (t : Tree) (h k : ProcessState) (same : (subject : Subject) → cover_on t h subject ≡ cover_on t k subject)
    (rooted : root_dir h ≡ root_dir k) where
  standing_on : (object : Object) (cover : Cover) (o : Option Subject) → IfSome o (IsStandingOn t h object cover) →
      IfSome o (IsStandingOn t k object cover)
  standing_on object cover None is = tt
  standing_on object cover (Some subject) is = record { fits = is.fits; object = is.object; cover = is.cover ∙ same subject }

  on_alike : (name : Option (List ℕ)) (a : EverAbout) → IsAboutOn t h name a → IsAboutOn t k name a
  on_alike name (ever_about.Stands at object cover) is = standing_on object cover (subject_at t name at) is
  on_alike name (ever_about.Freed dir) is = is
  on_alike name (ever_about.Comes made) is = tt

  pub rows_alike : (rows : List EverRow) → AllByRecursion (IsRowOn t h) rows → AllByRecursion (IsRowOn t k) rows
  rows_alike [] all = tt
  rows_alike (row ∷ rows) all = (
    (on_alike (own_name row) row.about all.0.0, subst (λ root. IsMarked t root row) rooted all.0.1),
    rows_alike rows all.1,
  )

-- who holds both sets has the veils of the process, so what covers an item is the same
module _ (t : Tree) (h : ProcessState) (given : ℕ) where
  abbrev pub both : ProcessState
  both = state_after Locked (with_both h given)

  cover_same : (subject : Subject) → cover_on t both subject ≡ cover_on t h subject
  cover_same (At found) = refl
  cover_same (Others dir) = refl

  pub rows_on_both : (rows : List EverRow) → AllByRecursion (IsRowOn t both) rows → AllByRecursion (IsRowOn t h) rows
  rows_on_both = rows_alike t both h cover_same refl

  pub rows_by_both : (rows : List EverRow) → AllByRecursion (IsRowOn t h) rows → AllByRecursion (IsRowOn t both) rows
  rows_by_both = rows_alike t h both (λ subject. sym (cover_same subject)) refl
