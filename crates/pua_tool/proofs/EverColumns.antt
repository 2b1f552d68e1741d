-- The columns of what lets calls through, row by row.
use Rattle.pua_tool.proofs.Common.{◌≡◌, ℕ, List, [], ◌∷◌, ◌++◌, ◌∙◌, map, refl, sym, ap, subst, arith, ProcessState, with_end}
use Rattle.std.proofs.Common.{◌+◌, ◌<◌, ◌≤◌, Bool, true, false, cond, length, take, drop, get_or, zero, suc, bit_or, Bor}
use Rattle.std.proofs.lemmas.Bool.{false≢true, true≢false}
use Rattle.std.proofs.Common.{append-nil, append_assoc}
use Rattle.std.proofs.lemmas.List.{drop_more, get_or-map, length-append, length-map, map-append, take_more}
use Rattle.std.proofs.Math.ListN.{drop_of_length-le}
use Rattle.std.proofs.lemmas.List.Elements.{filter-append}
use Rattle.std.proofs.lemmas.Grind.{flat_map-append}
use Rattle.std.specs.Int.Bits.{or_zero_r}
use Rattle.std.specs.List.{AllByRecursion, AllZip, list_any}
use Rattle.std.specs.Prelude.{◌&&◌, ◌||◌, codes, filter, flat_map, not, Option, Some, None}
use Rattle.pua_tree.specs.Tree.{Tree}
use Rattle.pua_calls.specs.Calls.{CallTable, calls as all_calls, rule_of}
use Rattle.pua_calls.specs.CallSets.{calls_in, has}
use Rattle.pua_calls.specs.Promises.{holds}
use Rattle.pua_calls.specs.TmpTable.{tmp_table}
use Rattle.pua_calls.specs.declared.call.Call.{Call}
use Rattle.pua_calls.specs.declared.call.Call.TheVariants.{Stat}
use Rattle.pua_calls.proofs.ForCallers.{or_assoc}
use Rattle.pua_policy.specs.declared.place.Place.{Place}
use Rattle.pua_audit.specs.Reach.{Word}
use Rattle.pua_why.specs.Since.{since}
use Rattle.pua_why.specs.Texts.{has_veil_on}
use Rattle.pua_ever.specs.Comings.{AreComings, places_on, places_under}
use Rattle.pua_ever.specs.Ever.{EverLine, Thing, has_ever_calls}
use Rattle.pua_ever.specs.EverLines.{line_with}
use Rattle.pua_ever.specs.EverList.{AreEverTold, IsRowOn, thing_of, word_of_row}
use Rattle.pua_ever.specs.Through.{bound_of}
use Rattle.pua_ever.specs.declared.comings.ComesUnder.{ComesUnder}
use Rattle.pua_ever.specs.declared.comings.Comings.{Comings}
use Rattle.pua_ever.specs.declared.lasting_list.ExecBound.{ExecBound}
use Rattle.pua_ever.specs.declared.lasting_list.ExecBound.TheVariants.{Bounded, Never, Open}
use Rattle.pua_ever.specs.declared.list.EverRow.{EverRow}
use Rattle.pua_ever.proofs.ForCallers.{rows_by_both}
use Rattle.pua_texts.specs.EverHowLines.{AreToldWith}
use Rattle.pua_texts.specs.VeilDates.{veil_dates}
use Rattle.pua_texts.specs.WhyLines.{ServedScript, world_left}
use Rattle.pua_tool.specs.EverColumns.{AreTexts}
use Rattle.pua_tool.specs.EverWhyTexts.{column_by, holder_by, is_told, kept_text, let_by_one, lets_some, or_dashes, rests_on, told_of, with_given}

-- ---- small facts

and_true : (b : Bool) → (b && true) ≡ b
and_true true = refl
and_true false = refl

and_false : (b : Bool) → (b && false) ≡ false
and_false true = refl
and_false false = refl

module _ (p : ServedScript) (process : ℕ) (h holder : ProcessState) (execs : ExecBound) where
  abbrev behind : EverLine → EverLine × List ℕ
  behind line = (line, with_end (column_by p process h holder execs line))

  -- a line with its column, if it has calls
  one : (b : Bool) (line : EverLine) (text : List ℕ) → text ≡ with_end (column_by p process h holder execs line) →
      map behind (cond b (line ∷ []) []) ≡ cond b ((line, text) ∷ []) []
  one true line text is = ap (λ t. (line, t) ∷ []) (sym is)
  one false line text is = refl

  -- rows with their columns tell the lines of the list with theirs
  pub told_columns : (before : Word) (rows : List EverRow) (texts : List (List ℕ)) (lines : List EverLine)
      → AreEverTold (world_left p).tree before rows lines [] → AreTexts p process h holder execs rows texts →
      AreToldWith (world_left p).tree before rows texts (map behind lines)
  told_columns before [] [] lines are all = ap (map behind) are
  told_columns before [] (text ∷ texts) lines are all = absurd all
  told_columns before (row ∷ rows) [] lines are all = absurd all
  told_columns before (row ∷ rows) (text ∷ texts) lines are all =
      let word = word_of_row before row in
      let about = are.0 in
      let more = are.1 in
      let line = line_with word about row.line in (
        about,
        map behind more,
        are.2,
        ap (map behind) are.3 ∙ map-append behind (filter has_ever_calls (line ∷ [])) more ∙
            ap (λ ls. ls ++ map behind more) (one (has_ever_calls line) line text (all.0 about are.5)),
        told_columns word rows texts more are.4 all.1,
      )

-- rows of a process are of who holds what its list rests on
pub rows_held : (t : Tree) (table : CallTable) (h : ProcessState) (execs : ExecBound) (rows : List EverRow) →
    AllByRecursion (IsRowOn t h) rows → AllByRecursion (IsRowOn t (holder_by table h execs)) rows
rows_held t table h Bounded rows on = by (bound_of table h)
  where
    by : (o : Option ℕ) → AllByRecursion (IsRowOn t (with_given h o)) rows
    by None = on
    by (Some given) = rows_by_both t h given rows on
rows_held t table h Never rows on = on
rows_held t table h Open rows on = on

-- ---- two lists, place by place

pub zip_push : {A B : Type 0} (R : A → B → Type 0) (xs : List A) (ys : List B) (x : A) (y : B) → AllZip R xs ys → R x y →
    AllZip R (xs ++ x ∷ []) (ys ++ y ∷ [])
zip_push R [] [] x y all own = (own, tt)
zip_push R [] (b ∷ ys) x y all own = absurd all
zip_push R (a ∷ xs) [] x y all own = absurd all
zip_push R (a ∷ xs) (b ∷ ys) x y all own = (all.0, zip_push R xs ys x y all.1 own)

zip_next : {A B : Type 0} (R : A → B → Type 0) (xs : List A) (ys : List B) (i : ℕ) (d : B) → AllZip R xs ys → i < length ys →
    (x : A) × (take (suc i) xs ≡ take i xs ++ x ∷ []) × R x (get_or ys i d)
zip_next R [] [] i d all within = absurd (omega (arith, within))
zip_next R [] (b ∷ ys) i d all within = absurd all
zip_next R (a ∷ xs) [] i d all within = absurd all
zip_next R (a ∷ xs) (b ∷ ys) zero d all within = (a, refl, all.0)
zip_next R (a ∷ xs) (b ∷ ys) (suc i) d all within =
    let more = zip_next R xs ys i d all.1 (omega (arith, within)) in
    (more.0, ap (λ us. a ∷ us) more.1, more.2)

pub zip_more : {A B : Type 0} (R : A → B → Type 0) (xs : List A) (ys : List B) (i : ℕ) (d : B) → AllZip R xs ys → i < length ys →
    (x : A) × (take (i + 1) xs ≡ take i xs ++ x ∷ []) × R x (get_or ys i d)
zip_more R xs ys i d all within =
    let next : i + 1 ≡ suc i = omega arith in
    let more = zip_next R xs ys i d all within in
    (more.0, ap (λ n. take n xs) next ∙ more.1, more.2)

pub rows_more : {A : Type 0} (xs : List A) (x : A) (i : ℕ) → i < length xs → x ≡ get_or xs i x → take (i + 1) xs ≡ take i xs ++ x ∷ []
rows_more xs x i within is = take_more xs i x within ∙ ap (λ y. take i xs ++ y ∷ []) (sym is)

-- ---- veils, with the lines since which they are so

abbrev pub shown : Bor Place × Bor ℕ → Place × ℕ
shown veil = (veil.0.now, veil.1.now)

pub shown_more : (lent : List (Bor Place × Bor ℕ)) (veil : Bor Place × Bor ℕ) (i : ℕ) → i < length lent → veil ≡ get_or lent i veil →
    map shown (take (i + 1) lent) ≡ map shown (take i lent) ++ shown veil ∷ []
shown_more lent veil i within is = ap (map shown) (rows_more lent veil i within is) ∙ map-append shown (take i lent) (veil ∷ [])

pub line_shown : (p : ServedScript) (process : ℕ) (lent : List (Bor Place × Bor ℕ)) (veil : Bor Place × Bor ℕ) (i : ℕ) (line : Option ℕ)
    (lines : List (Option ℕ)) → i < length lent → veil ≡ get_or lent i veil → lines ≡ veil_dates p process (map shown lent)
    → line ≡ get_or lines i None → line ≡ since (has_veil_on veil.0.now veil.1.now) p.table p.world 1 p.asks process
line_shown p process lent veil i line lines within is dated lined =
    lined ∙ ap (λ ls. get_or ls i None) dated
    ∙ get_or-map date (map shown lent) i (shown veil) None (omega (arith, within, length-map lent shown))
    ∙ ap date (get_or-map shown lent i veil (shown veil) within ∙ ap shown (sym is))
  where
    date : Place × ℕ → Option ℕ
    date v = since (has_veil_on v.0 v.1) p.table p.world 1 p.asks process

-- ---- the veils that are told

module _ (p : ServedScript) (process : ℕ) (places : List Place) (calls : List Call) (old : List ℕ) where
  abbrev told : List (Place × ℕ) → List ℕ
  told = told_of p process places calls

  abbrev tells : Place × ℕ → Bool
  tells = is_told (tmp_table p.table) places calls

  -- with one veil more
  pub told_more : (so_far : List ℕ) (vs : List (Place × ℕ)) (v : Place × ℕ) (i : ℕ) → take (i + 1) vs ≡ take i vs ++ v ∷ [] →
      so_far ≡ old ++ told (take i vs) → so_far ++ told (v ∷ []) ≡ old ++ told (take (i + 1) vs)
  told_more so_far vs v i more is =
      (λ j. is j ++ told (v ∷ []))
      ∙ append_assoc old (told (take i vs)) (told (v ∷ []))
      ∙ ap (λ bytes. old ++ bytes)
      (sym (ap told more ∙ ap (flat_map (kept_text p process)) (filter-append tells (take i vs) (v ∷ []))
      ∙ flat_map-append (kept_text p process) (filter tells (take i vs)) (filter tells (v ∷ []))))

  -- a veil is added if it is told
  pub told_one : (v : Place × ℕ) → tells v ≡ true → kept_text p process v ≡ told (v ∷ [])
  told_one v is = sym (append-nil (kept_text p process v)) ∙ ap (λ b. flat_map (kept_text p process) (cond b (v ∷ []) [])) (sym is)

  pub told_none : (v : Place × ℕ) → tells v ≡ false → old ≡ old ++ told (v ∷ [])
  told_none v is = sym (append-nil old) ∙ ap (λ b. old ++ flat_map (kept_text p process) (cond b (v ∷ []) [])) (sym is)

-- a text that grew has more than dashes behind it, and one that didn't nothing
module _ (old new more : List ℕ) (is : new ≡ old ++ more) where
  count : length new ≡ length old + length more
  count = ap length is ∙ length-append old more

  pub all_told : length old < length new → new ≡ old ++ or_dashes more
  all_told grown = by more is count
    where
      by : (more : List ℕ) → new ≡ old ++ more → length new ≡ length old + length more → new ≡ old ++ or_dashes more
      by [] is count = absurd (omega (arith, grown, count))
      by (b ∷ more) is count = is

  pub none_told : length new ≤ length old → new ++ codes " - - -" ≡ old ++ or_dashes more
  none_told same = by more is count
    where
      by : (more : List ℕ) → new ≡ old ++ more → length new ≡ length old + length more → new ++ codes " - - -" ≡ old ++ or_dashes more
      by [] is count = ap (λ bytes. bytes ++ codes " - - -") (is ∙ append-nil old)
      by (b ∷ more) is count = absurd (omega (arith, same, count))

-- a set has some of these calls where it has them not all but none
module _ (others calls both : ℕ) (is : (call : Call) → has both call ≡ (has others call && has calls call)) where
  both_with : (call : Call) (b : Bool) → has calls call ≡ b → has both call ≡ (has others call && b)
  both_with call b own = is call ∙ ap (λ b. has others call && b) own

  any_both : (cs : List Call) → list_any (has others) (filter (has calls) cs) ≡ list_any (has both) cs
  any_both [] = refl
  any_both (call ∷ cs) = by (has calls call) refl (any_both cs)
    where
      by : (b : Bool) → has calls call ≡ b → list_any (has others) (filter (has calls) cs) ≡ list_any (has both) cs →
          list_any (has others) (cond b (call ∷ filter (has calls) cs) (filter (has calls) cs)) ≡ (has both call || list_any (has both) cs)
      by true own more = λ i. sym (both_with call true own ∙ and_true (has others call)) i || more i
      by false own more = more ∙ ap (λ b. b || list_any (has both) cs) (sym (both_with call false own ∙ and_false (has others call)))

  some_left : (cs : List Call) → filter (has both) cs ≡ [] → list_any (has both) cs ≡ false
  some_left [] none = refl
  some_left (call ∷ cs) none = by (has both call) none (some_left cs)
    where
      by : (b : Bool) → cond b (call ∷ filter (has both) cs) (filter (has both) cs) ≡ [] →
          (filter (has both) cs ≡ [] → list_any (has both) cs ≡ false) → (b || list_any (has both) cs) ≡ false
      by true none more = absurd (omega (arith, ap length none))
      by false none more = more none

  none_left : (cs : List Call) → list_any (has both) cs ≡ false → filter (has both) cs ≡ []
  none_left [] none = refl
  none_left (call ∷ cs) none = by (has both call) none (none_left cs)
    where
      by : (b : Bool) → (b || list_any (has both) cs) ≡ false → (list_any (has both) cs ≡ false → filter (has both) cs ≡ []) →
          cond b (call ∷ filter (has both) cs) (filter (has both) cs) ≡ []
      by true none more = absurd (true≢false none)
      by false none more = more none

  pub has_some_is : (empty : Bool) → (empty ≡ true → calls_in both ≡ []) → (calls_in both ≡ [] → empty ≡ true) →
      not empty ≡ list_any (has others) (calls_in calls)
  has_some_is true to from = sym (any_both all_calls ∙ some_left all_calls (to refl))
  has_some_is false to from = by (list_any (has both) all_calls) refl
    where
      by : (b : Bool) → list_any (has both) all_calls ≡ b → true ≡ list_any (has others) (calls_in calls)
      by true some = sym (any_both all_calls ∙ some)
      by false none = absurd (false≢true (from (none_left all_calls none)))

-- ---- the promises on which calls rest, from a place among all calls on

module _ (table : CallTable) (held given set : ℕ) where
  abbrev rests : List Call → ℕ
  rests cs = rests_on table held given (filter (has set) cs)

  abbrev own_set : Call → ℕ
  own_set call = let_by_one held given (rule_of table call).alternatives

  rest_or_not : (call : Call) (more : List Call) (own : Bool) → has set call ≡ own →
      rests (call ∷ more) ≡ cond own (bit_or (own_set call) (rests more)) (rests more)
  rest_or_not call more true is = ap (λ b. rests_on table held given (cond b (call ∷ filter (has set) more) (filter (has set) more))) is
  rest_or_not call more false is = ap (λ b. rests_on table held given (cond b (call ∷ filter (has set) more) (filter (has set) more))) is

  pub rest_taken : (resting own : ℕ) (i : ℕ) → i < length all_calls → has set (get_or all_calls i Stat) ≡ true →
      own ≡ own_set (get_or all_calls i Stat) → bit_or resting (rests (drop i all_calls)) ≡ bit_or (bit_or resting own) (rests (drop (i + 1) all_calls))
  rest_taken resting own i within taken is =
      ap (λ cs. bit_or resting (rests cs)) (drop_more all_calls i Stat within)
      ∙ ap (bit_or resting) (rest_or_not (get_or all_calls i Stat) (drop (i + 1) all_calls) true taken ∙
      ap (λ s. bit_or s (rests (drop (i + 1) all_calls))) (sym is))
      ∙ sym (or_assoc resting own (rests (drop (i + 1) all_calls)))

  pub rest_passed : (resting : ℕ) (i : ℕ) → i < length all_calls → has set (get_or all_calls i Stat) ≡ false →
      bit_or resting (rests (drop i all_calls)) ≡ bit_or resting (rests (drop (i + 1) all_calls))
  rest_passed resting i within own =
      ap (λ cs. bit_or resting (rests cs)) (drop_more all_calls i Stat within)
      ∙ ap (bit_or resting) (rest_or_not (get_or all_calls i Stat) (drop (i + 1) all_calls) false own)

  pub rest_done : (resting : ℕ) (i : ℕ) → length all_calls ≤ i → bit_or resting (rests (drop i all_calls)) ≡ resting
  rest_done resting i past = ap (λ cs. bit_or resting (rests cs)) (drop_of_length-le all_calls past) ∙ or_zero_r resting

-- ---- where what a row is about comes

module _ (holder : ProcessState) (comings : Comings) (row : EverRow) (about : Thing) (under : ComesUnder) where
  abbrev ComesBy : Tree → CallTable → Type 0
  ComesBy t table =
      AreComings t table holder comings → IsRowOn t holder row → thing_of t row ≡ Some about →
      places_under t holder under ≡ places_on t table holder about

  pub under_there : (t u : Tree) (table other : CallTable) → t ≡ u → table ≡ other → ComesBy t table → ComesBy u other
  under_there t u table other same ruled is = subst (ComesBy u) ruled (subst (λ t. ComesBy t table) same is)

-- ---- calls that letters let through

pub lets_alike : (table : CallTable) (perms lets : ℕ) → ((call : Call) → has lets call ≡ holds perms (rule_of table call).perms) →
    (cs : List Call) → list_any (has lets) cs ≡ lets_some table perms cs
lets_alike table perms lets is [] = refl
lets_alike table perms lets is (call ∷ cs) = λ i. is call i || lets_alike table perms lets is cs i
