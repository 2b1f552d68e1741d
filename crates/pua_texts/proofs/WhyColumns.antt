-- What stands behind lines: veils, and the promises on which calls rest.
use Rattle.pua_texts.proofs.Common.{◌≡◌, ℕ, ◌+◌, ◌<◌, ◌≤◌, List, [], ◌∷◌, ◌++◌, Bool, true, false, cond, map, drop, take, length, flat_map}
use Rattle.pua_texts.proofs.Common.{get_or, slice_index_or, refl, sym, ap, ◌∙◌, arith, Option, Some, None, filter, bit_or, if◌then◌else◌}
use Rattle.pua_texts.proofs.Common.{append_assoc, Bor, drop_more, take_more, map-append, length-map, drop_of_length-le, Tree, CallTable, calls, codes}
use Rattle.pua_texts.proofs.Common.{has, ProcessState, Call, Stat, Place, resting_on, covering_behind, veils_behind, ServedScript, world_left, veil_dates}
use Rattle.std.proofs.Common.{suc, zero}
use Rattle.std.specs.Prelude.{slice_get}
use Rattle.std.specs.Int.Bits.{or_zero_r}
use Rattle.std.proofs.lemmas.List.{get_or-map}
use Rattle.pua_calls.specs.Calls.{rule_of}
use Rattle.pua_policy.specs.States.{has_veil}
use Rattle.pua_policy.specs.Reasons.{promising}
use Rattle.pua_policy.specs.declared.reason.Covering.TheVariants.{InView, NoneOver}
use Rattle.pua_objects.specs.Objects.{Subject, At, Others, Line, line_text}
use Rattle.pua_why.specs.Columns.{columns, let_by, veil_columns}
use Rattle.pua_why.specs.Since.{since}
use Rattle.pua_why.specs.Texts.{has_veil_on, promises_text}
use Rattle.pua_texts.specs.EndingsState.{EndingsState, columns_of, veil_column}
use Rattle.pua_objects.specs.Veils.{covering_by, covering_over, veil_there}
use Rattle.pua_texts.specs.WhyLines.{covering_of, why_line}
use Rattle.pua_texts.specs.WhyLists.{AreColumnsOf, veil_behind, veil_kept}
use Rattle.pua_texts.proofs.States.{shown}
use Rattle.pua_calls.proofs.ForCallers.{or_assoc}

-- the columns of a veil are those of what it covers
pub column_is : (p : ServedScript) (process : ℕ) (vs : List (Place × ℕ)) (veil : Option ℕ) →
    veil_column (veils_behind p process vs) (codes " - - -" ++ 10 ∷ []) veil ≡ covering_behind p process (covering_by vs veil)
column_is p process vs None = by (has_veil vs)
  where
    by : (veiled : Bool) → codes " - - -" ++ 10 ∷ [] ≡ covering_behind p process (if veiled then NoneOver else InView)
    by true = refl
    by false = refl
column_is p process vs (Some index) = by vs index
  where
    by : (vs : List (Place × ℕ)) (index : ℕ) →
        get_or (veils_behind p process vs) index (codes " - - -" ++ 10 ∷ []) ≡ covering_behind p process (veil_there (slice_get vs index))
    by [] index = refl
    by (v ∷ vs) zero = refl
    by (v ∷ vs) (suc index) = by vs index

-- the promises on which calls rest, from a place among all calls on
module _ (table : CallTable) (h : ProcessState) (set : ℕ) where
  abbrev rests : List Call → ℕ
  rests cs = resting_on table h (filter (has set) cs)

  abbrev let_through : Call → ℕ
  let_through call = let_by (promising h (rule_of table call).alternatives)

  abbrev pub rest_left : ℕ → ℕ
  rest_left i = rests (drop i calls)

  rest_or_not : (call : Call) (more : List Call) (own : Bool) → has set call ≡ own →
      rests (call ∷ more) ≡ cond own (bit_or (let_through call) (rests more)) (rests more)
  rest_or_not call more true is = ap (λ b. resting_on table h (cond b (call ∷ filter (has set) more) (filter (has set) more))) is
  rest_or_not call more false is = ap (λ b. resting_on table h (cond b (call ∷ filter (has set) more) (filter (has set) more))) is

  pub rest_taken : (resting given : ℕ) (i : ℕ) → i < length calls → has set (get_or calls i Stat) ≡ true →
      given ≡ let_by (promising h (rule_of table (get_or calls i Stat)).alternatives)
      → bit_or resting (resting_on table h (filter (has set) (drop i calls))) ≡ bit_or (bit_or resting given)
      (resting_on table h (filter (has set) (drop (i + 1) calls)))
  rest_taken resting given i within own is =
      ap (λ cs. bit_or resting (rests cs)) (drop_more calls i Stat within)
      ∙ ap (bit_or resting) (rest_or_not (get_or calls i Stat) (drop (i + 1) calls) true own ∙
      ap (λ s. bit_or s (rest_left (i + 1))) (sym is))
      ∙ sym (or_assoc resting given (rest_left (i + 1)))

  pub rest_passed : (resting : ℕ) (i : ℕ) → i < length calls → has set (get_or calls i Stat) ≡ false
      → bit_or resting (resting_on table h (filter (has set) (drop i calls)))
      ≡ bit_or resting (resting_on table h (filter (has set) (drop (i + 1) calls)))
  rest_passed resting i within own =
      ap (λ cs. bit_or resting (rests cs)) (drop_more calls i Stat within)
      ∙ ap (bit_or resting) (rest_or_not (get_or calls i Stat) (drop (i + 1) calls) false own)

  pub rest_done : (resting : ℕ) (i : ℕ) → length calls ≤ i → bit_or resting (resting_on table h (filter (has set) (drop i calls))) ≡ resting
  rest_done resting i past = ap (λ cs. bit_or resting (rests cs)) (drop_of_length-le calls past) ∙ or_zero_r resting

-- the columns of the next veil stand behind those so far
pub column_next : (p : ServedScript) (process : ℕ) (lent : List (Bor Place × Bor ℕ)) (veil : Bor Place × Bor ℕ) (i : ℕ) (line : Option ℕ)
    (lines : List (Option ℕ)) (columns : List (List ℕ)) (column : List ℕ)
    → i < length lent → veil ≡ slice_index_or lent i veil → lines ≡ veil_dates p process (map shown lent) → line ≡ get_or lines i None
    → column ≡ veil_behind (world_left p).tree veil.0.now veil.1.now line
    → columns ≡ veils_behind p process (map shown (take i lent)) →
    columns ++ column ∷ [] ≡ veils_behind p process (map shown (take (i + 1) lent))
column_next p process lent veil i line lines columns column within is dated lined told so_far =
    (λ j. so_far j ++ (told ∙ ap (veil_behind (world_left p).tree veil.0.now veil.1.now) line_is) j ∷ [])
    ∙ sym (map-append (veil_kept p process) (map shown (take i lent)) (shown veil ∷ []))
    ∙ ap (veils_behind p process) (sym (map-append shown (take i lent) (veil ∷ [])) ∙ ap (λ v. map shown (take i lent ++ v ∷ [])) is ∙
    ap (map shown) (sym (take_more lent i veil within)))
  where
    date : Place × ℕ → Option ℕ
    date v = since (has_veil_on v.0 v.1) p.table p.world 1 p.asks process

    line_is : line ≡ date (shown veil)
    line_is =
        lined ∙ ap (λ ls. get_or ls i None) dated
        ∙ get_or-map date (map shown lent) i (shown veil) None (omega (arith, within, length-map lent shown))
        ∙ ap date (get_or-map shown lent i veil (shown veil) within ∙ ap shown (sym is))

-- what stands behind a line with reasons
abbrev pub behind : ServedScript → ℕ → ProcessState → Line → List ℕ
behind p process h line =
    columns p.table p.world p.asks process h line.calls (covering_of (world_left p).tree h line.subject) ++ 10 ∷ []

-- the column of the promises of some calls and that of a veil stand behind a line
pub behind_is : (p : ServedScript) (process : ℕ) (h : ProcessState) (vs : List (Place × ℕ)) (cs : EndingsState) (line : Line) (resting number : ℕ)
    (veil : Option ℕ) → AreColumnsOf p process vs cs → get_or cs.resting number [] ≡ 32 ∷ promises_text resting
    → resting ≡ resting_on p.table h line.calls → covering_by vs veil ≡ covering_of (world_left p).tree h line.subject
    → columns_of cs number veil ≡ behind p process h line
behind_is p process h vs cs line resting number veil are is rests covers =
    (λ j. (is ∙ ap (λ set. 32 ∷ promises_text set) rests) j ++ veil_column (are.veils j) (are.unveiled j) veil)
    ∙ ap (λ t. (32 ∷ promises_text (resting_on p.table h line.calls)) ++ t) (column_is p process vs veil ∙
    ap (covering_behind p process) covers)
    ∙ sym (append_assoc (32 ∷ promises_text (resting_on p.table h line.calls))
    (32 ∷ veil_columns p.table p.world p.asks process (covering_of (world_left p).tree h line.subject)) (10 ∷ []))

-- and so the lines are those with reasons
pub lines_behind : (p : ServedScript) (process : ℕ) (h : ProcessState) (lines : List Line) →
    flat_map (λ line. line_text (world_left p).tree line ++ behind p process h line) lines ≡ flat_map (why_line p process h) lines
lines_behind p process h lines = λ i.
    flat_map (λ line. sym (append_assoc (line_text (world_left p).tree line) (columns p.table p.world p.asks process h line.calls
    (covering_of (world_left p).tree h line.subject)) (10 ∷ [])) i) lines

-- what covers a subject is so by both definitions
pub covering_alike : (t : Tree) (h : ProcessState) (subject : Subject) → covering_over t h subject ≡ covering_of t h subject
covering_alike t h (At found) = refl
covering_alike t h (Others dir) = refl
