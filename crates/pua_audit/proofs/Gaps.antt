-- A row of a table of steps while it goes over the letters that its directory tells apart.
use Rattle.pua_audit.proofs.Common.{ℕ, zero, suc, ◌+◌, ◌<◌, ◌≤◌, ◌^◌, ◌≡◌, ◌≢◌, List, [], None, refl, ap, arith, add-one, length, get_or}
use Rattle.pua_audit.proofs.Common.{subst, inl, inr, cases_eq, cases_lt, IsTrue, is_dir, has, Call, allowed_within, IsMissing, Judge}
use Rattle.pua_audit.proofs.Common.{judge_in, IsJudgedRow, IsApart, LetterSpot, Terms, IsLetter, call_count, Entry}
use Rattle.std.specs.List.Sorted.{IsStrictlyIncreasing}
use Rattle.pua_audit.specs.Spots.{AreLettersIn, AreLetterSpots}
use Rattle.pua_audit.proofs.Bare.{bare_told}
use Rattle.pua_audit.proofs.Lists.{IsReached, all_by_place, reached_at}
use Rattle.pua_audit.proofs.Rowed.{row_empty, row_skipped}

module _ (w : Judge) (letters : List (List ℕ)) (dir missing : ℕ) where
  -- letters between two others, none of which has an entry
  over : (dirs : List ℕ) (es : List Entry) (from to : ℕ) → from ≤ to →
      ((i : ℕ) → from ≤ i → i < to → IsLetter w dir (get_or letters i []) missing missing 0 None)
      → IsJudgedRow w letters dirs dir from missing es → IsJudgedRow w letters dirs dir to missing es
  over dirs es from zero low told row = subst (λ n. IsJudgedRow w letters dirs dir n missing es) (omega (arith, low)) row
  over dirs es from (suc to) low told row = elim (cases_eq from (suc to)) [
    | inl same ↦ subst (λ n. IsJudgedRow w letters dirs dir n missing es) same row
    | inr away ↦ subst (λ n. IsJudgedRow w letters dirs dir n missing es) (add-one to)
        (row_skipped w letters dir missing dirs to missing missing 0 None es
        (over dirs es from to (omega (arith, low, away)) (λ i high small. told i high (omega (arith, small))) row)
        (told to (omega (arith, low, away)) (omega arith)) refl refl refl)
  ]

  module _ (ns : List ℕ) (bare : (i : ℕ) → i < length letters → IsApart i ns → IsLetter w dir (get_or letters i []) missing missing 0 None)
    where
      -- the letters before the first that is looked up
      pub row_started : (dirs : List ℕ) → missing < 2 ^ call_count → (n : ℕ) → n ≤ length letters → IsReached ns 0 n →
          IsJudgedRow w letters dirs dir n missing []
      row_started dirs fits n low reached =
          over dirs [] 0 n (omega arith)
          (λ i _ small. bare i (omega (arith, small, low)) (all_by_place (λ j. j ≢ i) ns (λ k inside same. let at =
          reached.above k (omega arith) inside in omega (arith, same, small, at)))) (row_empty w letters dir missing dirs fits)

      -- one that is looked up, and those before the next
      pub row_further : (old new : List ℕ) (es more : List Entry) (k : ℕ) → k < length ns → IsStrictlyIncreasing ns →
          ((n : ℕ) → n ≤ length letters → IsReached ns k n → IsJudgedRow w letters old dir n missing es)
          → (IsJudgedRow w letters old dir (get_or ns k 0) missing es → IsJudgedRow w letters new dir (get_or ns k 0 + 1) missing more) →
          (n : ℕ) → n ≤ length letters → IsReached ns (suc k) n → IsJudgedRow w letters new dir n missing more
      row_further old new es more k inside rise row put n low reached =
          let m : ℕ = get_or ns k 0 in
          let next : m < n = reached.below k (omega arith) in
          let before : IsReached ns k m = reached_at ns rise k inside in
          over new more (m + 1) n (omega (arith, next))
          (λ i high small. bare i (omega (arith, small, low)) (all_by_place (λ j. j ≢ i) ns (λ j within same. elim (cases_lt k j) [
            | inl past ↦ (let at = reached.above j past within in omega (arith, at, small, same))
            | inr behind ↦ elim (cases_eq j k) [
              | inl here ↦ omega (arith, same, high, ap (λ p. get_or ns p 0) here)
              | inr away ↦ (let at = before.below j (omega (arith, behind, away)) in omega (arith, at, high, same))
            ]
          ])))
          (put (row m (omega (arith, next, low)) before))

-- letters that a directory does not tell apart
pub letters_bare : (a : Terms) (dir missing : ℕ) (dots : List ℕ) (spots : List LetterSpot) (ns : List ℕ) →
    IsTrue (is_dir a.seen.tree dir) →
    ((call : Call) → has missing call ≡ allowed_within a.seen.tree a.table a.process dir IsMissing call)
    → AreLetterSpots a.seen.tree a.process a.letters dots spots → AreLettersIn dir dots spots ns
    → (i : ℕ) → i < length a.letters → IsApart i ns → IsLetter (judge_in a) dir (get_or a.letters i []) missing missing 0 None
letters_bare a dir missing dots spots ns living told are among i low apart =
    bare_told a.seen.tree a.table a.base a.process dir (get_or a.letters i []) a.tree living missing told
    (record {
      name = are.named i low (among.dotted i apart);
      none = are.none dir i low (among.spotted i apart);
      unveiled = are.unveiled dir i low (among.spotted i apart);
    })
