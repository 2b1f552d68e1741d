-- A letter by its sets of calls.
use Rattle.pua_audit.proofs.Common.{ℕ, zero, suc, ◌+◌, ◌<◌, ◌^◌, ◌≡◌, List, Bool, true, false, not, ◌&&◌, ◌||◌, ◌==◌, nat_le, cond, refl}
use Rattle.pua_audit.proofs.Common.{ap, arith, sym, ◌∙◌, Result, Ok, Err, Tree, most_links, part_of, follow, last, Errno, Found, Last}
use Rattle.pua_audit.proofs.Common.{Followed, Kept, Part, CallTable, bit_of, has, keeps_link, ProcessState, Call, Stat, judge_of}
use Rattle.pua_audit.proofs.Common.{call_count, calls, get_or, links_of, found_of, leads_to, allowed_near, allowed_far, IsLetter, Base}
use Rattle.pua_audit.proofs.Common.{seen_by, RootedTree}
use Rattle.std.specs.Int.{bit_at}
use Rattle.std.specs.Prelude.{is_ok}
use Rattle.std.proofs.lemmas.Nat.Bits.{bit_at-lt, bit_at-zero, same_from_bits_below}
use Rattle.pua_path.proofs.ForCallers.{unlinked_alike}
use Rattle.pua_calls.specs.CallSets.{is_kept}
use Rattle.pua_audit.proofs.Fresh.{entries_stand}
use Rattle.pua_calls.proofs.ForCallers.{bit_of_call_at, has_none}

-- a letter that is followed once, by the sets of its calls
pub letter_told : (t : Tree) (table : CallTable) (base : Base) (h : ProcessState) (dir : ℕ) (letter : List ℕ) (all kept : ℕ)
    → ((call : Call) → has all call ≡ allowed_near t table h dir letter (follow (seen_by t h) dir (part_of letter)) call) →
    ((call : Call) → has kept call ≡ allowed_far t table h dir letter call)
    → IsLetter (judge_of t table base h) dir letter all kept (links_of (follow (seen_by t h) dir (part_of letter)))
    (leads_to (found_of (follow (seen_by t h) dir (part_of letter))))
letter_told t table base h dir letter all kept near far = record {
  own = λ used call low. (entries_stand t table base h dir letter used low).own call ∙
      by call (nat_le (used + links_of (follow (seen_by t h) dir (part_of letter))) most_links);
  step = λ used low. (entries_stand t table base h dir letter used low).step;
}
  where
    by : (call : Call) (b : Bool) →
        cond b (allowed_near t table h dir letter (follow (seen_by t h) dir (part_of letter)) call) (allowed_far t table h dir letter call)
        ≡ has (cond b all kept) call
    by call true = sym (near call)
    by call false = sym (far call)

-- what is found without a link is what is found where a final link is kept
pub kept_unlinked : (t : RootedTree) (dir : ℕ) (part : Part) (r : Result (Found × ℕ) Errno) → follow t dir part ≡ r → links_of r ≡ 0 →
    is_ok (found_of r) ≡ true → last t dir 0 part Kept ≡ found_of r
kept_unlinked t dir part (Ok found) same none ok = unlinked_alike t dir part found.0 (same ∙ ap (λ n. Ok (found.0, n)) none)
kept_unlinked t dir part (Err errno) same none ok = absurd cc

-- calls that follow a final link, and those that keep it

pub by_both : (mode : Last) (followed kept : Bool) → ((followed && not (is_kept mode)) || (kept && is_kept mode)) ≡ elim mode [
  | Followed ↦ followed
  | Kept ↦ kept
]
by_both Followed true true = refl
by_both Followed true false = refl
by_both Followed false true = refl
by_both Followed false false = refl
by_both Kept true true = refl
by_both Kept true false = refl
by_both Kept false true = refl
by_both Kept false false = refl

pub by_kept : (mode : Last) (followed kept : Bool) →
    (elim mode [ Followed ↦ followed | Kept ↦ kept ] && is_kept mode) ≡ elim mode [ Followed ↦ false | Kept ↦ kept ]
by_kept Followed true kept = refl
by_kept Followed false kept = refl
by_kept Kept followed true = refl
by_kept Kept followed false = refl

-- a set without calls

zero_of : (b : ℕ) → b < 2 → (b == 1) ≡ false → b ≡ 0
zero_of zero low e = refl
zero_of (suc zero) low e = absurd cc
zero_of (suc (suc b)) low e = absurd (omega (arith, low))

no_bit : (set : ℕ) → ((call : Call) → has set call ≡ false) → (i : ℕ) → i < call_count → bit_at set i ≡ 0
no_bit set none i low =
    let here : bit_of (get_or calls i Stat) ≡ i = bit_of_call_at i low in
    zero_of (bit_at set i) (bit_at-lt set i) (ap (λ n. bit_at set n == 1) (sym here) ∙ none (get_or calls i Stat))

pub no_calls : (set : ℕ) → set < 2 ^ call_count → ((call : Call) → has set call ≡ false) → set ≡ 0
no_calls set fits none = same_from_bits_below call_count set 0 fits (omega arith) (λ i low. no_bit set none i low ∙ sym (bit_at-zero i))

-- the calls that a set keeps are none where it has none
pub kept_none : (all kept : ℕ) → kept < 2 ^ call_count → ((call : Call) → has kept call ≡ (has all call && keeps_link call)) → all ≡ 0 → kept ≡ 0
kept_none all kept fits is none = no_calls kept fits (λ call. is call ∙ ap (λ n. has n call && keeps_link call) none ∙
    ap (λ b. b && keeps_link call) (has_none call))
