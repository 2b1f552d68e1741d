-- A letter that is followed once, with no link used before it, tells it after any number of links.
use Rattle.pua_audit.proofs.Common.{ℕ, ◌+◌, ◌≡◌, List, Option, None, Bool, true, false, cond, nat_le, refl, ap, sym, ◌∙◌, option_map, inl}
use Rattle.pua_audit.proofs.Common.{inr, cases_lt, le-leb, lt-leb, Tree, most_links, part_of, follow, last, Errno, Last, Followed, Kept}
use Rattle.pua_audit.proofs.Common.{Found, Whole, Slot, CallTable, last_of, rule_of, ProcessState, may_any, verdict_of, is_allowed, Call, Judge}
use Rattle.pua_audit.proofs.Common.{WordEnd, Below, judge_of, state_of, Base, JudgeState, links_of, found_of, leads_to, allowed_kept}
use Rattle.pua_audit.proofs.Common.{allowed_near, allowed_far, seen_by}
use Rattle.std.proofs.Common.{Result, Ok, Err}
use Rattle.pua_path.specs.Laws.{IsToldBy, dir_entered}
use Rattle.pua_path.specs.declared.errno.Errno.TheVariants.{ELOOP}
use Rattle.pua_path.proofs.ForCallers.{follow_decides, kept_follows_none}
use Rattle.pua_policy.specs.Verdict.{if_promised}
use Rattle.pua_policy.specs.declared.answer.May.{May}
use Rattle.pua_policy.specs.declared.answer.May.TheVariants.{Yes, Enosys, Death}
use Rattle.pua_policy.specs.declared.answer.Verdict.TheVariants.{Failed}
use Rattle.pua_audit.specs.Entries.{EntriesStand}

-- a failed path is never allowed
pub refused : (may : May) (errno : Errno) → is_allowed (if_promised may (Failed errno)) ≡ false
refused Yes errno = refl
refused Enosys errno = refl
refused Death errno = refl

module _ (t : Tree) (table : CallTable) (base : Base) (h : ProcessState) (dir : ℕ) (letter : List ℕ) (used : ℕ) where
  abbrev w : Judge
  w = judge_of t table base h

  abbrev x : WordEnd
  x = Below (record { dir = dir; used = used }) letter

  abbrev Answer : Type 0
  Answer = Result (Found × ℕ) Errno

  fails : (call : Call) (errno : Errno) → is_allowed (verdict_of t table h call (Err errno)) ≡ false
  fails call errno = refused (may_any h (rule_of table call).alternatives) errno

  by_kept : (call : Call) →
      is_allowed (verdict_of t table h call (last (seen_by t h) dir used (part_of letter) Kept)) ≡ allowed_kept t table h dir letter call
  by_kept call = ap (λ r. is_allowed (verdict_of t table h call r)) (kept_follows_none (seen_by t h) dir used (part_of letter))

  -- by whether the call keeps a final link
  own_by : (call : Call) (mode : Last) (b : Bool) (r : Answer)
      → is_allowed (verdict_of t table h call (last (seen_by t h) dir used (part_of letter) Followed))
      ≡ cond b (is_allowed (verdict_of t table h call (found_of r))) false
      → is_allowed (verdict_of t table h call (last (seen_by t h) dir used (part_of letter) mode))
      ≡ cond b (elim mode [
        | Followed ↦ is_allowed (verdict_of t table h call (found_of r))
        | Kept ↦ allowed_kept t table h dir letter call
      ])
      (elim mode [ Followed ↦ false | Kept ↦ allowed_kept t table h dir letter call ])
  own_by call Followed b r e = e
  own_by call Kept true r e = by_kept call
  own_by call Kept false r e = by_kept call

  owns : (r : Answer) → IsToldBy (seen_by t h) dir used (part_of letter) r → (call : Call) →
      w.own x call ≡ cond (nat_le (used + links_of r) most_links) (allowed_near t table h dir letter r call)
      (allowed_far t table h dir letter call)
  owns (Ok (found, count)) is call =
      own_by call (last_of call) (nat_le (used + count) most_links) (Ok (found, count)) (elim (cases_lt most_links (used + count)) [
        | inl over ↦ ap (λ r. is_allowed (verdict_of t table h call r)) (is.last_beyond over) ∙ fails call ELOOP ∙
            ap (λ b. cond b (is_allowed (verdict_of t table h call (Ok found))) false) (sym (lt-leb (used + count) most_links over))
        | inr under ↦ ap (λ r. is_allowed (verdict_of t table h call r)) (is.last_within under) ∙
            ap (λ b. cond b (is_allowed (verdict_of t table h call (Ok found))) false) (sym (le-leb (used + count) most_links under))
      ])
  owns (Err errno) is call = own_by call (last_of call) (nat_le (used + 0) most_links) (Err errno)
      (ap (λ r. is_allowed (verdict_of t table h call r)) is.last_fails ∙ fails call is.errno ∙
      elim (nat_le (used + 0) most_links) as (λ b. false ≡ cond b (is_allowed (verdict_of t table h call (Err errno))) false) [
        | true ↦ sym (fails call errno)
        | false ↦ refl
      ])

  enters : (found : Found) (count : ℕ) →
      state_of (dir_entered (used + count) found) ≡ option_map (λ d. record { dir = d; used = used + count }) (leads_to (Ok found))
  enters (Whole d way) count = refl
  enters (Slot d name _) count = refl

  steps : (r : Answer) → IsToldBy (seen_by t h) dir used (part_of letter) r →
      w.step x ≡ cond (nat_le (used + links_of r) most_links) (option_map (λ d. record { dir = d; used = used + links_of r })
      (leads_to (found_of r))) None
  steps (Ok (found, count)) is = elim (cases_lt most_links (used + count)) [
    | inl over ↦ ap state_of (is.step_beyond over) ∙
        ap (λ b. cond b (option_map (λ d. record { dir = d; used = used + count }) (leads_to (Ok found))) None)
        (sym (lt-leb (used + count) most_links over))
    | inr under ↦ ap state_of (is.step_within under) ∙ enters found count ∙
        ap (λ b. cond b (option_map (λ d. record { dir = d; used = used + count }) (leads_to (Ok found))) None)
        (sym (le-leb (used + count) most_links under))
  ]
  steps (Err errno) is = ap state_of is.step_fails ∙
      elim (nat_le (used + 0) most_links) as (λ b. ◌≡◌ {A = Option JudgeState} None (cond b None None)) [ true ↦ refl | false ↦ refl ]

pub entries_stand : EntriesStand
entries_stand t table base h dir letter used low =
    let is = follow_decides (seen_by t h) dir used (part_of letter) low in
    record {
      own = owns t table base h dir letter used (follow (seen_by t h) dir (part_of letter)) is;
      step = steps t table base h dir letter used (follow (seen_by t h) dir (part_of letter)) is;
    }
