-- What is ahead of a walk that begins.
use Rattle.pua_audit.proofs.Common.{◌≡◌, [], true, false, not, sym, ap, IsTrue, is_lt, is_dir, is_ended, and_parts, Pair}
use Rattle.pua_audit.proofs.Common.{pair_cmp, reach, rest_after, base_dir, reach_along, IsAudited, scope_in, judge_in, Terms}
use Rattle.std.proofs.Common.{filter}
use Rattle.std.specs.Prelude.{Option, Some, None}
use Rattle.pua_audit.specs.Judge.{is_open}
use Rattle.pua_audit.proofs.Audited.{reaches_along, closed_reaches}

module _ (a : Terms) where
  pub audited : IsAudited (scope_in a)
  audited = record { tree = a.tree; letters = a.known; short = a.short }

  -- one who is not open reaches nothing
  pub nothing_after : is_open (scope_in a) ≡ false → (after : Option Pair) → rest_after (scope_in a) after ≡ []
  nothing_after closed None = closed_reaches (scope_in a) audited closed
  nothing_after closed (Some pair) = ap (filter (λ other. is_lt (pair_cmp pair other))) (closed_reaches (scope_in a) audited closed)

  pub lives : is_open (scope_in a) ≡ true → IsTrue (is_dir a.seen.tree (base_dir a.base a.process))
  lives opened = (and_parts (not (is_ended a.process)) (is_dir a.seen.tree (base_dir a.base a.process))
      opened).1

  pub all_along : is_open (scope_in a) ≡ true → reach_along (judge_in a) a.letters a.limit ≡ reach (scope_in a)
  all_along opened = sym (reaches_along (scope_in a) audited (lives opened))
