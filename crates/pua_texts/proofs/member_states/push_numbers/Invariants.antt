use Rattle.pua_texts.proofs.Common.{◌≡◌, ◌∷◌, ◌++◌, [], if◌then◌else◌, string_bytes}
use Rattle.pua_texts.proofs.MembersNext.{numbers_left}
use Rattle.pua_texts.proofs.member_states.push_numbers.Given as goal

-- the numbers so far are added, and the others are still to come
abbrev pub invariant-loop-member : goal.invariant-loop-member
invariant-loop-member l = string_bytes l.text ++ numbers_left (if l.is_first then [] else 44 ∷ []) l.members l.member-index
    ≡ string_bytes l.fn.text ++ numbers_left [] l.members 0
