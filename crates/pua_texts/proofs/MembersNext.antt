-- Processes that act together, one after another.
use Rattle.pua_texts.proofs.Common.{◌≡◌, ℕ, ◌+◌, ◌<◌, ◌≤◌, List, [], ◌∷◌, ◌++◌, ◌∙◌, sym, ap, map, drop, length, slice_index_or}
use Rattle.pua_texts.proofs.Common.{append_assoc, drop_more, drop_of_length-le, flat_map, Tree}
use Rattle.std.specs.Prelude.{decimal}
use Rattle.pua_calls.specs.declared.rules.Rules.{Rules}
use Rattle.pua_texts.specs.Members.{named_by}
use Rattle.pua_texts.specs.TogetherLines.{member_lines}
use Rattle.pua_texts.specs.declared.members.Member.{Member}
use Rattle.pua_texts.proofs.ObjectLines.{joined}

-- the numbers that are still to come, behind this
abbrev pub numbers_left : List ℕ → List Member → ℕ → List ℕ
numbers_left before members i = joined before (map (λ member. decimal member.0) (named_by (drop i members)))

pub number_next : (members : List Member) (member : Member) (i : ℕ) (before text new : List ℕ) → i < length members →
    member ≡ slice_index_or members i member → new ≡ text ++ (before ++ decimal member.number) →
    new ++ numbers_left (44 ∷ []) members (i + 1) ≡ text ++ numbers_left before members i
number_next members member i before text new within is added =
    ap (λ t. t ++ numbers_left (44 ∷ []) members (i + 1)) added
    ∙ append_assoc text (before ++ decimal member.number) (numbers_left (44 ∷ []) members (i + 1))
    ∙ ap (λ ms. text ++ joined before (map (λ m. decimal m.0) (named_by ms))) (sym (drop_more members i member within ∙
    ap (λ m. m ∷ drop (i + 1) members) (sym is)))

pub numbers_done : (members : List Member) (i : ℕ) (before : List ℕ) → length members ≤ i → numbers_left before members i ≡ []
numbers_done members i before past =
    ap (λ ms. joined before (map (λ m. decimal m.0) (named_by ms))) (drop_of_length-le members past)

-- the states that are still to come
abbrev pub states_left : Rules → Tree → List Member → ℕ → List ℕ
states_left rules t members i = flat_map (member_lines rules t) (named_by (drop i members))

pub state_next : (rules : Rules) (t : Tree) (members : List Member) (member : Member) (i : ℕ) (text new : List ℕ) → i < length members →
    member ≡ slice_index_or members i member → new ≡ text ++ member_lines rules t (member.number, member.process.now) →
    new ++ states_left rules t members (i + 1) ≡ text ++ states_left rules t members i
state_next rules t members member i text new within is added =
    ap (λ s. s ++ states_left rules t members (i + 1)) added
    ∙ append_assoc text (member_lines rules t (member.number, member.process.now)) (states_left rules t members (i + 1))
    ∙ ap (λ ms. text ++ flat_map (member_lines rules t) (named_by ms)) (sym (drop_more members i member within ∙
    ap (λ m. m ∷ drop (i + 1) members) (sym is)))
