use Rattle.pua_texts.proofs.Common.{◌∷◌, ◌++◌, [], List, ℕ, if◌then◌else◌, map, sym, ap, ◌∙◌, append-nil, arith, string_bytes}
use Rattle.std.specs.Prelude.{decimal}
use Rattle.pua_texts.specs.Members.{named_by}
use Rattle.pua_texts.proofs.MembersNext.{number_next, numbers_done}
use Rattle.pua_texts.proofs.ObjectLines.{joined_is}
use Rattle.pua_texts.proofs.member_states.push_numbers.Goals as goal

pub loop-member-preserved : goal.loop-member-preserved
loop-member-preserved c =
    let before : List ℕ = if c.loop-member.is_first then [] else 44 ∷ [] in
    number_next c.args.members.now c.member-item.result c.loop-member.member-index before (string_bytes c.loop-member.text)
    (string_bytes c.push_number.new.text) c.loop-member-test.true c.member-item.is c.in_ok-push_number.ensures ∙ c.loop-member.invariant

pub returns : goal.returns
returns c =
    let members = c.args.members.now in
    let before : List ℕ = if c.loop-member.is_first then [] else 44 ∷ [] in
    sym (append-nil (string_bytes c.loop-member.text))
    ∙ ap (λ t. string_bytes c.loop-member.text ++ t) (sym (numbers_done members c.loop-member.member-index before (omega (
      arith,
      c.loop-member-test.false,
    ))))
    ∙ c.loop-member.invariant
    ∙ ap (λ t. string_bytes c.args.text.now ++ t) (sym (joined_is (map (λ member. decimal member.0) (named_by members))))
