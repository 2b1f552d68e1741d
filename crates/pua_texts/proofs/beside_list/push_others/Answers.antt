use Rattle.pua_texts.proofs.Common.{◌++◌, ◌∙◌, sym, ap, map, append-nil, append_assoc, codes, string_bytes, with_commas}
use Rattle.std.specs.Prelude.{decimal}
use Rattle.pua_texts.specs.Members.{named_by}
use Rattle.pua_texts.proofs.BesideList.{nobody_named, somebody_named}
use Rattle.pua_texts.proofs.Outcomes.{ok_text}
use Rattle.pua_texts.proofs.beside_list.push_others.Goals as goal

pub returns-then-is_empty : goal.returns-then-is_empty
returns-then-is_empty c =
    let old = string_bytes c.args.text.now in
    sym (append-nil old)
    ∙ ap (λ t. old ++ t) (sym (nobody_named c.args.others.now (sym c.is_empty.ensures ∙ c.if-is_empty.true)))

pub returns : goal.returns
returns c =
    let old = string_bytes c.args.text.now in
    let numbers = with_commas (map (λ member. decimal member.0) (named_by c.args.others.now)) in
    ok_text c.push_numbers.result (string_bytes c.push_numbers.new.text)
    (ap (λ t. t ++ numbers) c.in_ok-push_str.ensures.bytes
    ∙ append_assoc old (codes " beside ") numbers
    ∙ ap (λ t. old ++ t) (somebody_named c.args.others.now (sym c.is_empty.ensures ∙ c.if-is_empty.false)))
    c.push_numbers.ensures
