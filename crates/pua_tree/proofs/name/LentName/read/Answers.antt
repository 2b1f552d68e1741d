use Rattle.pua_tree.proofs.Common.{◌≡◌, ◌<◌, ◌≤◌, false, length, arith, sym, ◌∙◌, ◌||◌, [], ◌∷◌, same_bytes}
use Rattle.pua_tree.proofs.PlainNames.{plain_name, name_of-plain, name_of-plain-long}
use Rattle.pua_tree.proofs.VisibleFields.{some_byte}
use Rattle.pua_tree.proofs.name.LentName.read.Goals as goal

pub returns-then-spelling-gt-MOST : goal.returns-then-spelling-gt-MOST
returns-then-spelling-gt-MOST c = name_of-plain-long c.args.spelling.now (sym c.are_plain_in_name.ensures ∙ c.if-not-are_plain_in_name.false) c.if-spelling-gt-MOST.true

pub invariant_of-result : goal.invariant_of-result
invariant_of-result c =
    let text = c.args.spelling.now in
    let some : 0 < length text = some_byte text (sym c.is_empty.ensures ∙ c.if-is_empty.false) in
    let short : length text ≤ 255 = omega (arith, c.if-spelling-gt-MOST.false) in
    let dots : (same_bytes text (46 ∷ []) || same_bytes text (46 ∷ 46 ∷ [])) ≡ false = sym c.are_dots.ensures ∙ c.if-are_dots.false in
    record { name = plain_name text (sym c.are_plain_in_name.ensures ∙ c.if-not-are_plain_in_name.false) some short dots }

pub returns : goal.returns
returns c =
    let text = c.args.spelling.now in
    let some : 0 < length text = some_byte text (sym c.is_empty.ensures ∙ c.if-is_empty.false) in
    let short : length text ≤ 255 = omega (arith, c.if-spelling-gt-MOST.false) in
    let dots : (same_bytes text (46 ∷ []) || same_bytes text (46 ∷ 46 ∷ [])) ≡ false = sym c.are_dots.ensures ∙ c.if-are_dots.false in
    name_of-plain text (sym c.are_plain_in_name.ensures ∙ c.if-not-are_plain_in_name.false) some short (plain_name text (sym c.are_plain_in_name.ensures ∙ c.if-not-are_plain_in_name.false) some short dots)
