use Rattle.pua_tree.proofs.Common.{◌≡◌, false, ◌<◌, ◌≤◌, length, Some, sym, ap, ◌∙◌, arith, has_byte, name_of_bytes}
use Rattle.pua_tree.proofs.NameFields.{name_of-slash, name_of-long, front_written}
use Rattle.pua_tree.proofs.name.LentName.read_escaped.Goals as goal

pub returns-then-contains : goal.returns-then-contains
returns-then-contains c =
    let read = c.in-Some.ensures in
    sym (name_of-slash c.args.spelling.now read.0 read.1 (sym c.contains.ensures.value ∙ c.if-contains.true))

pub returns-then-len-gt-MOST : goal.returns-then-len-gt-MOST
returns-then-len-gt-MOST c =
    let read = c.in-Some.ensures in
    let no_slash : has_byte 47 c.args.spelling.now ≡ false = sym c.contains.ensures.value ∙ c.if-contains.false in
    let long : 255 < length read.0 = omega (arith, read.2) in
    sym (name_of-long c.args.spelling.now read.0 read.1 no_slash long)

pub returns : goal.returns
returns c =
    let read = c.in-Some.ensures in
    let short : length read.0 ≤ 255 = omega (arith, read.2) in
    let same = ap (λ bytes. name_of_bytes (Some bytes)) (front_written read.0 c.unspell_into.new.room c.in-Some.len read.2 short read.3) ∙
    ap name_of_bytes (sym read.1) in
    rw same at c.judged.ensures
