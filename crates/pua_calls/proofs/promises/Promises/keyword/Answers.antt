use Rattle.pua_calls.proofs.Common.{◌≡◌, ◌≤◌, ◌∙◌, sym, ap, length, rules, tests, Some}
use Rattle.std.proofs.Common.{option_map}
use Rattle.std.specs.Prelude.{slice_get}
use Rattle.std.proofs.lemmas.Option.{slice_get_read}
use Rattle.pua_calls.proofs.Keywords.{keyword_past, keyword_there}
use Rattle.pua_calls.proofs.promises.Promises.keyword.Goals as goal

-- src/promises.rt:338:20
pub returns-in_err-flag : goal.returns-in_err-flag
returns-in_err-flag c =
    let past : length c.flags.result.now ≤ c.args.index = c.in_err-flag.ensures.lookup.3 in
    ap (option_map (λ name. name.now)) c.from_residual.ensures
    ∙ sym (keyword_past (λ flag. (flag.name.now, flag.value.0)) c.flags.result.now c.args.self c.args.index (c.flags.ensures tt) past)

-- src/promises.rt:335:5
pub returns-then-contains : goal.returns-then-contains
returns-then-contains c =
    let there : slice_get c.flags.result.now c.args.index ≡ Some c.in_ok-flag.flag.now = search (rules, tests, slice_get_read) in
    let known : _ = keyword_there (λ flag. (flag.name.now, flag.value.0)) c.flags.result.now c.args.self c.args.index c.in_ok-flag.flag.now
    (c.flags.ensures tt) there in
    search (rules, tests)

-- src/promises.rt:335:5
pub returns-else-contains : goal.returns-else-contains
returns-else-contains c =
    let there : slice_get c.flags.result.now c.args.index ≡ Some c.in_ok-flag.flag.now = search (rules, tests, slice_get_read) in
    let known : _ = keyword_there (λ flag. (flag.name.now, flag.value.0)) c.flags.result.now c.args.self c.args.index c.in_ok-flag.flag.now
    (c.flags.ensures tt) there in
    search (rules, tests)
