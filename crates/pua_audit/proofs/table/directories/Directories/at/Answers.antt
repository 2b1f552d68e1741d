use Rattle.pua_audit.proofs.Common.{◌≤◌, length, get_or, rules, sym, ap, subst, ◌∙◌, DirectoriesState}
use Rattle.std.proofs.lemmas.Option.{get_or_from_slice_get}
use Rattle.pua_audit.proofs.DirectoryPlaces.{few_numbers}
use Rattle.pua_audit.proofs.table.directories.Directories.at.Goals as goal

pub returns-in_err-number-clause-few : goal.returns-in_err-number-clause-few
returns-in_err-number-clause-few c =
    subst (λ (d : DirectoriesState). length d.numbers ≤ 4294967296) c.self.view_is (few_numbers c.self.inside.numbers.keys c.self.invariant)

pub returns-clause-within : goal.returns-clause-within
returns-clause-within c =
    let there = get_or_from_slice_get c.self.inside.numbers.keys c.args.place c.in_ok-number.number.now 0 (sym c.in_ok-number.ensures.key)
    in
    search rules

pub returns-clause-dir : goal.returns-clause-dir
returns-clause-dir c =
    c.new.ensures ∙ sym (get_or_from_slice_get c.self.inside.numbers.keys c.args.place c.in_ok-number.number.now 0
    (sym c.in_ok-number.ensures.key)) ∙ ap (λ (d : DirectoriesState). get_or d.numbers c.args.place 0) c.self.view_is

pub returns-clause-few : goal.returns-clause-few
returns-clause-few c =
    subst (λ (d : DirectoriesState). length d.numbers ≤ 4294967296) c.self.view_is (few_numbers c.self.inside.numbers.keys c.self.invariant)
