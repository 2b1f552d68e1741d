use Rattle.pua_calls.proofs.Common.{ap, length, sym}
use Rattle.pua_calls.specs.Calls.{about}
use Rattle.pua_calls.specs.Facts.{seen_facts}
use Rattle.pua_calls.proofs.FactRows.{row_of, line_of, standard_below, openbsd_below, other_below, perms_below}
use Rattle.pua_calls.proofs.call.Call.facts.Goals as goal

pub returns-clause-name : goal.returns-clause-name
returns-clause-name c = ap (λ said. said.name) (row_of seen_facts about _ _ c.args.self _ c.number.ensures c.all_facts-rows.ensures.about)

pub returns-clause-standard : goal.returns-clause-standard
returns-clause-standard c = sym (ap (λ said. said.standard) (row_of seen_facts about _ _ c.args.self _ c.number.ensures c.all_facts-rows.ensures.about))

pub returns-clause-openbsd : goal.returns-clause-openbsd
returns-clause-openbsd c = sym (ap (λ said. said.openbsd) (row_of seen_facts about _ _ c.args.self _ c.number.ensures c.all_facts-rows.ensures.about))

pub returns-clause-perms : goal.returns-clause-perms
returns-clause-perms c = ap (λ said. said.perms) (row_of seen_facts about _ _ c.args.self _ c.number.ensures c.all_facts-rows.ensures.about)

pub returns-clause-last : goal.returns-clause-last
returns-clause-last c = ap (λ said. said.last) (row_of seen_facts about _ _ c.args.self _ c.number.ensures c.all_facts-rows.ensures.about)

pub returns-clause-ending : goal.returns-clause-ending
returns-clause-ending c = ap (λ said. said.ending) (row_of seen_facts about _ _ c.args.self _ c.number.ensures c.all_facts-rows.ensures.about)

pub returns-clause-fits : goal.returns-clause-fits
returns-clause-fits c = ap (λ said. said.fits) (row_of seen_facts about _ _ c.args.self _ c.number.ensures c.all_facts-rows.ensures.about)

pub returns-clause-effect : goal.returns-clause-effect
returns-clause-effect c = ap (λ said. said.effect) (row_of seen_facts about _ _ c.args.self _ c.number.ensures c.all_facts-rows.ensures.about)

pub returns-clause-turns : goal.returns-clause-turns
returns-clause-turns c = ap (λ said. said.turns) (row_of seen_facts about _ _ c.args.self _ c.number.ensures c.all_facts-rows.ensures.about)

pub returns-clause-line : goal.returns-clause-line
returns-clause-line c = line_of _ _ c.args.self _ c.number.ensures c.all_facts-rows.ensures.about c.all_facts-rows.ensures.line

pub returns-clause-width : goal.returns-clause-width
returns-clause-width c = row_of (λ row. length row.line.now) (λ _. 16) _ _ c.args.self _ c.number.ensures c.all_facts-rows.ensures.width

pub returns-clause-standard_below : goal.returns-clause-standard_below
returns-clause-standard_below c = standard_below c.args.self _ (sym (ap (λ said. said.standard) (row_of seen_facts about _ _ c.args.self _ c.number.ensures c.all_facts-rows.ensures.about)))

pub returns-clause-openbsd_below : goal.returns-clause-openbsd_below
returns-clause-openbsd_below c = openbsd_below c.args.self _ _ (sym (ap (λ said. said.openbsd) (row_of seen_facts about _ _ c.args.self _ c.number.ensures c.all_facts-rows.ensures.about)))

pub returns-clause-other_below : goal.returns-clause-other_below
returns-clause-other_below c = other_below c.args.self _ _ (sym (ap (λ said. said.openbsd) (row_of seen_facts about _ _ c.args.self _ c.number.ensures c.all_facts-rows.ensures.about)))

pub returns-clause-perms_below : goal.returns-clause-perms_below
returns-clause-perms_below c = perms_below c.args.self _ (ap (λ said. said.perms) (row_of seen_facts about _ _ c.args.self _ c.number.ensures c.all_facts-rows.ensures.about))
