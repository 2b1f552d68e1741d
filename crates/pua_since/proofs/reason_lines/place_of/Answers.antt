use Rattle.pua_since.proofs.Common.{◌∙◌, sym, bytes_decides, IsRequestAt}
use Rattle.indexmap.proofs.CallerLemmas.{insert_entry-new}
use Rattle.pua_since.proofs.Keeping.{asked_at}
use Rattle.pua_since.proofs.Known.{found_request, known_kept, known_more, request_wanted}
use Rattle.pua_since.proofs.reason_lines.place_of.Goals as goal

pub returns-in-Some-clause-place : goal.returns-in-Some-clause-place
returns-in-Some-clause-place g c rules n known read =
    let at : IsRequestAt c.args.watches.now.watches.items c.in-Some.place.now c.args.request.now 0 =
    found_request rules c.args.watches.now.watches.items _ c.args.line.now (λ other passes. (bytes_decides c.args.line.now other.now).0 passes)
    c.args.known.now.entries c.in-Some.place.now n c.args.request.now known (sym c.in-Some.ensures.value) read in
    record { question = at.question; stands = c.extend.ensures.place c.args.request.now.process at.question 0 at.stands; asks = at.asks }

pub returns-in-Some-clause-known : goal.returns-in-Some-clause-known
returns-in-Some-clause-known g c rules n known read =
    known_kept rules c.args.watches.now.watches.items c.extend.new.self.watches.items c.extend.ensures.kept c.args.known.now.entries known

pub returns-clause-known : goal.returns-clause-known
returns-clause-known g c rules n known read =
    let at : IsRequestAt c.add.new.self.watches.items c.in_ok-place.place c.args.request.now c.args.done =
    asked_at c.add.new.self.watches.items c.in_ok-place.place c.process.result c.action.result c.args.request.now c.args.done
    c.process.ensures.process c.action.ensures.action c.in_ok-place.ensures.place in
    known_more rules c.add.new.self.watches.items c.args.known.now.entries c.insert.new.self.entries c.args.line c.in_ok-place.place n
    c.args.request.now
    (c.in_ok-insert.ensures.entries ∙ insert_entry-new _ c.args.known.now c.args.line c.in_ok-place.place (sym c.in_default.ensures.value))
    (known_kept rules c.args.watches.now.watches.items c.add.new.self.watches.items c.add.ensures.kept c.args.known.now.entries known) read
    (request_wanted _ _ _ c.args.done at)
