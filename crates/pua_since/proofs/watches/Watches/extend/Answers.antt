use Rattle.pua_since.proofs.Common.{◌≡◌, ◌<◌, true, false, Some, ap, length, arith, rules, slice_get, slice_get_within, IsSameTopic}
use Rattle.std.proofs.lemmas.Option.{slice_get_read}
use Rattle.pua_since.proofs.Topics.{kept_by_set, topic_by_set}
use Rattle.pua_since.proofs.Handing.{wanted_by_set}
use Rattle.pua_since.proofs.watches.Watches.extend.Goals as goal

pub returns-in-Some-clause-place : goal.returns-in-Some-clause-place
returns-in-Some-clause-place c =
    let items = c.args.self.now.watches.items in
    let here : slice_get items c.args.place ≡ Some c.in-Some.watch.now = search (rules, slice_get_read) in
    let same : IsSameTopic c.in-Some.watch.now c.extend.new.self = record {
      process = ap (λ watch. watch.process) c.extend.ensures;
      question = ap (λ watch. watch.question) c.extend.ensures;
      wanted = omega (arith, ap (λ watch. watch.last) c.extend.ensures);
    } in
    λ process question before topic. topic_by_set items c.args.place c.in-Some.watch.now c.extend.new.self here same process question
    before c.args.last (omega (arith, ap (λ watch. watch.last) c.extend.ensures)) topic

-- what is watched stays so where it is wanted longer
pub returns-in-Some-clause-watched : goal.returns-in-Some-clause-watched
returns-in-Some-clause-watched c = λ table w left watched.
    let items = c.args.self.now.watches.items in
    let here : slice_get items c.args.place ≡ Some c.in-Some.watch.now = search (rules, slice_get_read) in
    record {
      forks = watched.forks;
      each = wanted_by_set table w left items c.args.place c.in-Some.watch.now c.extend.new.self c.args.last here c.extend.ensures
          watched.each;
    }

pub returns-in-Some-clause-kept : goal.returns-in-Some-clause-kept
returns-in-Some-clause-kept c =
    let items = c.args.self.now.watches.items in
    let here : slice_get items c.args.place ≡ Some c.in-Some.watch.now = search (rules, slice_get_read) in
    kept_by_set items c.args.place c.in-Some.watch.now c.extend.new.self here record {
      process = ap (λ watch. watch.process) c.extend.ensures;
      question = ap (λ watch. watch.question) c.extend.ensures;
      wanted = omega (arith, ap (λ watch. watch.last) c.extend.ensures);
    }

-- where there is a question there is a place
pub returns-in_default-clause-place : goal.returns-in_default-clause-place
returns-in_default-clause-place c = λ process question before topic.
    let within : c.args.place < length c.args.self.now.watches.items =
    slice_get_within c.args.self.now.watches.items c.args.place topic.watch topic.stands in
    let no : false ≡ true = c.in_default.ensures.variant.1 (search (rules, within)) in cc
