use Rattle.pua_audit.proofs.Common.{calls_of, word_of}
use Rattle.pua_audit.proofs.Coming.{taken_ready, taken_left}
use Rattle.pua_audit.proofs.pairs.Pairs.later_calls.Goals as goal

pub returns-clause-ready : goal.returns-clause-ready
returns-clause-ready c = λ ready. let got = c.take_calls.ensures in
    taken_ready c.args.self.now ready c.take_calls.new.self got.same (got.ready ready.walk) (λ i. (got.word i).items) (calls_of c.take_calls.result)
    got.pairs

pub returns-clause-word : goal.returns-clause-word
returns-clause-word c = λ i. word_of c.args.self.now.terms.letters (c.take_calls.ensures.word i).items

pub returns-clause-left : goal.returns-clause-left
returns-clause-left c = λ ready. let got = c.take_calls.ensures in
    taken_left c.args.self.now ready c.take_calls.new.self got.same (got.ready ready.walk) (λ i. (got.word i).items) (calls_of c.take_calls.result)
    got.pairs
