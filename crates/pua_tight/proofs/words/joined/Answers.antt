use Rattle.pua_tight.proofs.KeptWords.{joined_next}
use Rattle.pua_tight.proofs.words.joined.Goals as goal

pub loop-word-preserved : goal.loop-word-preserved
loop-word-preserved c =
    joined_next (λ word. word.now) c.args.between c.loop-word.word-index c.args.words.now c.in-Some.first.now c.in-Some.more.now _ _ _ _
    c.in-Some.ensures.cases.0 c.loop-word-test.true c.loop-word.invariant c.in_ok-push.ensures.items c.in_ok-extend_from_slice-2.ensures.items
