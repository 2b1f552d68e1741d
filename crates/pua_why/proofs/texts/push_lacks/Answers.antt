use Rattle.pua_why.proofs.Common.{false, ◌++◌, ◌+◌, [], ap, sym, ◌∙◌, drop, string_bytes, arith, codes, if◌then◌else◌, lacking}
use Rattle.pua_why.proofs.Common.{promises_text}
use Rattle.pua_why.proofs.Joining.{rest, joined_is, lack_next, lack_words, lacks_done}
use Rattle.pua_why.proofs.texts.push_lacks.Goals as goal

pub loop-set-init : goal.loop-set-init
loop-set-init c = ap (λ t. string_bytes c.args.text.now ++ t) (joined_is (codes ", ") (lack_words c.args.held c.args.sets.now))

pub loop-set-preserved : goal.loop-set-preserved
loop-set-preserved c =
    c.loop-set.invariant
    ∙ lack_next (codes ", ") (string_bytes c.loop-set.text) c.loop-set.is_first c.args.held c.args.sets.now c.loop-set.set-index
    c.set-item.result c.loop-set-test.true
    ∙ ap (λ t. t ++ rest (codes ", ") false (lack_words c.args.held (drop (c.loop-set.set-index + 1) c.args.sets.now)))
    (ap (λ lack. string_bytes c.loop-set.text ++ ((if c.loop-set.is_first then [] else codes ", ") ++ (codes "no " ++ promises_text lack)))
    (ap (lacking c.args.held) (sym c.set-item.is) ∙ sym c.without.ensures)
    ∙ sym c.in_ok-push_lack.ensures)

pub returns : goal.returns
returns c =
    sym (c.loop-set.invariant ∙ lacks_done (codes ", ") (string_bytes c.loop-set.text) c.loop-set.is_first c.args.held c.args.sets.now
    c.loop-set.set-index (omega (arith, c.loop-set-test.false)))
