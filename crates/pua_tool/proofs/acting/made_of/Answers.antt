use Rattle.pua_tool.proofs.Common.{◌∙◌, refl, sym, ap, arith, world_of, List}
use Rattle.pua_texts.specs.declared.members.Member.{Member}
use Rattle.pua_tool.proofs.ActingNext.{made_begin, made_behind, made_done, made_next, made_none}
use Rattle.pua_tool.proofs.acting.made_of.Goals as goal

pub loop-number-init : goal.loop-number-init
loop-number-init g c =
    ap (λ (members : List Member). made_behind (world_of c.args.world.now) members c.args.numbers.now) c.new-members.ensures.items
    ∙ made_begin (world_of c.args.world.now) c.args.numbers.now

pub loop-number-preserved : goal.loop-number-preserved
loop-number-preserved g c =
    made_next (world_of c.args.world.now) c.args.numbers.now c.loop-number.number-index _ c.loop-number-test.true c.loop-number.members.items _ _
    c.in_ok-push.ensures.items c.in-Some.ensures refl
    ∙ c.loop-number.invariant

pub returns-in_default-clause-refused : goal.returns-in_default-clause-refused
returns-in_default-clause-refused g c = λ other.
    sym (made_none (world_of c.args.world.now) c.args.numbers.now c.loop-number.number-index _ c.loop-number-test.true c.loop-number.members.items
    c.in_default.ensures
    ∙ c.loop-number.invariant)

pub returns-clause-made : goal.returns-clause-made
returns-clause-made g c =
    sym c.loop-number.invariant
    ∙ made_done (world_of c.args.world.now) c.args.numbers.now c.loop-number.number-index c.loop-number.members.items
    (omega (arith, c.loop-number-test.false))
