use Rattle.pua_texts.proofs.Common.{◌∙◌, string_bytes}
use Rattle.pua_texts.proofs.MembersNext.{state_next}
use Rattle.pua_texts.proofs.member_states.push_states.Goals as goal

pub loop-member-preserved : goal.loop-member-preserved
loop-member-preserved g c =
    state_next c.args.rules (g.T.FileTree.content c.args.tree.now) c.args.members.now c.member-item.result c.loop-member.member-index (string_bytes c.loop-member.text)
    (string_bytes c.push_state.new.text) c.loop-member-test.true c.member-item.is c.in_ok-push_state.ensures ∙ c.loop-member.invariant
