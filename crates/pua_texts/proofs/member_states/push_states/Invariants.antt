use Rattle.pua_texts.proofs.Common.{◌≡◌, ◌++◌, string_bytes}
use Rattle.pua_texts.proofs.MembersNext.{states_left}
use Rattle.pua_texts.proofs.member_states.push_states.Given as goal

-- the states so far are added, and the others are still to come
abbrev pub invariant-loop-member : goal.invariant-loop-member
invariant-loop-member g l = string_bytes l.text ++ states_left l.rules (g.T.FileTree.content l.tree) l.members l.member-index
    ≡ string_bytes l.fn.text ++ states_left l.rules (g.T.FileTree.content l.tree) l.members 0
