-- The text of the list for ever of a process, and what refuses it.
use Rattle.std.specs.Prelude.{ℕ, List, ◌++◌, Option, Some, None, Result, Ok, Err, ok_or}
use Rattle.pua_tree.specs.Steps.{◌>>=◌}
use Rattle.pua_calls.specs.TmpTable.{tmp_table}
use Rattle.pua_calls.specs.declared.rules.Rules.{Rules}
use Rattle.pua_script.specs.Replay.{kept_at}
use Rattle.pua_ever.specs.Refusals.{refusal}
use Rattle.pua_ever.specs.declared.refusal.EverRefusal.{EverRefusal}
use Rattle.pua_ever.specs.declared.refusal.EverRefusal.TheVariants as refused
use Rattle.pua_tool.specs.Texts.{Chosen, Replayed, replay_of}
use Rattle.pua_texts.specs.Lines.{answer_lines}
use Rattle.pua_tool.specs.declared.fault.ToolFault.{ToolFault}
use Rattle.pua_tool.specs.declared.fault.ToolFault.TheVariants.{NoProcess, CanUnveil, LacksC, RenameLacksC, LinkLacksC}
use Rattle.pua_texts.specs.EverLines.{ever_list}

-- why there is no list for ever of the process with this number
abbrev pub ever_fault : ℕ → EverRefusal → ToolFault
ever_fault process refused.CanUnveil = CanUnveil process
ever_fault process (refused.LacksC call) = LacksC call
ever_fault process refused.RenameLacksC = RenameLacksC
ever_fault process refused.LinkLacksC = LinkLacksC

-- a text, unless there is a reason for none
abbrev pub unless_reason : ℕ → Option EverRefusal → List ℕ → Result (List ℕ) ToolFault
unless_reason process None text = Ok text
unless_reason process (Some reason) text = Err (ever_fault process reason)

-- the answers, and then the list for ever of a process, or what refuses it: it was never made, or there is a reason for none. The list
-- goes by the table that has `tmppath` as one more set of some calls, which gives the same reasons
abbrev pub ever_after : Rules → Replayed → ℕ → Result (List ℕ) ToolFault
ever_after rules done process =
    ok_or (kept_at done.world process) NoProcess
    >>= λ h. unless_reason process (refusal done.table h)
    (answer_lines 1 done.answers ++ ever_list rules (tmp_table done.table) done.world.tree process h)

-- the list for ever of a process at the end of a script over a listing, or the first fault: the table's, the listing's,
-- the script's, a process never made, or a reason for no list
unfoldable pub ever_text : Chosen → List ℕ → List ℕ → ℕ → Result (List ℕ) ToolFault
ever_text choice tree_bytes script_bytes process = replay_of choice tree_bytes script_bytes >>= λ done. ever_after choice.rules done process
