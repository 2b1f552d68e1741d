-- The text of the list for ever of a process with what lets the calls of each line through, and what refuses it.
use Rattle.std.specs.Prelude.{ℕ, Bool, ◌&&◌, ◌||◌, List, [], ◌∷◌, ◌++◌, bit_or, codes, filter, find, flat_map, map, Option, Some, None, Result, ok_or, unwrap_or}
use Rattle.std.specs.List.{list_any}
use Rattle.pua_tree.specs.Steps.{◌>>=◌}
use Rattle.pua_calls.specs.Calls.{CallTable, rule_of}
use Rattle.pua_calls.specs.TmpTable.{tmp_table}
use Rattle.pua_calls.specs.Promises.{holds}
use Rattle.pua_calls.specs.declared.call.Call.{Call}
use Rattle.pua_calls.specs.declared.rules.Rules.{Rules}
use Rattle.pua_policy.specs.States.{Locked, ProcessState, held_set, same_place, state_after, veils, with_both}
use Rattle.pua_policy.specs.declared.place.Place.{Place}
use Rattle.pua_policy.specs.declared.reason.Covering.TheVariants.{By}
use Rattle.pua_script.specs.Replay.{kept_at}
use Rattle.pua_why.specs.Columns.{veil_columns}
use Rattle.pua_why.specs.Texts.{promises_text}
use Rattle.pua_ever.specs.Comings.{places_on}
use Rattle.pua_ever.specs.Ever.{EverLine}
use Rattle.pua_ever.specs.Refusals.{refusal}
use Rattle.pua_ever.specs.ShownForEver.{shown_lasting, execs_shown}
use Rattle.pua_ever.specs.Through.{bound_of}
use Rattle.pua_ever.specs.declared.lasting_list.ExecBound.{ExecBound}
use Rattle.pua_ever.specs.declared.lasting_list.ExecBound.TheVariants.{Never, Bounded, Open}
use Rattle.pua_texts.specs.EverHowLines.{ever_list_with}
use Rattle.pua_texts.specs.Lines.{with_end}
use Rattle.pua_texts.specs.WhyLines.{ServedScript, world_left}
use Rattle.pua_tool.specs.EverTexts.{unless_reason}
use Rattle.pua_tool.specs.Texts.{Chosen}
use Rattle.pua_tool.specs.WhyTexts.{served_script, reason_lines}
use Rattle.pua_tool.specs.declared.fault.ToolFault.{ToolFault}
use Rattle.pua_tool.specs.declared.fault.ToolFault.TheVariants.{NoProcess}

-- what the programs of a family hold, where all that it starts is bounded; else what the process holds
abbrev pub given_by : CallTable → ProcessState → ExecBound → ℕ
given_by table h Bounded = unwrap_or (bound_of table h) (held_set h)
given_by table h Never = held_set h
given_by table h Open = held_set h

-- who holds what a list for ever rests on: where it is one through execs, who holds what the process and those programs hold
abbrev pub with_given : ProcessState → Option ℕ → ProcessState
with_given h (Some given) = state_after Locked (with_both h given)
with_given h None = h

abbrev pub holder_by : CallTable → ProcessState → ExecBound → ProcessState
holder_by table h Bounded = with_given h (bound_of table h)
holder_by table h Never = h
holder_by table h Open = h

-- the promises on which calls rest: of each call the first set that the process holds, or the programs that it starts
abbrev pub let_by_one : ℕ → ℕ → List ℕ → ℕ
let_by_one held given sets = unwrap_or (find (λ set. holds held set || holds given set) sets) 0

abbrev pub rests_on : CallTable → ℕ → ℕ → List Call → ℕ
rests_on table held given [] = 0
rests_on table held given (call ∷ calls) =
    bit_or (let_by_one held given (rule_of table call).alternatives) (rests_on table held given calls)

-- letters let one of these calls through
abbrev pub lets_some : CallTable → ℕ → List Call → Bool
lets_some table perms calls = list_any (λ call. holds perms (rule_of table call).perms) calls

-- a veil is told: it is at one of these places, and lets one of the calls through
abbrev pub is_told : CallTable → List Place → List Call → Place × ℕ → Bool
is_told table places calls veil = list_any (same_place veil.0) places && lets_some table veil.1 calls

-- a veil that a process keeps at the end of a script: its place, its letters, and since which line it has them
abbrev pub kept_text : ServedScript → ℕ → Place × ℕ → List ℕ
kept_text p process veil = 32 ∷ veil_columns p.table p.world p.asks process (By veil.0 veil.1)

-- each of these veils that is told; three dashes where none is
abbrev pub told_of : ServedScript → ℕ → List Place → List Call → List (Place × ℕ) → List ℕ
told_of p process places calls vs = flat_map (kept_text p process) (filter (is_told (tmp_table p.table) places calls) vs)

abbrev pub or_dashes : List ℕ → List ℕ
or_dashes [] = codes " - - -"
or_dashes (b ∷ more) = b ∷ more

abbrev pub veils_told : ServedScript → ℕ → List (Place × ℕ) → List Place → List Call → List ℕ
veils_told p process vs places calls = or_dashes (told_of p process places calls vs)

-- what stands behind the calls of a line: the promises on which they rest, and each veil under which its thing can come to stand and
-- that lets one of the calls through, by the table with `tmppath`, as the list goes
abbrev pub column_on : ServedScript → ℕ → ProcessState → ExecBound → List Place → List Call → List ℕ
column_on p process h execs places calls =
    (32 ∷ promises_text (rests_on (tmp_table p.table) (held_set h) (given_by (tmp_table p.table) h execs) calls))
    ++ veils_told p process (veils h) places calls

abbrev pub column_by : ServedScript → ℕ → ProcessState → ProcessState → ExecBound → EverLine → List ℕ
column_by p process h holder execs line =
    column_on p process h execs (places_on (world_left p).tree (tmp_table p.table) holder line.thing) line.calls

abbrev pub ever_column : ServedScript → ℕ → ProcessState → EverLine → List ℕ
ever_column p process h line = by (execs_shown (world_left p).tree (tmp_table p.table) h)
  where
    by : ExecBound → List ℕ
    by execs = column_by p process h (holder_by (tmp_table p.table) h execs) execs line

-- the list for ever of a process, which goes by the table with `tmppath`, and behind the calls of each line its column
abbrev pub ever_why_list : Rules → ServedScript → ℕ → ProcessState → List ℕ
ever_why_list rules p process h =
    ever_list_with rules (tmp_table p.table) (world_left p).tree process h
    (map (λ line. (line, with_end (ever_column p process h line))) (shown_lasting (world_left p).tree (tmp_table p.table) h))

-- the lines of a script with reasons, and then such a list, or what refuses it: the process was never made, or there is a reason for none
abbrev pub ever_why_after : Rules → ServedScript → ℕ → Result (List ℕ) ToolFault
ever_why_after rules p process =
    ok_or (kept_at (world_left p) process) NoProcess
    >>= λ h. unless_reason process (refusal p.table h) (reason_lines p ++ ever_why_list rules p process h)

unfoldable pub ever_why_text : Chosen → List ℕ → List ℕ → ℕ → Result (List ℕ) ToolFault
ever_why_text choice tree_bytes script_bytes process =
    served_script choice tree_bytes script_bytes >>= λ p. ever_why_after choice.rules p process
