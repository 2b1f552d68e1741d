-- The text of what several processes can ever touch together, and what refuses it.
use Rattle.std.specs.Prelude.{ℕ, Bool, true, false, ◌&&◌, ◌==◌, List, [], ◌∷◌, ◌++◌, option_map, if◌then◌else◌, Option, Some, None}
use Rattle.std.specs.Prelude.{Result, Ok, Err, ok_or}
use Rattle.pua_tree.specs.Steps.{◌>>=◌}
use Rattle.pua_calls.specs.Calls.{CallTable}
use Rattle.pua_calls.specs.TmpTable.{tmp_table}
use Rattle.pua_calls.specs.declared.rules.Rules.{Rules}
use Rattle.pua_policy.specs.States.{ProcessState, perms_kept, veils}
use Rattle.pua_policy.specs.declared.place.Place.{Place}
use Rattle.pua_script.specs.Replay.{World, kept_at}
use Rattle.pua_ever.specs.Refusals.{refusal}
use Rattle.pua_ever.specs.declared.refusal.EverRefusal.{EverRefusal}
use Rattle.pua_words.specs.declared.command.Processes.{Processes}
use Rattle.pua_words.specs.declared.command.Processes.TheVariants.{One, Named, All}
use Rattle.pua_texts.specs.Lines.{answer_lines}
use Rattle.pua_texts.specs.TogetherLines.{living, together_list}
use Rattle.pua_tool.specs.Texts.{Chosen, Replayed, replay_of}
use Rattle.pua_tool.specs.EverTexts.{ever_fault}
use Rattle.pua_tool.specs.ObjectTexts.{numbers_of}
use Rattle.pua_tool.specs.declared.fault.ToolFault.{ToolFault}
use Rattle.pua_tool.specs.declared.fault.ToolFault.TheVariants.{NoProcess, OtherVeils}

-- the numbers that are asked for, or those of all processes that were ever made, in ascending order
abbrev pub numbers_in : World → Processes → List ℕ
numbers_in w (One process) = process ∷ []
numbers_in w (Named numbers) = numbers.items
numbers_in w All = numbers_of w

-- these numbers, each with what its process keeps, or that one was never made
abbrev pub all_made : World → List ℕ → Result (List (ℕ × ProcessState)) ToolFault
all_made w [] = Ok []
all_made w (process ∷ more) = ok_or (kept_at w process) NoProcess >>= λ h. all_made w more >>= λ rest. Ok ((process, h) ∷ rest)

-- why there is no list of a process, or else a later one's fault
abbrev pub refused_or : ℕ → Option EverRefusal → Option ToolFault → Option ToolFault
refused_or process (Some reason) later = Some (ever_fault process reason)
refused_or process None later = later

-- why there is no list of the first of them of which there is none
abbrev pub first_refused : CallTable → List (ℕ × ProcessState) → Option ToolFault
first_refused table [] = None
first_refused table (member ∷ more) = refused_or member.0 (refusal table member.1) (first_refused table more)

-- the letters that are kept at a place are these
abbrev pub are_kept : Option ℕ → ℕ → Bool
are_kept None perms = false
are_kept (Some kept) perms = kept == perms

abbrev pub keeps_all : ProcessState → List (Place × ℕ) → Bool
keeps_all h [] = true
keeps_all h (veil ∷ more) = are_kept (perms_kept h veil.0) veil.1 && keeps_all h more

-- the same places have veils, with the same letters, in any order
abbrev pub same_veils : ProcessState → ProcessState → Bool
same_veils g h = keeps_all h (veils g) && keeps_all g (veils h)

-- the first of them that has other veils
abbrev pub first_other : ProcessState → List (ℕ × ProcessState) → Option ℕ
first_other h [] = None
first_other h (member ∷ more) = if same_veils h member.1 then first_other h more else Some member.0

-- the first that lives, and the first behind it that lives and has other veils
abbrev pub other_veils : List (ℕ × ProcessState) → Option ToolFault
other_veils [] = None
other_veils (first ∷ more) = option_map (λ other. OtherVeils first.0 other) (first_other first.1 more)

-- why there is no list of these processes together
abbrev pub together_fault : CallTable → List (ℕ × ProcessState) → Option ToolFault
together_fault table members = by (first_refused table members)
  where
    by : Option ToolFault → Option ToolFault
    by (Some fault) = Some fault
    by None = other_veils (living members)

-- a text, unless there is a fault
abbrev pub unless_fault : Option ToolFault → List ℕ → Result (List ℕ) ToolFault
unless_fault None text = Ok text
unless_fault (Some fault) text = Err fault

-- the answers, and then the list for ever of these processes together, by the table with `tmppath`
abbrev pub together_lines : Rules → Replayed → List (ℕ × ProcessState) → List ℕ
together_lines rules done members = answer_lines 1 done.answers ++ together_list rules (tmp_table done.table) done.world.tree members

abbrev pub together_of : Rules → Replayed → List (ℕ × ProcessState) → Result (List ℕ) ToolFault
together_of rules done members = unless_fault (together_fault done.table members) (together_lines rules done members)

-- the answers, and then the list of the processes that are asked for, or what refuses it: one was never made, there is a reason
-- for no list of one, or two that live have other veils
abbrev pub together_after : Rules → Replayed → Processes → Result (List ℕ) ToolFault
together_after rules done which = all_made done.world (numbers_in done.world which) >>= λ members. together_of rules done members

-- the list for ever of several processes at the end of a script over a listing, or the first fault: the table's, the
-- listing's, the script's, or what refuses the list
unfoldable pub together_text : Chosen → List ℕ → List ℕ → Processes → Result (List ℕ) ToolFault
together_text choice tree_bytes script_bytes which =
    replay_of choice tree_bytes script_bytes >>= λ done. together_after choice.rules done which
