-- What the code keeps of a process to tell what lets calls through, and the columns that it makes row by row.
use Rattle.std.specs.Prelude.{◌≡◌, ℕ, List, [], ◌∷◌, ◌++◌, Option, Some, decimal, string_bytes, unwrap_or}
use Rattle.std.specs.List.{AllZip}
use Rattle.pua_tree.specs.Tree.{Tree}
use Rattle.pua_calls.specs.CallSets.{has}
use Rattle.pua_calls.specs.Promises.{holds}
use Rattle.pua_calls.specs.declared.call.Call.{Call}
use Rattle.pua_calls.specs.Calls.{rule_of}
use Rattle.pua_calls.specs.TmpTable.{tmp_table}
use Rattle.pua_policy.specs.States.{ProcessState, held_set, veils}
use Rattle.pua_policy.specs.declared.place.Place.{Place}
use Rattle.pua_why.specs.Texts.{letters_text, place_text}
use Rattle.pua_ever.specs.Comings.{AreComings, IsTaking}
use Rattle.pua_ever.specs.Ever.{Thing}
use Rattle.pua_ever.specs.EverLines.{line_with}
use Rattle.pua_ever.specs.EverList.{thing_of}
use Rattle.pua_ever.specs.declared.lasting_list.ExecBound.{ExecBound}
use Rattle.pua_ever.specs.declared.list.EverRow.{EverRow}
use Rattle.pua_texts.specs.Lines.{with_end}
use Rattle.pua_texts.specs.WhyLines.{ServedScript, world_left}
use Rattle.pua_tool.specs.EverWhyTexts.{column_by, given_by, kept_text}
use Rattle.pua_tool.specs.declared.ever_columns.Kept.{Kept}
use Rattle.pua_tool.specs.declared.ever_columns.Reasons.{Reasons}

-- a blank, where a veil is, its letters, and since which line it has them
abbrev pub dated_text : Tree → Place → ℕ → Option ℕ → List ℕ
dated_text t at given line = 32 ∷ place_text t at ++ 32 ∷ letters_text given ++ 32 ∷ decimal (unwrap_or line 0)

-- a veil of a process with this number, its text, the calls that its letters let through, and where things come to stand under it, as the
-- table with `tmppath` has it
pub record IsKept (p : ServedScript) (process : ℕ) (holder : ProcessState) (veil : Place × ℕ) (kept : Kept) : Type 0 where
  pub place : kept.place.now ≡ veil.0
  pub lets : (call : Call) → has kept.lets call ≡ holds veil.1 (rule_of (tmp_table p.table) call).perms
  pub taking : IsTaking (world_left p).tree holder veil.0 kept.taking
  pub text : string_bytes kept.text ≡ kept_text p process veil

pub record AreReasons (p : ServedScript) (process : ℕ) (h holder : ProcessState) (execs : ExecBound) (reasons : Reasons) : Type 0 where
  pub held : reasons.held ≡ held_set h
  pub given : reasons.given ≡ given_by (tmp_table p.table) h execs
  pub comings : AreComings (world_left p).tree (tmp_table p.table) holder reasons.comings
  pub veils : AllZip (IsKept p process holder) (veils h) reasons.veils.items

-- texts are the columns of rows, each with its LF
abbrev pub IsTextOf : ServedScript → ℕ → ProcessState → ProcessState → ExecBound → EverRow → List ℕ → Type 0
IsTextOf p process h holder execs row text =
    (about : Thing) → thing_of (world_left p).tree row ≡ Some about
    → text ≡ with_end (column_by p process h holder execs (line_with [] about row.line))

abbrev pub AreTexts : ServedScript → ℕ → ProcessState → ProcessState → ExecBound → List EverRow → List (List ℕ) → Type 0
AreTexts p process h holder execs rows texts = AllZip (IsTextOf p process h holder execs) rows texts
