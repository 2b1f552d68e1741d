-- The text of a run and of an audit, and what refuses them.
use Rattle.std.specs.Prelude.{ℕ, List, ◌++◌, Option, Some, None, Result, Ok, Err, ok_or, map, option_map}
use Rattle.pua_tree.specs.Tree.{Tree}
use Rattle.pua_tree.specs.Listing.{listing}
use Rattle.pua_tree.specs.Steps.{◌>>=◌}
use Rattle.pua_tree.specs.declared.fault.ListingFault.{ListingFault}
use Rattle.std.specs.Borrow.{Bor}
use Rattle.pua_calls.specs.Calls.{CallTable, table_by_rules}
use Rattle.pua_calls.specs.TableTexts.{table_over}
use Rattle.pua_calls.specs.declared.rules.Rules.{Rules}
use Rattle.pua_calls.specs.declared.rules.Rules.TheVariants.{Standard}
use Rattle.pua_calls.specs.declared.table.read.TableFault.{TableFault}
use Rattle.pua_policy.specs.States.{ProcessState}
use Rattle.pua_script.specs.Requests.{Asked}
use Rattle.pua_script.specs.Scripts.{script_by}
use Rattle.pua_script.specs.Replay.{World, new_world, kept_at, world_after}
use Rattle.pua_script.specs.declared.fault.ScriptFault.{ScriptFault}
use Rattle.pua_why.specs.Openings.{ToldAnswer, told_to}
use Rattle.pua_audit.specs.Begin.{Beginning, beginning, still_to_come}
use Rattle.pua_audit.specs.declared.base.Base.{Base}
use Rattle.pua_audit.specs.declared.fault.AuditFault.{AuditFault}
use Rattle.pua_words.specs.declared.command.AuditWords.{AuditWords}
use Rattle.pua_tool.specs.declared.job.Job.{Job}
use Rattle.pua_tool.specs.declared.table.TableChoice.{TableChoice}
use Rattle.pua_tool.specs.declared.fault.ToolFault.{ToolFault}
use Rattle.pua_tool.specs.declared.fault.ToolFault.TheVariants.{Table, Listing, Script, NoProcess, Audit}
use Rattle.pua_texts.specs.Lines.{answer_lines, front_of, pair_lines}

-- what a whole audit is asked for, besides the texts of the table, the listing and the script
pub record Wanted : Type 0 where
  pub limit : ℕ
  pub process : ℕ
  pub base : Base
  pub after : Option (List ℕ)
  pub candidates : List (List ℕ)

abbrev pub wants_of : Job → Wanted
wants_of job = record {
  limit = job.limit;
  process = job.process;
  base = job.base;
  after = option_map (λ text. text.now) job.after;
  candidates = map (λ text. text.now) job.candidates.now;
}

-- what the words of an audit ask for
abbrev pub wanted_by : AuditWords → Wanted
wanted_by words = record {
  limit = words.limit;
  process = words.process;
  base = words.base;
  after = option_map (λ text. text.now) words.after;
  candidates = map (λ text. text.now) words.names.items;
}

-- the bytes of a text that may be given
abbrev pub given_bytes : Option (Bor (List ℕ)) → Option (List ℕ)
given_bytes text = option_map (λ text. text.now) text

abbrev pub as_table : Result CallTable TableFault → Result CallTable ToolFault
as_table (Ok table) = Ok table
as_table (Err fault) = Err (Table fault)

-- whose rules are gone by, and the text with rows in the place of theirs, where there is one
pub record Chosen : Type 0 where
  pub rules : Rules
  pub rows : Option (List ℕ)

-- the standard table, without a text
abbrev pub by_standard : Chosen
by_standard = record { rules = Standard; rows = None }

abbrev pub choice_of : TableChoice → Chosen
choice_of table = record { rules = table.rules; rows = given_bytes table.rows }

-- the standard rules, with a text
abbrev pub by_profile : Option (List ℕ) → Chosen
by_profile text = record { rules = Standard; rows = text }

-- what the job of an audit chooses by these rules
abbrev pub by_job : Rules → Job → Chosen
by_job rules job = record { rules = rules; rows = given_bytes job.table }

-- a table with the rows that a text gives over it, or the text's fault
abbrev pub with_rows : CallTable → Option (List ℕ) → Result CallTable ToolFault
with_rows base None = Ok base
with_rows base (Some text) = as_table (table_over base text)

-- the table that is gone by, or the fault of its text
abbrev pub table_by : Chosen → Result CallTable ToolFault
table_by choice = with_rows (table_by_rules choice.rules) choice.rows

abbrev pub as_listing : Result Tree ListingFault → Result Tree ToolFault
as_listing (Ok t) = Ok t
as_listing (Err fault) = Err (Listing fault)

abbrev pub as_script : Result (List Asked) ScriptFault → Result (List Asked) ToolFault
as_script (Ok asks) = Ok asks
as_script (Err fault) = Err (Script fault)

abbrev pub as_audit : Result Beginning AuditFault → Result Beginning ToolFault
as_audit (Ok b) = Ok b
as_audit (Err fault) = Err (Audit fault)

-- the table of calls, what a script's lines were answered by it over a listing, with what opened it, and the world that it left
pub record Replayed : Type 0 where
  pub table : CallTable
  pub answers : List (Option ToldAnswer)
  pub world : World

-- the replay of a script over a listing, by the table that is chosen, or the first fault: the table's, the listing's, or the script's
unfoldable pub replay_of : Chosen → List ℕ → List ℕ → Result Replayed ToolFault
replay_of choice tree_bytes script_bytes = do
  table ← table_by choice
  t ← as_listing (listing tree_bytes)
  asks ← as_script (script_by choice.rules script_bytes)
  Ok (record { table = table; answers = told_to table (new_world t) asks; world = world_after table (new_world t) asks })

-- a line for each answer of a script over a listing
abbrev pub run_text : Chosen → List ℕ → List ℕ → Result (List ℕ) ToolFault
run_text choice tree_bytes script_bytes = do
  done ← replay_of choice tree_bytes script_bytes
  Ok (answer_lines 1 done.answers)

-- where the audit begins that is asked for, of a process over a tree
abbrev pub beginning_of : Tree → CallTable → ProcessState → Wanted → Result Beginning AuditFault
beginning_of t table h wanted = beginning t table h wanted.base wanted.candidates wanted.limit wanted.after

-- the front, and a line for each pair that is still to come
abbrev pub pairs_after : Wanted → List (Option ToldAnswer) → Beginning → List ℕ
pairs_after wanted answers b = front_of wanted.after wanted.process answers ++ pair_lines b.scope.base (still_to_come b)

-- the audit of a process where a replay ends, or why there is none: a process never made, or what no audit begins with
abbrev pub audit_after : Replayed → Wanted → Result (List ℕ) ToolFault
audit_after done wanted =
    ok_or (kept_at done.world wanted.process) NoProcess
    >>= λ h. as_audit (beginning_of done.world.tree done.table h wanted)
    >>= λ b. Ok (pairs_after wanted done.answers b)

-- the audit of a process at the end of a script over a listing, or the first fault: the table's, the listing's, the
-- script's, a process never made, or what no audit begins with
unfoldable pub audit_text : Chosen → List ℕ → List ℕ → Wanted → Result (List ℕ) ToolFault
audit_text choice tree_bytes script_bytes wanted = replay_of choice tree_bytes script_bytes >>= λ done. audit_after done wanted
