-- The list for ever of a process.
use Rattle.std.specs.Prelude.{ℕ, List, ◌++◌, flat_map, codes}
use Rattle.pua_tree.specs.Tree.{Tree}
use Rattle.pua_calls.specs.Calls.{CallTable}
use Rattle.pua_calls.specs.declared.rules.Rules.{Rules}
use Rattle.pua_policy.specs.States.{ProcessState}
use Rattle.pua_audit.specs.Reach.{Word, printed_path}
use Rattle.pua_audit.specs.declared.base.Base.TheVariants.{Root}
use Rattle.pua_ever.specs.Ever.{EverLine, ever_line_text as line_text}
use Rattle.pua_ever.specs.ShownForEver.{shown_lasting, execs_shown}
use Rattle.pua_ever.specs.declared.lasting_list.ExecBound.{ExecBound}
use Rattle.pua_ever.specs.declared.line.EverThing.{EverThing}
use Rattle.pua_ever.specs.declared.line.EverThing.TheVariants.{Stands, Comes}
use Rattle.pua_objects.specs.declared.kind.ObjectKind.{ObjectKind}
use Rattle.pua_texts.specs.States.{head_lines}
use Rattle.pua_texts.specs.Lines.{with_end}
use Rattle.pua_texts.specs.declared.state.Heading.{Heading}
use Rattle.pua_texts.specs.declared.state.Time.TheVariants.{Ever}

abbrev pub ever_lines : Tree → List EverLine → List ℕ
ever_lines t lines = flat_map (λ line. with_end (line_text t line)) lines

-- what kind of thing the code gives
abbrev pub kind_of : EverThing → ObjectKind
kind_of (Stands kind) = kind
kind_of (Comes kind) = kind

-- where it stands now, as it is printed; `new` if it is still to be made
abbrev pub path_or_new : EverThing → Word → List ℕ
path_or_new (Stands kind) word = printed_path Root word
path_or_new (Comes kind) word = codes "new"

-- the heading of a list for ever
abbrev pub heading_ever : Rules → ExecBound → ℕ → Heading
heading_ever rules execs process = record { time = Ever execs; rules = rules; number = process }

-- the list for ever of a process: its heading, its state, and a line for each thing that it and what it forks can ever touch;
-- where all that they start is bounded, what they start can touch it too
abbrev pub ever_list : Rules → CallTable → Tree → ℕ → ProcessState → List ℕ
ever_list rules table t process h =
    head_lines t (heading_ever rules (execs_shown t table h) process) h ++ ever_lines t (shown_lasting t table h)
