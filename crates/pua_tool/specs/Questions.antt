-- What is asked about behind a script, as the code keeps it.
use Rattle.std.specs.Prelude.{◌≡◌, ℕ, List, map, flat_map, Result, Ok, Err, codes, string_bytes}
use Rattle.std.specs.List.{AllByRecursion, Contains}
use Rattle.pua_tree.specs.Tree.{Tree}
use Rattle.pua_calls.specs.TmpTable.{tmp_table}
use Rattle.pua_calls.specs.declared.rules.Rules.{Rules}
use Rattle.pua_policy.specs.States.{ProcessState}
use Rattle.pua_how.specs.Outlooks.{IsOutlook}
use Rattle.pua_how.specs.Served.{IsLine, asks_of}
use Rattle.pua_how.specs.Targets.{IsLast}
use Rattle.pua_how.specs.Ways.{IsWay}
use Rattle.pua_how.specs.declared.line.WayLine.{WayLine}
use Rattle.pua_how.specs.declared.target.Target.{Target}
use Rattle.pua_how.specs.declared.way.NoWay.{NoWay}
use Rattle.pua_texts.specs.Lines.{with_end}
use Rattle.pua_tool.specs.HowTexts.{HowWanted, question_of, things_asked}
use Rattle.pua_tool.specs.Texts.{Replayed}
use Rattle.pua_tool.specs.declared.how.HowQuestion as given

-- what is asked about, and what the list for ever says of it
pub record IsQuestion (done : Replayed) (wanted : HowWanted) (q : given.HowQuestion) : Type 0 where
  pub last : ℕ
  pub above : IsLast done.world.tree last
  pub process : ProcessState
  pub asked : question_of done wanted last ≡ Ok (record { process = process; call = q.call; things = q.meant.targets.items })
  pub outlook : IsOutlook done.world.tree (tmp_table done.table) process q.meant.targets.items q.call q.outlook

-- lines of a process, which rules read, that are a way to one of some things
pub record AreWayTo (rules : Rules) (done : Replayed) (process : ℕ) (q : given.HowQuestion) (lines : List WayLine) : Type 0 where
  pub thing : Target
  pub meant : Contains q.meant.targets.items thing
  pub are : AllByRecursion (IsLine rules process) lines
  pub way : IsWay done.table done.world process q.call thing (asks_of lines)

-- all that may be meant in a tree
pub record AreMeant (t : Tree) (h : ProcessState) (wanted : HowWanted) (things : List Target) : Type 0 where
  pub last : ℕ
  pub above : IsLast t last
  pub are : things_asked t h wanted last ≡ Ok things

-- the text of what was found: the lines of a way, or one line where none of the plans comes to one
abbrev pub found_text : {V : Type 0} → (V → List WayLine) → Result V NoWay → List ℕ
found_text items (Ok v) = flat_map with_end (map (λ line. string_bytes line.text) (items v))
found_text items (Err none) = with_end (codes "no way found")
