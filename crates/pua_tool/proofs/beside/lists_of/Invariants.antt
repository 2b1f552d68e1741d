use Rattle.pua_tool.proofs.Common.{map}
use Rattle.std.proofs.Common.{take}
use Rattle.pua_texts.specs.ListLines.{list_text}
use Rattle.pua_texts.specs.Members.{named_by}
use Rattle.pua_tool.specs.BesideTexts.{AreBesideLists}
use Rattle.pua_tool.proofs.beside.lists_of.Given as goal

-- the lists so far are those of the processes so far
abbrev pub invariant-loop-member : goal.invariant-loop-member
invariant-loop-member g l =
    AreBesideLists l.rules l.table (g.T.FileTree.content l.tree) (named_by l.helpers) (named_by (take l.member-index l.members))
    (map (list_text (g.T.FileTree.content l.tree)) l.lists.items)
