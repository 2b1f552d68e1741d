-- The line that tells of a fault of the tool.
use Rattle.std.specs.Prelude.{ℕ, List, ◌++◌, Option, Some, None, codes, decimal}
use Rattle.pua_tree.specs.FaultTexts.{listing_told}
use Rattle.pua_calls.specs.Calls.{call_name}
use Rattle.pua_calls.specs.FaultTexts.{table_told}
use Rattle.pua_calls.specs.declared.call.Call.{Call}
use Rattle.pua_script.specs.FaultTexts.{script_told}
use Rattle.pua_audit.specs.FaultTexts.{audit_told}
use Rattle.pua_texts.specs.Lines.{with_end}
use Rattle.pua_tool.specs.declared.fault.ToolFault.{ToolFault}
use Rattle.pua_tool.specs.declared.fault.ToolFault.TheVariants.{Listing, Script, Request, NoProcess, Audit, OutOfMemory, Table, CanUnveil}
use Rattle.pua_tool.specs.declared.fault.ToolFault.TheVariants.{LacksC, RenameLacksC, LinkLacksC, OtherVeils, SeveralWhy, NowHow, SeveralHow, EverImages, WhyImages}
use Rattle.pua_tool.specs.declared.fault.ToolFault.TheVariants.{NowBeside, WhyBeside, HowBeside, ImagesBeside}
use Rattle.pua_tool.specs.declared.fault.ToolFault.TheVariants.{PlainBelow, BelowPath, BelowThing}
use Rattle.pua_tool.specs.declared.fault.ToolFault.TheVariants.{NoLine, HowCall, HowPath, HowThing, HowLink, TooManyNames}

-- the line of an input that is to blame, if one is, and what is wrong
abbrev pub blame_line : Option ℕ → List ℕ → List ℕ
blame_line (Some line) wrong = codes "line " ++ decimal line ++ codes ": " ++ with_end wrong
blame_line None wrong = with_end wrong

-- what is wrong with an audit, and the place of a candidate, if one is to blame
abbrev pub place_line : List ℕ → Option ℕ → List ℕ
place_line wrong (Some place) = wrong ++ codes " " ++ with_end (decimal place)
place_line wrong None = with_end wrong

-- the call of a table that is to blame, if one is, and what is wrong
abbrev pub row_line : Option Call → List ℕ → List ℕ
row_line (Some call) wrong = call_name call ++ codes ": " ++ with_end wrong
row_line None wrong = with_end wrong

abbrev pub fault_line : ToolFault → List ℕ
fault_line (Listing fault) = codes "pua: listing: " ++ blame_line (listing_told fault).0 (listing_told fault).1
fault_line (Script fault) = codes "pua: script: " ++ blame_line (script_told fault).0 (script_told fault).1
fault_line (Request fault) = codes "pua: request: " ++ blame_line (script_told fault).0 (script_told fault).1
fault_line NoProcess = with_end (codes "pua: no such process")
fault_line (Audit fault) = codes "pua: audit: " ++ place_line (audit_told fault).0 (audit_told fault).1
fault_line OutOfMemory = with_end (codes "pua: out of memory")
fault_line (Table fault) = codes "pua: table: " ++ row_line (table_told fault).0 (table_told fault).1
fault_line (CanUnveil process) = codes "pua: process " ++ decimal process ++ with_end (codes " can still unveil")
fault_line (LacksC call) = codes "pua: table: " ++ call_name call ++ with_end (codes ": no c")
fault_line RenameLacksC = with_end (codes "pua: table: rename: no c")
fault_line LinkLacksC = with_end (codes "pua: table: link: no c")
fault_line (OtherVeils first other) =
    codes "pua: processes " ++ decimal first ++ codes " and " ++ decimal other ++ with_end (codes " have other veils: ask with --beside")
fault_line TooManyNames = with_end (codes "pua: tree: too many names")
fault_line SeveralWhy = with_end (codes "pua: objects: no list for ever of several with --why")
fault_line NowHow = with_end (codes "pua: objects: no list of now with --how")
fault_line SeveralHow = with_end (codes "pua: objects: no list of several with --how")
fault_line EverImages = with_end (codes "pua: objects: no list for ever with --images")
fault_line WhyImages = with_end (codes "pua: objects: no list with --why and --images")
fault_line NowBeside = with_end (codes "pua: objects: no list of now with --beside")
fault_line WhyBeside = with_end (codes "pua: objects: no list with --why and --beside")
fault_line HowBeside = with_end (codes "pua: objects: no list with --how and --beside")
fault_line ImagesBeside = with_end (codes "pua: objects: no list with --images and --beside")
fault_line PlainBelow = with_end (codes "pua: objects: no list with --below without --ever --how")
fault_line BelowPath = with_end (codes "pua: objects: bad path")
fault_line BelowThing = with_end (codes "pua: objects: no such path")
fault_line (NoLine line) = codes "pua: script: " ++ blame_line (Some line) (codes "no such line")
fault_line HowCall = with_end (codes "pua: how: bad call")
fault_line HowPath = with_end (codes "pua: how: bad path")
fault_line HowThing = with_end (codes "pua: how: no such thing")
fault_line (HowLink call) =
    codes "pua: how: a link, which " ++ call_name call ++ with_end (codes " follows: ask about what it leads to")
