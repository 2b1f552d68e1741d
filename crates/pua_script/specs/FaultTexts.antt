-- What is told of the fault of a script.
use Rattle.std.specs.Prelude.{ℕ, List, Option, Some, None, codes}
use Rattle.pua_script.specs.declared.fault.ScriptFault.{ScriptFault}
use Rattle.pua_script.specs.declared.fault.ScriptFault.TheVariants.{BadLine, BadCall, BadPath, BadList, TooMany, OutOfMemory}

-- the number of the line that is to blame, if one is, and what is wrong
abbrev pub script_told : ScriptFault → Option ℕ × List ℕ
script_told (BadLine line) = (Some line, codes "bad line")
script_told (BadCall line) = (Some line, codes "bad call")
script_told (BadPath line) = (Some line, codes "bad path")
script_told (BadList line) = (Some line, codes "bad list")
script_told TooMany = (None, codes "too many lines")
script_told OutOfMemory = (None, codes "out of memory")
