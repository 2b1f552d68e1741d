-- What is told of the fault of a table.
use Rattle.std.specs.Prelude.{ℕ, List, Option, Some, None, codes}
use Rattle.pua_calls.specs.declared.call.Call.{Call}
use Rattle.pua_calls.specs.declared.table.read.TableFault.{TableFault}
use Rattle.pua_calls.specs.declared.table.read.TableFault.TheVariants.{BadToml, BadKey, BadRow, BadPromises, BadVeil, OutOfMemory}

-- the call that is to blame, if one is, and what is wrong
abbrev pub table_told : TableFault → Option Call × List ℕ
table_told BadToml = (None, codes "bad toml")
table_told BadKey = (None, codes "bad key")
table_told (BadRow call) = (Some call, codes "bad row")
table_told (BadPromises call) = (Some call, codes "bad promises")
table_told (BadVeil call) = (Some call, codes "bad veil")
table_told OutOfMemory = (None, codes "out of memory")
