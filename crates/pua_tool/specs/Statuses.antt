-- With which status the program ends.
use Rattle.std.specs.Prelude.{ℕ, Result, Ok, Err}
use Rattle.pua_tool.specs.declared.fault.ToolFault.{ToolFault}
use Rattle.pua_tool.specs.declared.fault.ToolFault.TheVariants.{OutOfMemory}
use Rattle.pua_tool.specs.declared.fault.WriteFault.{WriteFault}
use Rattle.pua_tool.specs.declared.fault.WriteFault.TheVariants.{NoText}
use Rattle.pua_tool.specs.declared.fault.WriteFault.TheVariants as write_fault
use Rattle.pua_tool.specs.declared.outcome.CommandFault.{CommandFault}
use Rattle.pua_tool.specs.declared.outcome.CommandFault.TheVariants.{Usage, Unreadable, Tool, Put}
use Rattle.pua_tool.specs.declared.status.TheConstants.{DONE, REFUSED, USAGE, DEVICE, MEMORY}

-- memory that was refused, or an input that was refused
abbrev pub status_of : ToolFault → ℕ
status_of OutOfMemory = MEMORY
status_of _ = REFUSED

-- or a device that failed
abbrev pub write_status : WriteFault → ℕ
write_status (NoText fault) = status_of fault
write_status write_fault.Put = DEVICE

-- words that are no command, an input that can't be read, or what stopped the writing
abbrev pub fault_status : CommandFault → ℕ
fault_status (Usage line) = USAGE
fault_status (Unreadable name) = DEVICE
fault_status (Tool fault) = status_of fault
fault_status Put = DEVICE

-- the status after a command that was done, or that this fault stopped
abbrev pub status_after : Result (Unit {0}) CommandFault → ℕ
status_after (Ok done) = DONE
status_after (Err fault) = fault_status fault
