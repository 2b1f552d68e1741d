-- What is told of the fault of an audit.
use Rattle.std.specs.Prelude.{ℕ, List, Option, Some, None, codes}
use Rattle.pua_audit.specs.declared.fault.AuditFault.{AuditFault}
use Rattle.pua_audit.specs.declared.fault.AuditFault.TheVariants.{LimitTooLarge, TooLong, TooManyNames, BadCandidate, BadResume, OutOfMemory}

-- what is wrong, and with which candidate, if with one
abbrev pub audit_told : AuditFault → List ℕ × Option ℕ
audit_told LimitTooLarge = (codes "limit too large", None)
audit_told TooLong = (codes "paths too long", None)
audit_told TooManyNames = (codes "too many names", None)
audit_told (BadCandidate place) = (codes "bad candidate", Some place)
audit_told BadResume = (codes "bad resume", None)
audit_told OutOfMemory = (codes "out of memory", None)
