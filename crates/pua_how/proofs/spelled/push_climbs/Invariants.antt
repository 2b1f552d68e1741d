use Rattle.std.specs.Prelude.{◌≡◌, ◌++◌, string_bytes, take}
use Rattle.pua_how.specs.Steps.{climbs}
use Rattle.pua_how.proofs.spelled.push_climbs.Given as goal

-- those of the bytes so far are added
abbrev pub invariant-loop-byte : goal.invariant-loop-byte
invariant-loop-byte l = string_bytes l.text ≡ string_bytes l.fn.text ++ climbs (take l.byte-index l.bytes)
