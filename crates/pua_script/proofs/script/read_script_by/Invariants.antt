use Rattle.pua_script.proofs.Common.{◌≡◌, ◌≤◌}
use Rattle.pua_script.specs.Scripts.{script_by}
use Rattle.pua_script.proofs.Onwards.{onwards}
use Rattle.pua_script.proofs.script.read_script_by.Given as goal

abbrev pub invariant-loop-line : goal.invariant-loop-line
invariant-loop-line l =
    record { few : l.number ≤ 60000; so_far : script_by l.fn.rules l.fn.bytes ≡ onwards l.fn.rules 60000 l.number l.requests.items l.line-iterator }
