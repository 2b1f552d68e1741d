use Rattle.std.proofs.Common.{◌-◌, ◌≤◌, length}
use Rattle.pua_tool.specs.Fronts.{lines_size}
use Rattle.pua_tool.proofs.Fronts.{Leads}
use Rattle.pua_tool.proofs.front.first_lines.Given as goal

abbrev pub invariant-loop : goal.invariant-loop
invariant-loop l = record {
  leads : Leads (l.count - l.counter) l.end l.bytes (lines_size l.count l.bytes);
  within : l.end ≤ length l.bytes;
}
