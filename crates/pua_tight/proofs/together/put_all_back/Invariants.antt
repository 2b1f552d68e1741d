use Rattle.std.proofs.Common.{◌≡◌, drop}
use Rattle.pua_tight.specs.Several.{all_back}
use Rattle.pua_tight.proofs.together.put_all_back.Given as goal

-- those from one on
abbrev pub invariant-loop-index : goal.invariant-loop-index
invariant-loop-index l = l.requests.items ≡ all_back (drop l.index l.kept) l.fn.requests.items
