use Rattle.pua_io.proofs.Common.{◌≡◌}
use Rattle.std.proofs.Common.{◌+◌, ◌-◌, ◌≤◌, vec_len}
use Rattle.std.specs.Io.KnownBytes.{Consumes}
use Rattle.pua_io.specs.declared.source.TheConstants.{MOST_INPUT_BYTES}
use Rattle.pua_io.proofs.source.read_bytes.Given as goal

-- what was read so far is what the source lost, by one read for each byte at most
abbrev pub invariant-loop-count : goal.invariant-loop-count
invariant-loop-count g l = record {
  lost : Consumes (g.R.Source.remaining l.fn.source) (g.R.Source.remaining l.source) l.all.items;
  short : vec_len l.all ≤ MOST_INPUT_BYTES;
  reads : g.R.Source.reads l.source ≤ g.R.Source.reads l.fn.source + vec_len l.all;
  unfailed : g.R.Source.failures l.source ≡ g.R.Source.failures l.fn.source;
}

abbrev pub decreases-loop-count : goal.decreases-loop-count
decreases-loop-count g l = MOST_INPUT_BYTES - vec_len l.all
