-- Calls by their numbers, and sets of them as bits.
use Rattle.std.specs.Prelude.{ℕ, Bool, List, filter, ◌==◌}
use Rattle.std.specs.List.{range_with_len}
use Rattle.std.specs.Int.{bit_at}
use Rattle.pua_steps.specs.Limits.{call_count}

abbrev pub has_call : ℕ → ℕ → Bool
has_call mask call = bit_at mask call == 1

-- the calls of a set, in their order
unfoldable pub calls_of : ℕ → List ℕ
calls_of mask = filter (has_call mask) (range_with_len 0 call_count)
