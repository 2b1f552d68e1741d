-- The words of a request that name calls of a kernel beside those with a number.
use Rattle.std.specs.Prelude.{ℕ, List, Option, None, find, option_map}
use Rattle.std.specs.Option.{option_or}
use Rattle.pua_tree.specs.Names.{same_bytes}
use Rattle.pua_calls.specs.Calls.{call_named_by, neighbours}
use Rattle.pua_calls.specs.declared.rules.Rules.{Rules}
use Rattle.pua_calls.specs.declared.rules.Rules.TheVariants.{Standard, Openbsd}
use Rattle.pua_calls.specs.declared.call.Call.{Call}

abbrev pub neighbour_of : List ℕ → Option Call
neighbour_of word = option_map (λ row. row.1) (find (λ row. same_bytes row.0 word) neighbours)

-- by OpenBSD's rules alone
abbrev pub neighbour_by : Rules → List ℕ → Option Call
neighbour_by Standard word = None
neighbour_by Openbsd word = neighbour_of word

-- the call that a request asks for by this word: the one of this name, or else the one whose neighbour has it
abbrev pub call_asked_by : Rules → List ℕ → Option Call
call_asked_by rules word = option_or (call_named_by rules word) (neighbour_by rules word)
