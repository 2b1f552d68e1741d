use Rattle.pua_since.proofs.Common.{◌≡◌, ◌++◌, ℕ, List, [], Ok, iter_rest, Asked, requests_of, world_of, ArePlacesOf, AreWatched}
use Rattle.pua_since.proofs.Common.{IsKeptThrough, Watch}
use Rattle.pua_calls.specs.declared.rules.Rules.{Rules}
use Rattle.pua_script.specs.Scripts.{script_by}
use Rattle.pua_since.specs.Dates.{AreKnown}
use Rattle.pua_since.proofs.reason_lines.watch_lines.Given as goal

-- whatever keeps the questions so far has those of the first lines at these places
abbrev pub invariant-loop-done : goal.invariant-loop-done
invariant-loop-done g l = record {
  known : (rules : Rules) → script_by rules l.fn.script_bytes ≡ Ok l.fn.requests → AreKnown rules l.watches.watches.items l.known.entries;
  lines : (rules : Rules) → script_by rules l.fn.script_bytes ≡ Ok l.fn.requests →
      (n : ℕ) × (requests_of rules n l.done-iterator.iter.a ≡ Ok (iter_rest l.done-iterator.iter.b.a));
  places : (rules : Rules) → script_by rules l.fn.script_bytes ≡ Ok l.fn.requests → (later : List Watch) (rest : List ℕ) → IsKeptThrough l.watches.watches.items later
      → ArePlacesOf later l.done-iterator.count (iter_rest l.done-iterator.iter.b.a) (iter_rest l.done-iterator.iter.b.b) rest →
      ArePlacesOf later 0 l.fn.requests l.fn.answers (l.places.items ++ rest);
  watched : (left : List Asked) → AreWatched l.world.table (world_of l.world) [] left l.fn.watches →
      AreWatched l.world.table (world_of l.world) [] left l.watches;
  kept : IsKeptThrough l.fn.watches.watches.items l.watches.watches.items;
}
