use Rattle.std.specs.Prelude.{◌≡◌, Some, map}
use Rattle.std.specs.List.{All}
use Rattle.pua_tree.specs.Spelling.{number_within}
use Rattle.pua_words.specs.Commands.{IsProcessNumber}
use Rattle.pua_words.specs.declared.words.TheConstants.{MOST_NUMBER}
use Rattle.pua_words.proofs.words.read_numbers.Given as goal

abbrev pub invariant-loop-field : goal.invariant-loop-field
invariant-loop-field l =
    All IsProcessNumber l.numbers.items
    × (map Some l.numbers.items ≡ map (λ field. number_within 1 MOST_NUMBER field.now) l.yielded)
