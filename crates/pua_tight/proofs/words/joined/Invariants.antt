use Rattle.std.proofs.Common.{◌≡◌, ◌+◌, map, take}
use Rattle.std.specs.List.{join_with_byte}
use Rattle.pua_tight.proofs.words.joined.Given as goal

-- the words so far
abbrev pub invariant-loop-word : goal.invariant-loop-word
invariant-loop-word l =
    l.text.items ≡ join_with_byte l.between (take (l.word-index + 1) (map (λ word. word.now) l.words))
