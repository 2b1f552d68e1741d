use Rattle.std.proofs.Common.{◌≡◌, map, take}
use Rattle.std.specs.List.{join_with_byte}
use Rattle.pua_tight.specs.Texts.{lines_text}
use Rattle.pua_tight.proofs.text.thinned_text.Given as goal

-- the lines so far
abbrev pub invariant-loop-place : goal.invariant-loop-place
invariant-loop-place l =
    l.text.items ≡ join_with_byte 10 (take l.place (lines_text l.rules l.requests (map (λ line. line.now) l.line-items)))
