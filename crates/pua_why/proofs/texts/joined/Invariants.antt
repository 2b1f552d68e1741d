use Rattle.pua_why.proofs.Common.{◌≡◌, ◌++◌, drop, map, string_bytes, codes, joined_words}
use Rattle.pua_why.proofs.Joining.{rest}
use Rattle.pua_why.proofs.texts.joined.Given as goal

-- the names so far stand in front of those that are still to come
abbrev pub invariant-loop-name : goal.invariant-loop-name
invariant-loop-name l = joined_words (codes ",") (map (λ name. name.now) l.names) ≡ string_bytes l.text ++ rest (codes ",") l.is_first
    (map (λ name. name.now) (drop l.name-index l.names))
