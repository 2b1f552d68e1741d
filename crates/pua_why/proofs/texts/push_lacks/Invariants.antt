use Rattle.pua_why.proofs.Common.{◌≡◌, ◌++◌, drop, string_bytes, codes, joined_words}
use Rattle.pua_why.proofs.Joining.{rest, lack_words}
use Rattle.pua_why.proofs.texts.push_lacks.Given as goal

-- what was lacked so far stands in front of what is still to come
abbrev pub invariant-loop-set : goal.invariant-loop-set
invariant-loop-set l = string_bytes l.fn.text ++ joined_words (codes ", ") (lack_words l.held l.sets)
    ≡ string_bytes l.text ++ rest (codes ", ") l.is_first (lack_words l.held (drop l.set-index l.sets))
