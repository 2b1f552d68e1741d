use Rattle.pua_audit.proofs.Common.{◌≤◌, List, ℕ, length, sym, ap, ◌∙◌, arith}
use Rattle.pua_audit.specs.WordPaths.{plain_front}
use Rattle.pua_audit.proofs.PlainPaths.{push_after, push_escaped, push_plain}
use Rattle.pua_audit.proofs.WordPaths.{length-starts}
use Rattle.pua_audit.proofs.path.WordPath.plain_with.Goals.{then-self-len-via-then-self-len}
use Rattle.pua_audit.proofs.path.WordPath.plain_with.Goals.{then-self-len-via-else-self-len+then-not-is_plain}
use Rattle.pua_audit.proofs.path.WordPath.plain_with.Goals as goal

pub returns-then-self-len : goal.returns-then-self-len
returns-then-self-len c = λ word is.
    let a : List ℕ = c.args.letter.now in
    is.plain
    ∙ sym (elim c.then-self-len.branch [
      | then-self-len-via-then-self-len w ↦
          push_after word a (omega (arith, w.if-self-len.true, is.plain, ap length is.starts, length-starts 0 word, c.len.ensures))
      | then-self-len-via-else-self-len+then-not-is_plain w ↦ push_escaped word a (sym w.is_plain.ensures ∙ w.if-not-is_plain.true)
    ])

pub returns : goal.returns
returns c = λ word is.
    let a : List ℕ = c.args.letter.now in
    let many : length word ≤ plain_front word = omega (
      arith,
      c.if-self-len.false,
      is.plain,
      ap length is.starts,
      length-starts 0 word,
      c.len.ensures,
    ) in
    omega (
      arith,
      push_plain word a (sym c.is_plain.ensures ∙ c.if-not-is_plain.false) many,
      c.len-2.ensures,
      ap length is.starts,
      length-starts 0 word,
    )
