-- What a line that is lent out of an audit is, and what the audit is once the line is given back.
use Rattle.std.specs.Prelude.{◌≡◌, ◌≤◌, ◌+◌, ◌*◌, suc, length, [], ◌∷◌, ◌++◌, Option, MatchOption, ⊤}
use mathlib.Core.Option.{none}
use Rattle.std.specs.Borrow.{Fml, MutBor, follows_so}
use Rattle.pua_audit.specs.Reach.{Word, path_of}
use Rattle.pua_audit.specs.Coming.{calls_at, with_word}
use Rattle.pua_audit.specs.AuditState.{AuditState}
use Rattle.pua_audit.specs.declared.line.Line.{Line}
use Rattle.pua_audit.specs.declared.path_lines.PathLines.{PathLines}
use Rattle.pua_audit.specs.contracts.audit.Audit.{the_row}

-- the same alphabet, limit and live states
abbrev pub IsSameAudit : AuditState → AuditState → Type 0
IsSameAudit old new = (new.alphabet ≡ old.alphabet) × (new.limit ≡ old.limit) × (new.live ≡ old.live)

-- with a limit L and A letters at most 2 (L + 1) (A + 1) letters were read
abbrev pub HasRead : AuditState → AuditState → Type 0
HasRead old new = new.reads ≤ old.reads + 2 * (suc old.limit * suc (length old.alphabet))

-- the line is the first of the pairs to come, with the path of its word; the others stay to come. No line is lent where no pair is to come
abbrev pub IsNextLine : AuditState → Option Line → AuditState → Type 0
IsNextLine old result new =
    (new.tree ≡ old.tree) × (new.base ≡ old.base)
    × MatchOption result ((old.left ≡ []) × (new.left ≡ [])) (λ line. (word : Word) ×
    ((line.path.now ≡ path_of old.base word) × (old.left ≡ (word, line.call) ∷ new.left)))
    × IsSameAudit old new × HasRead old new

abbrev pub LendsLine : MutBor AuditState → Option Line → Fml
LendsLine audit result = follows_so the_row the_row audit.ghost_name none (λ _ _. ⊤) (IsNextLine audit.now result)

-- the lines are the first of the pairs to come, all with the path of one word; the others stay to come
abbrev pub AreNextLines : AuditState → Option PathLines → AuditState → Type 0
AreNextLines old result new =
    (new.tree ≡ old.tree) × (new.base ≡ old.base)
    × MatchOption result ((old.left ≡ []) × (new.left ≡ [])) (λ lines. (word : Word) × ((lines.path.now ≡ path_of old.base word)
    × (old.left ≡ (word, lines.call) ∷ with_word word (calls_at lines.later) ++ new.left)))
    × IsSameAudit old new × HasRead old new

abbrev pub LendsLines : MutBor AuditState → Option PathLines → Fml
LendsLines audit result = follows_so the_row the_row audit.ghost_name none (λ _ _. ⊤) (AreNextLines audit.now result)
