use Rattle.pua_audit.proofs.Common.{◌≡◌, ◌≤◌, ◌+◌, ◌*◌, ◌∷◌, List, ℕ, suc, length, refl, sym, ap, subst, ◌∙◌, list_all, is_plain, from_root}
use Rattle.pua_audit.proofs.Common.{arith, Pair, Word, path_of, lent_path, Base, Terms}
use Rattle.pua_audit.specs.AuditState.{AuditState}
use Rattle.pua_audit.specs.Coming.{walk_word}
use Rattle.pua_audit.specs.WordPaths.{IsPathOf}
use Rattle.pua_audit.specs.declared.path.WordPath.{WordPath}
use Rattle.pua_audit.proofs.Coming.{read_within}
use Rattle.pua_audit.proofs.PlainPaths.{lent_plain}
use Rattle.pua_audit.proofs.Spelled.{lent_is, lent_short}
use Rattle.pua_audit.proofs.audit.Audit.next_lines.Goals as goal

pub returns : goal.returns
returns g c =
    let a = c.next_call.new.self in
    let b = c.later_calls-later.new.self in
    let more = c.later_calls-later.ensures in
    let word : Word = walk_word a in
    let line = c.in_ok-first.ensures.next in
    let spelled : b.path.bytes.items ≡ a.path.bytes.items = ap (λ (p : WordPath). p.bytes.items) more.path in
    let bytes : c.lent_path-path.result.now ≡ lent_path b.terms.base (from_root word) =
    c.lent_path-path.ensures ∙ ap (lent_path b.terms.base) (c.as_slice.ensures.value ∙ spelled ∙ line.path.bytes) in
    let path : c.lent_path-path.result.now ≡ path_of b.terms.base word = bytes ∙ lent_is b.terms.base word in
    let plain : c.is_plain-plain.result ≡ list_all is_plain c.lent_path-path.result.now =
    c.is_plain-plain.ensures word (subst (λ (p : WordPath). IsPathOf word p) (sym more.path) line.path)
    ∙ ap (list_all is_plain) (spelled ∙ line.path.bytes) ∙ sym (lent_plain b.terms.base word) ∙ ap (list_all is_plain) (sym bytes) in
    let terms = more.terms ∙ c.next_call.ensures.terms in
    let tree = ap (λ (t : Terms). t.seen.tree) terms ∙ ap (λ (s : AuditState). s.tree) c.self.view_is in
    let base : b.terms.base ≡ c.args.self.now.base = ap (λ (t : Terms). t.base) terms ∙ ap (λ (s : AuditState). s.base) c.self.view_is in
    let left = sym (ap (λ (s : AuditState). s.left) c.self.view_is) ∙ line.next ∙
    ap (λ (ps : List Pair). (word, c.in_ok-first.first) ∷ ps) (more.left c.next_call.ensures.ready) in
    let short : length c.lent_path-path.result.now ≤ 1023 =
    subst (λ (bs : List ℕ). length bs ≤ 1023)
    (sym (c.lent_path-path.ensures ∙ ap (lent_path b.terms.base) (c.as_slice.ensures.value ∙ spelled)))
    (lent_short b.terms.base a.terms a.walk.word.items a.path.bytes.items (record { known = line.known; path = line.path.bytes })
    line.within c.next_call.ensures.ready.sound.short) in
    let alphabet = ap (λ (t : Terms). t.letters) terms ∙ ap (λ (s : AuditState). s.alphabet) c.self.view_is in
    let limit = ap (λ (t : Terms). t.limit) terms ∙ ap (λ (s : AuditState). s.limit) c.self.view_is in
    let live = more.live ∙ c.next_call.ensures.live ∙ ap (λ (s : AuditState). s.live) c.self.view_is in
    let reads = subst (λ (s : AuditState). b.walk.tables.counted.reads ≤ s.reads + 2 * (suc s.limit * suc (length s.alphabet))) c.self.view_is
    (read_within b.walk.tables.counted.reads c.self.inside.pairs.walk.tables.counted.reads c.self.inside.pairs.terms.limit
    (length c.self.inside.pairs.terms.letters)
    (omega (arith, more.reads, c.next_call.ensures.reads))) in (
      (refl, λ _. tt, (tree, base, (word, (path ∙ ap (λ (y : Base). path_of y word) base, left)), (alphabet, limit, live), reads)),
      record { rest = tt; short = short; plain = plain; tree = refl; asked = refl },
    )
