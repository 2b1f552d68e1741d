use Rattle.pua_audit.proofs.Common.{◌≡◌, ◌≤◌, ◌+◌, ◌*◌, List, ℕ, suc, length, refl, sym, ap, subst, ◌∙◌, list_all, is_plain, Word, path_of}
use Rattle.pua_audit.proofs.Common.{lent_path, Base, Terms}
use Rattle.pua_audit.specs.AuditState.{AuditState}
use Rattle.pua_audit.specs.Coming.{walk_word}
use Rattle.pua_audit.proofs.Coming.{read_within}
use Rattle.pua_audit.proofs.PlainPaths.{lent_plain}
use Rattle.pua_audit.proofs.Spelled.{lent_is, lent_short}
use Rattle.pua_audit.proofs.audit.Audit.next_line.Goals as goal

pub returns : goal.returns
returns g c =
    let b = c.next_call.new.self in
    let word : Word = walk_word b in
    let line = c.in_ok-call.ensures.next in
    let path : c.lent_path-path.result.now ≡ path_of b.terms.base word =
    c.lent_path-path.ensures ∙ ap (lent_path b.terms.base) (c.as_slice.ensures.value ∙ line.path.bytes) ∙ lent_is b.terms.base word in
    let plain : c.is_plain-plain.result ≡ list_all is_plain c.lent_path-path.result.now =
    c.is_plain-plain.ensures word line.path ∙ ap (list_all is_plain) line.path.bytes ∙ sym (lent_plain b.terms.base word)
    ∙ ap (list_all is_plain) (sym (c.lent_path-path.ensures ∙ ap (lent_path b.terms.base) (c.as_slice.ensures.value ∙ line.path.bytes))) in
    let tree = ap (λ (t : Terms). t.seen.tree) c.next_call.ensures.terms ∙ ap (λ (s : AuditState). s.tree) c.self.view_is in
    let base : b.terms.base ≡ c.args.self.now.base = ap (λ (t : Terms). t.base) c.next_call.ensures.terms ∙
    ap (λ (s : AuditState). s.base) c.self.view_is in
    let left = sym (ap (λ (s : AuditState). s.left) c.self.view_is) ∙ line.next in
    let ready = c.next_call.ensures.ready in
    let short : length c.lent_path-path.result.now ≤ 1023 =
    subst (λ (bs : List ℕ). length bs ≤ 1023) (sym (c.lent_path-path.ensures ∙ ap (lent_path b.terms.base) c.as_slice.ensures.value))
    (lent_short b.terms.base b.terms b.walk.word.items b.path.bytes.items (record { known = line.known; path = line.path.bytes })
    line.within ready.sound.short) in
    let alphabet = ap (λ (t : Terms). t.letters) c.next_call.ensures.terms ∙ ap (λ (s : AuditState). s.alphabet) c.self.view_is in
    let limit = ap (λ (t : Terms). t.limit) c.next_call.ensures.terms ∙ ap (λ (s : AuditState). s.limit) c.self.view_is in
    let live = c.next_call.ensures.live ∙ ap (λ (s : AuditState). s.live) c.self.view_is in
    let reads = subst (λ (s : AuditState). b.walk.tables.counted.reads ≤ s.reads + 2 * (suc s.limit * suc (length s.alphabet))) c.self.view_is
    (read_within b.walk.tables.counted.reads c.self.inside.pairs.walk.tables.counted.reads c.self.inside.pairs.terms.limit
    (length c.self.inside.pairs.terms.letters) c.next_call.ensures.reads) in (
      (refl, λ _. tt, (tree, base, (word, (path ∙ ap (λ (y : Base). path_of y word) base, left)), (alphabet, limit, live), reads)),
      record { rest = tt; short = short; plain = plain; tree = refl; asked = refl },
    )
