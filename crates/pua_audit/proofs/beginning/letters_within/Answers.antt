use Rattle.pua_audit.proofs.Common.{◌≡◌, ◌≤◌, ◌∙◌, length, map, sym, ap, subst, arith, length-map, longest}
use Rattle.pua_audit.specs.Reach.{alphabet_of}
use Rattle.pua_audit.specs.Bounds.{names_or_none}
use Rattle.pua_audit.proofs.Beginnings.{begun, same_product}
use Rattle.pua_audit.proofs.beginning.letters_within.Goals as goal

pub returns-clause-begun : goal.returns-clause-begun
returns-clause-begun g c = λ table h base after.
    let t = g.P.Probe.tree c.args.probe.now in
    let texts = map (λ s. s.now) c.args.candidates.now in
    let names = c.in_ok-names.names.items in
    let letters = c.in_ok-letters.letters in
    let few : length texts ≤ 1024 = omega (arith, length-map c.args.candidates.now (λ s. s.now)) in
    let same : letters ≡ alphabet_of t names = c.in_ok-letters.ensures t c.requires.rows ∙ ap (alphabet_of t) c.as_slice.ensures.value in
    let most : c.longest.result ≡ longest letters = c.longest.ensures.longest ∙ ap longest c.as_slice-2.ensures.letters in
    let product = same_product c.from.result c.args.limit c.longest.result (longest letters) c.from.ensures most in
    begun t table h base texts c.args.limit after c.if-limit-gt-MOST_LETTERS.false few names c.in_ok-names.ensures letters same
    (subst (λ n. n ≤ 1023) product c.if-from-longest-gt-MOST_PATH.false)

pub returns-clause-sound : goal.returns-clause-sound
returns-clause-sound g c =
    let letters = c.in_ok-letters.letters in
    let most : c.longest.result ≡ longest letters = c.longest.ensures.longest ∙ ap longest c.as_slice-2.ensures.letters in
    let product = same_product c.from.result c.args.limit c.longest.result (longest letters) c.from.ensures most in
    record {
      few = c.if-limit-gt-MOST_LETTERS.false;
      short = subst (λ n. n ≤ 1023) product c.if-from-longest-gt-MOST_PATH.false;
    }

pub returns-clause-many : goal.returns-clause-many
returns-clause-many g c =
    let t = g.P.Probe.tree c.args.probe.now in
    let names = c.in_ok-names.names.items in
    let same : c.in_ok-letters.letters ≡ alphabet_of t names = c.in_ok-letters.ensures t c.requires.rows ∙
    ap (alphabet_of t) c.as_slice.ensures.value in
    ap length same ∙ ap (λ r. length (alphabet_of t (names_or_none r))) (sym c.in_ok-names.ensures)
