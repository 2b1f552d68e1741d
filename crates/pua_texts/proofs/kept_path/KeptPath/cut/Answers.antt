use Rattle.pua_texts.proofs.Common.{◌≡◌, ◌<◌, sym, subst, ap, ◌∙◌, length, take, get_or, arith, KeptPathState, IsKept}
use Rattle.std.proofs.lemmas.List.{get_or_default}
use Rattle.pua_texts.proofs.KeptPaths.{all_kept, cut_kept}
use Rattle.pua_texts.proofs.kept_path.KeptPath.cut.Goals as goal

pub returns-then-count-len : goal.returns-then-count-len
returns-then-count-len c = λ old new kept short same.
    let p = c.self.inside in
    let now : KeptPathState = record { text = p.text; starts = p.starts.items } in
    let less : c.args.count < length p.starts.items = omega (arith, c.len.ensures, c.if-count-len.true) in
    let at : c.index.result.now ≡ get_or p.starts.items c.args.count 0 = c.index.ensures ∙ get_or_default _ _ _ _ less in
    let text : c.truncate.new.self ≡ take (get_or p.starts.items c.args.count 0) p.text = c.truncate.ensures ∙ ap (λ n. take n p.text) at in
    let starts = c.truncate-then-count-len.ensures.items in
    subst (λ (s : KeptPathState). IsKept new s) (λ i. record { text = sym text i; starts = sym starts i })
    (cut_kept old new c.args.count now (subst (λ (s : KeptPathState). IsKept old s) (sym c.self.view_is) kept) less short same)

pub returns-else-count-len : goal.returns-else-count-len
returns-else-count-len c = λ old new kept short same.
    all_kept old new c.args.count c.args.self.now kept (omega (
      arith,
      c.len.ensures,
      ap (λ (s : KeptPathState). length s.starts) c.self.view_is,
      c.if-count-len.false,
    )) short same
