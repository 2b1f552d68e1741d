use Rattle.pua_steps.proofs.Common.{ℕ, ◌≡◌, ◌+◌, ◌<◌, ◌∷◌, [], List, length, get_or, ap, sym, ◌∙◌, arith, inl, inr, subst, cases_lt}
use Rattle.pua_steps.proofs.Common.{length_push, AllByRecursion, list_of, IsListAt, IsLonger, IsEntry, Entry, Steps, Span}
use Rattle.std.proofs.Math.Seq.{get_or-append_seam}
use Rattle.pua_steps.proofs.WalkLists.{no_span, longer_on, longer_at, list_stays, list_last, list_known}
use Rattle.pua_steps.proofs.lists.Lists.add_lists.Goals as goal
use Rattle.pua_steps.proofs.Base.{all_joined}

pub loop-dir-preserved : goal.loop-dir-preserved
loop-dir-preserved c =
    let t : Steps = c.args.steps.now in
    let v = c.args.live.now in
    let d : ℕ = c.loop-dir.dir in
    let inv = c.loop-dir.invariant in
    let first : ℕ = length c.args.self.now.spans.items in
    let es : List Entry = c.loop-dir.self.entries.items in
    let fs : List Entry = c.add_list.new.self.entries.items in
    let ss : List Span = c.loop-dir.self.spans.items in
    let us : List Span = c.add_list.new.self.spans.items in
    let list : List Entry = list_of t v c.args.left d in
    let got = c.in_ok-add_list.ensures in
    let low : d < length t.rows.items = omega (arith, c.loop-dir-test.true, c.len-dir-end.ensures) in
    let span : Span = record { place = length es; end = length fs } in
    let grown : IsLonger Entry es fs = record { more = list; parts = got.entries } in
    let added : IsLonger Span ss us = record { more = span ∷ []; parts = got.spans } in
    record {
      layers = got.layers ∙ inv.layers;
      known = subst (AllByRecursion (λ e. IsEntry t e)) (sym got.entries)
          (all_joined (λ e. IsEntry t e) es list inv.known (list_known t v c.args.left d c.requires.table low));
      entries = longer_on c.args.self.now.entries.items es fs list inv.entries got.entries;
      spans = longer_on c.args.self.now.spans.items ss us (span ∷ []) inv.spans got.spans;
      many = omega (arith, ap length got.spans, length_push ss span, inv.many);
      lists = λ k h.
          elim (cases_lt k d) [
            | inl less ↦
                let there : get_or us (first + k) no_span ≡ get_or ss (first + k) no_span =
                longer_at ss us no_span (first + k) added (omega (arith, less, inv.many)) in
                subst (λ s. IsListAt fs s (list_of t v c.args.left k)) (sym there)
                (list_stays es fs (get_or ss (first + k) no_span) (list_of t v c.args.left k) grown (inv.lists k less))
            | inr past ↦
                let same : d ≡ k = omega (arith, past, h) in
                let last : get_or us (first + d) no_span ≡ span = ap (λ n. get_or us n no_span) (sym inv.many) ∙
                ap (λ ws. get_or ws (length ss) no_span) got.spans ∙ get_or-append_seam ss span [] no_span in
                subst (λ n. IsListAt fs (get_or us (first + n) no_span) (list_of t v c.args.left n)) same
                (subst (λ s. IsListAt fs s list) (sym last) (list_last es fs list got.entries))
          ];
    }
