use Rattle.pua_since.proofs.Common.{◌≡◌, ◌++◌, ◌∷◌, [], ◌∙◌, suc, sym, ap, subst, append_assoc, append-nil, length, Ok, arith, inl, inr}
use Rattle.pua_since.proofs.Common.{◌⊎◌, iter_rest, requests_of, ArePlacesOf, IsRequestAt}
use Rattle.std.specs.Str.Lines.{lines}
use Rattle.pua_tree.proofs.ForCallers.{lines_agree}
use Rattle.pua_since.proofs.Keeping.{kept_all, kept_twice, request_kept}
use Rattle.pua_since.proofs.Placing.{all_read, first_read, none_placed, none_read, passed, placed}
use Rattle.pua_since.proofs.reason_lines.watch_lines.Goals as goal
use Rattle.std.proofs.lemmas.List.{nil_from_length}

pub loop-done-init : goal.loop-done-init
loop-done-init g c =
    let all : c.into_iter-done-iterator.result.iter.a ≡ lines c.args.script_bytes.now = cc (lines_agree c.args.script_bytes.now) in
    let requests : iter_rest c.into_iter-done-iterator.result.iter.b.a ≡ c.args.requests.now = cc in
    let told : iter_rest c.into_iter-done-iterator.result.iter.b.b ≡ c.args.answers.now = cc in
    let count : c.into_iter-done-iterator.result.count ≡ 0 = cc in
    let none : length c.new-known.result.entries ≡ 0 = c.new-known.ensures.len in
    record {
      known = λ rules read k d less. absurd (omega (arith, none, less));
      lines = λ rules read. (1, ap (requests_of rules 1) all ∙ all_read rules c.args.script_bytes.now c.args.requests.now read ∙ sym (ap Ok requests));
      places = λ rules read later rest kept at.
          subst (λ places. ArePlacesOf later 0 c.args.requests.now c.args.answers.now places)
          (sym (ap (λ places. places ++ rest) c.new-places.ensures.items))
          (subst (λ (X : Type 0). X) (λ i. ArePlacesOf later (count i) (requests i) (told i) rest) at);
      watched = λ left before. before;
      kept = kept_all c.args.watches.now.watches.items;
    }

pub loop-done-preserved-in-Okay : goal.loop-done-preserved-in-Okay
loop-done-preserved-in-Okay g c =
    let steps = c.in-Some.ensures.steps in
    let so = c.loop-done.invariant in
    record {
      known = so.known;
      lines = λ rules read.
          let first = first_read rules (so.lines rules read).0 c.in-Some.line.now c.next.new.self.iter.a c.in-Some.request.now
          (iter_rest c.next.new.self.iter.b.a)
          (sym (ap (requests_of rules (so.lines rules read).0) steps.0.0) ∙ (so.lines rules read).1 ∙ ap Ok steps.0.1.0) in
          (suc (so.lines rules read).0, first.1);
      places = λ rules read later rest kept at.
          so.places rules read later rest kept
          (passed later c.loop-done.done-iterator.count c.next.new.self.count c.in-Some.request.now c.in-Some.answer.now _ _ _ _ rest
          steps.0.1.0 steps.0.1.1 c.in-Okay.is steps.2 at);
      watched = so.watched;
      kept = so.kept;
    }

pub loop-done-preserved : goal.loop-done-preserved
loop-done-preserved g c =
    let steps = c.in-Some.ensures.steps in
    let so = c.loop-done.invariant in
    let kept_now = c.in_ok-place.ensures.kept in
    record {
      known = λ rules read.
          let first = first_read rules (so.lines rules read).0 c.in-Some.line.now c.next.new.self.iter.a c.in-Some.request.now
          (iter_rest c.next.new.self.iter.b.a)
          (sym (ap (requests_of rules (so.lines rules read).0) steps.0.0) ∙ (so.lines rules read).1 ∙ ap Ok steps.0.1.0) in
          c.in_ok-place.ensures.known rules (so.lines rules read).0 (so.known rules read) first.0;
      lines = λ rules read.
          let first = first_read rules (so.lines rules read).0 c.in-Some.line.now c.next.new.self.iter.a c.in-Some.request.now
          (iter_rest c.next.new.self.iter.b.a)
          (sym (ap (requests_of rules (so.lines rules read).0) steps.0.0) ∙ (so.lines rules read).1 ∙ ap Ok steps.0.1.0) in
          (suc (so.lines rules read).0, first.1);
      places = λ rules read later rest kept at.
          let first = first_read rules (so.lines rules read).0 c.in-Some.line.now c.next.new.self.iter.a c.in-Some.request.now
          (iter_rest c.next.new.self.iter.b.a)
          (sym (ap (requests_of rules (so.lines rules read).0) steps.0.0) ∙ (so.lines rules read).1 ∙ ap Ok steps.0.1.0) in
          let own = request_kept c.place_of.new.watches.watches.items later c.in_ok-place.place c.in-Some.request.now c.in-Some.done kept
          (c.in_ok-place.ensures.place rules (so.lines rules read).0 (so.known rules read) first.0) in
          subst (λ places. ArePlacesOf later 0 c.args.requests.now c.args.answers.now places)
          (sym (ap (λ places. places ++ rest) c.in_ok-push.ensures.items ∙
          append_assoc c.loop-done.places.items (c.in_ok-place.place ∷ []) rest))
          (so.places rules read later (c.in_ok-place.place ∷ rest)
          (kept_twice c.loop-done.watches.watches.items c.place_of.new.watches.watches.items later kept_now kept)
          (placed later c.loop-done.done-iterator.count c.next.new.self.count c.in-Some.request.now c.in-Some.answer.now _ _ _ _
          c.in_ok-place.place rest steps.0.1.0 steps.0.1.1 c.in_default.not-Okay steps.2
          (subst (λ n. IsRequestAt later c.in_ok-place.place c.in-Some.request.now n) steps.1 own) at));
      watched = λ left before. c.in_ok-place.ensures.watched left (so.watched left before);
      kept = kept_twice c.args.watches.now.watches.items c.loop-done.watches.watches.items c.place_of.new.watches.watches.items so.kept
          kept_now;
    }

pub returns : goal.returns
returns g c =
    let steps = c.in-None.ensures.steps in
    let so = c.loop-done.invariant in
    record {
      places = λ rules read told.
          let empty : (iter_rest c.loop-done.done-iterator.iter.b.a ≡ []) ⊎ (iter_rest c.loop-done.done-iterator.iter.b.b ≡ []) =
          elim steps.0 [
            | inl x ↦ inl (none_read rules (so.lines rules read).0 _ (sym (ap (requests_of rules (so.lines rules read).0) x.1.0) ∙ (so.lines rules read).1))
            | inr y ↦ elim y.1 [ inl z ↦ inl (nil_from_length _ z.1.0) | inr z ↦ inr (nil_from_length _ z.1.0) ]
          ] in
          subst (λ places. ArePlacesOf c.loop-done.watches.watches.items 0 c.args.requests.now c.args.answers.now places)
          (append-nil c.loop-done.places.items)
          (so.places rules read c.loop-done.watches.watches.items [] (kept_all c.loop-done.watches.watches.items)
          (none_placed c.loop-done.watches.watches.items c.loop-done.done-iterator.count _ _ empty));
      watched = so.watched;
      kept = so.kept;
    }
