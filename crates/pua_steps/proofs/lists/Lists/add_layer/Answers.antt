use Rattle.pua_steps.proofs.Common.{ℕ, ◌≡◌, ◌-◌, ◌<◌, ◌++◌, ◌∷◌, [], refl, ◌∙◌, arith, get_or_default, Lists}
use Rattle.pua_steps.proofs.WalkLists.{longer_none, list_same, shared_layer, made_layer, listed_more}
use Rattle.pua_steps.proofs.lists.Lists.add_layer.Goals as goal

pub returns-then-repeats : goal.returns-then-repeats
returns-then-repeats c =
    let t = c.args.steps.now in
    let v = c.args.live.now in
    let left : ℕ = c.args.left in
    let a : Lists = c.args.self.now in
    let b : Lists = record { entries = a.entries; spans = a.spans; layers = c.push.new.self } in
    let entries = longer_none a.entries.items in
    let spans = longer_none a.spans.items in
    let before : left - 1 < left = omega (arith, c.if-left-gt0.true) in
    let shared = c.index-shared.ensures ∙
    get_or_default a.layers.items (left - 1) c.index-shared.result.now 0 (omega (arith, before, c.requires.before.many)) in
    listed_more t v left a b c.requires.before entries spans c.index-shared.result.now c.in_ok-push.ensures.items c.requires.before.known
    (shared_layer t v left a b c.requires.before entries spans c.index-shared.result.now c.in_ok-push.ensures.items (left - 1) before shared
    (λ d h. list_same t v (left - 1) left d c.requires.table c.requires.dirs h (c.if-repeats.ensures.same refl)))

pub returns : goal.returns
returns c =
    let t = c.args.steps.now in
    let v = c.args.live.now in
    let left : ℕ = c.args.left in
    let a : Lists = c.args.self.now in
    let got = c.in_ok-add_lists.ensures in
    let b : Lists = record { entries = c.add_lists.new.self.entries; spans = c.add_lists.new.self.spans; layers = c.push-2.new.self } in
    let pushed : b.layers.items ≡ a.layers.items ++ c.len-first.result ∷ [] = c.in_ok-push-2.ensures.items ∙
    (λ i. (got.layers i).items ++ c.len-first.result ∷ []) in
    listed_more t v left a b c.requires.before got.entries got.spans c.len-first.result pushed got.known
    (made_layer t v left a b c.requires.before got.entries got.spans c.len-first.result pushed (omega (arith, c.len-first.ensures)) got.many
    got.lists)
