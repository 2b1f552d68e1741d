use Rattle.pua_tool.proofs.Common.{◌≡◌, []}
use Rattle.std.proofs.Common.{◌⊎◌, inl, inr}
use Rattle.std.proofs.lemmas.List.{nil_from_length}
use Rattle.std.specs.Slice.Iter.{iter_rest}
use Rattle.pua_tool.proofs.ImageLines.{none_shown, more_shown, all_shown, all_told}
use Rattle.pua_tool.proofs.images.add_images.Goals as goal

pub loop-done-init : goal.loop-done-init
loop-done-init c =
    let requests : iter_rest c.into_iter-done-iterator.result.iter.a ≡ c.args.requests.now = cc in
    let told : iter_rest c.into_iter-done-iterator.result.iter.b ≡ c.args.answers.now = cc in
    let count : c.into_iter-done-iterator.result.count ≡ 0 = cc in
    none_shown c.args.rules c.args.world.now c.args.numbers.now c.args.requests.now c.args.answers.now c.args.text.now.bytes.items _ _ _ _ requests told
    c.in_ok-told.ensures.items count

pub loop-done-preserved : goal.loop-done-preserved
loop-done-preserved c =
    let steps = c.in-Some.ensures.steps in
    more_shown c.args.rules c.args.world.now c.args.numbers.now c.args.requests.now c.args.answers.now c.args.text.now.bytes.items
    c.loop-done.world (iter_rest c.loop-done.done-iterator.iter.a) (iter_rest c.loop-done.done-iterator.iter.b) c.loop-done.told.items
    c.loop-done.done-iterator.count c.loop-done.text.bytes.items c.in-Some.request.now (iter_rest c.next.new.self.iter.a)
    c.in-Some.answer.now (iter_rest c.next.new.self.iter.b) c.in-Some.done c.next.new.self.count c.serve_told.new.world c.add_image_of.new.text.bytes.items
    c.in_ok-said.said c.push.new.self.items c.loop-done.invariant steps.0.0 steps.0.1 steps.1 steps.2 c.in_ok-said.ensures.left c.in_ok-said.ensures.told c.in_ok-push.ensures.items
    c.in_ok-add_image_of.ensures

pub returns-clause-shown : goal.returns-clause-shown
returns-clause-shown c =
    let steps = c.in-None.ensures.steps in
    let empty : (iter_rest c.loop-done.done-iterator.iter.a ≡ []) ⊎ (iter_rest c.loop-done.done-iterator.iter.b ≡ []) =
    elim steps.0 [ inl x ↦ inl (nil_from_length _ x.1.0) | inr x ↦ inr (nil_from_length _ x.1.0) ] in
    all_shown c.args.rules c.args.world.now c.args.numbers.now c.args.requests.now c.args.answers.now c.args.text.now.bytes.items _ _ _ _ _ _
    c.loop-done.invariant empty

pub returns-clause-told : goal.returns-clause-told
returns-clause-told c =
    let steps = c.in-None.ensures.steps in
    let empty : (iter_rest c.loop-done.done-iterator.iter.a ≡ []) ⊎ (iter_rest c.loop-done.done-iterator.iter.b ≡ []) =
    elim steps.0 [ inl x ↦ inl (nil_from_length _ x.1.0) | inr x ↦ inr (nil_from_length _ x.1.0) ] in
    all_told c.args.rules c.args.world.now c.args.numbers.now c.args.requests.now c.args.answers.now c.args.text.now.bytes.items _ _ _ _ _ _
    c.loop-done.invariant empty
