use Rattle.pua_jointly.proofs.Common.{◌∙◌, ◌∷◌, ◌++◌, [], ap, Bool, List, sym, ℕ}
use Rattle.pua_jointly.specs.JointSides.{is_on_device}
use Rattle.pua_jointly.specs.declared.crew.Watch.{Watch}
use Rattle.pua_jointly.proofs.JointSides.{kept_more, kept_still}
use Rattle.pua_jointly.proofs.setup.watches_on.Goals as goal
use Rattle.pua_jointly.proofs.setup.watches_on.Goals.{else-is_on_device, then-is_on_device+in_ok-push}

pub loop-watch-preserved : goal.loop-watch-preserved
loop-watch-preserved c =
    let test : Watch → Bool = λ watch. is_on_device c.args.devices.now c.args.device watch.dir in
    let all : List Watch = c.args.watches.now in
    let i : ℕ = c.loop-watch.watch-index in
    let watch : Watch = c.watch-item.result in
    let low = c.loop-watch-test.true in
    elim c.if-is_on_device.branch [
      | then-is_on_device+in_ok-push w ↦ record {
        kept = ap (λ v. v.items) w.kept-is ∙ w.in_ok-push.ensures.items ∙ ap (λ xs. xs ++ watch ∷ []) c.loop-watch.invariant.kept
            ∙ sym (kept_more test all i watch low c.watch-item.is (sym c.is_on_device.ensures ∙ w.if-is_on_device.true));
      }
      | else-is_on_device w ↦ record {
        kept = ap (λ v. v.items) w.kept-is ∙ c.loop-watch.invariant.kept
            ∙ sym (kept_still test all i watch low c.watch-item.is (sym c.is_on_device.ensures ∙ w.if-is_on_device.false));
      }
    ]
