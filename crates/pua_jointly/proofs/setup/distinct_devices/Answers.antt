use Rattle.pua_jointly.proofs.Common.{◌≡◌, ◌∙◌, ◌∷◌, ◌++◌, [], ◌==◌, ap, arith, contained, eq-eqb, eqb-true, false≢true, inl, inr, list_any}
use Rattle.pua_jointly.proofs.Common.{List, refl, subst, sym, take, ℕ}
use Rattle.std.specs.Prelude.{◌+◌}
use Rattle.std.specs.List.{Contains}
use Rattle.pua_ever.proofs.ForCallers.{any_among, any_found}
use Rattle.pua_jointly.specs.JointPlace.{Once}
use Rattle.std.proofs.lemmas.Grind.{common_steps}
use Rattle.pua_jointly.proofs.JointGathered.{at_last, in_front, in_last, taken_all}
use Rattle.pua_jointly.proofs.JointMembers.{once_more, taken_more}
use Rattle.pua_jointly.proofs.setup.distinct_devices.Goals as goal
use Rattle.pua_jointly.proofs.setup.distinct_devices.Goals.{else-not-is_among, then-not-is_among+in_ok-push}

pub loop-device-preserved : goal.loop-device-preserved
loop-device-preserved c =
    let i : ℕ = c.loop-device.device-index in
    let all : List ℕ = c.args.devices.now in
    let device : ℕ = c.device-item.result in
    let kinds : List ℕ = c.loop-device.kinds.items in
    let inv = c.loop-device.invariant in
    let more : take (i + 1) all ≡ take i all ++ device ∷ [] = taken_more all i device c.loop-device-test.true c.device-item.is in
    let asked : c.is_among.result ≡ list_any (λ kind. kind == device) kinds =
    c.is_among.ensures ∙ ap (list_any (λ kind. kind == device)) c.deref.ensures.value in
    elim c.if-not-is_among.branch [
      | then-not-is_among+in_ok-push w ↦
          (let items : c.if-not-is_among.kinds.items ≡ kinds ++ device ∷ [] = ap (λ v. v.items) w.kinds-is ∙ w.in_ok-push.ensures.items in
          record {
            once = subst Once (sym items) (once_more kinds device inv.once (λ a.
                false≢true (sym w.if-not-is_among.true ∙ asked ∙ any_among (λ kind. kind == device) kinds device a (eq-eqb device device refl))));
            all = λ on has. subst (λ xs. Contains xs on) (sym items)
                (elim (in_last (take i all) device on (subst (λ xs. Contains xs on) more has)) [
                  | inl one ↦ in_front kinds device on (inv.all on one)
                  | inr two ↦ subst (Contains (kinds ++ device ∷ [])) two (at_last kinds device)
                ]);
          })
      | else-not-is_among w ↦
          (let items : c.if-not-is_among.kinds.items ≡ kinds = ap (λ v. v.items) w.kinds-is in
          let found = any_found (λ kind. kind == device) kinds (sym asked ∙ w.if-not-is_among.false) in
          let there : Contains kinds device = subst (Contains kinds) (eqb-true found.0 device found.2) (contained kinds found.0 found.1) in
          record {
            once = subst Once (sym items) inv.once;
            all = λ on has. subst (λ xs. Contains xs on) (sym items)
                (elim (in_last (take i all) device on (subst (λ xs. Contains xs on) more has)) [
                  | inl one ↦ inv.all on one
                  | inr two ↦ subst (Contains kinds) two there
                ]);
          })
    ]

pub returns-clause-all : goal.returns-clause-all
returns-clause-all c = λ device has.
    c.loop-device.invariant.all device (subst (λ xs. Contains xs device)
    (sym (taken_all c.args.devices.now c.loop-device.device-index (grind (arith, common_steps)))) has)
