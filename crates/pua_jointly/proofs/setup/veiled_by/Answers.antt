use Rattle.pua_jointly.proofs.Common.{◌<◌, ◌∙◌, ap, false, inl, inr, length, list_any, None≢Some, Place, ProcessState, subst, sym, ℕ, List, Bool}
use Rattle.std.specs.Borrow.{Bor}
use Rattle.std.proofs.lemmas.Bool.{cases_lt}
use Rattle.std.proofs.lemmas.Option.{get_or_from_slice_get, slice_get_past}
use Rattle.pua_jointly.specs.JointMembers.{veil_now}
use Rattle.pua_jointly.specs.JointSetting.{is_on}
use Rattle.pua_jointly.proofs.JointGathered.{any_map}
use Rattle.pua_jointly.proofs.JointNames.{no_veil}
use Rattle.pua_jointly.proofs.setup.veiled_by.Goals as goal

pub returns : goal.returns
returns c = λ dir none.
    let h : ProcessState = c.args.process.now in
    let veiled : List Bool = c.in_ok-veiled.veiled.items in
    let low : dir < length veiled =
    elim (cases_lt dir (length veiled)) [
      | inl below ↦ below
      | inr past ↦ absurd (None≢Some false (sym (slice_get_past veiled dir past) ∙ none))
    ] in
    no_veil h dir
    (sym (c.in_ok-veiled.ensures.marked dir (subst (λ n. dir < n) c.in_ok-veiled.ensures.full low)
    ∙ ap (list_any (λ (veil : Bor Place × Bor ℕ). is_on dir veil.0.now)) c.deref.ensures.value
    ∙ any_map (λ (veil : Place × ℕ). is_on dir veil.0) veil_now c.in_ok-veils.veils.items
    ∙ ap (list_any (λ (veil : Place × ℕ). is_on dir veil.0)) c.in_ok-veils.ensures.state)
    ∙ get_or_from_slice_get veiled dir false false none)
