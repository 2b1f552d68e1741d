use Rattle.pua_why.proofs.Common.{◌≡◌, ◌∙◌, ℕ, [], ◌∷◌, None, Some, Ok, Option, refl, rules, subst, sym, Tree, CallTable, ProcessState, CopyAs, World}
use Rattle.pua_why.proofs.Common.{unless_refused, Fork, promising, Fault, unpromised_fault, change_or_fault, refused_by}
use Rattle.std.specs.Prelude.{IsFalse}
use Rattle.std.proofs.lemmas.Result.{IfOk-weaker}
use Rattle.pua_calls.specs.Promises.{proc}
use Rattle.pua_script.specs.Worlds.{is_of_two, world_of}
use Rattle.pua_script.specs.declared.request.Action.{Action}
use Rattle.pua_why.specs.Checked.{checks_fault, process_fault}
use Rattle.pua_why.proofs.Plain.{plain_checks}
use Rattle.pua_why.proofs.reasons.further_fault.Goals as goal

-- a fork whose promise is held is checked by the process that it makes
module _ (w : World) (h : ProcessState) (new : ℕ) where
  promised : (p : Option Fault) → None ≡ refused_by (unless_refused p (Ok (CopyAs new))) →
      process_fault w h (CopyAs new) ≡ checks_fault w h (unless_refused p (Ok (CopyAs new)))
  promised None none = refl
  promised (Some fault) none = cc

  forked : (table : CallTable) (t : Tree) (action : Action) → action ≡ Fork new → None ≡ refused_by (change_or_fault table t h action) →
      process_fault w h (CopyAs new) ≡ checks_fault w h (change_or_fault table t h action)
  forked table t action is = subst (λ a. None ≡ refused_by (change_or_fault table t h a) →
      process_fault w h (CopyAs new) ≡ checks_fault w h (change_or_fault table t h a)) (sym is)
      (promised (unpromised_fault (promising h (proc ∷ []))))

pub returns-in-Fork : goal.returns-in-Fork
returns-in-Fork g c = IfOk-weaker c.process_fault.result _ _ (λ fault told none. told c.args.process.now
    ∙ forked (world_of c.args.world.now) c.args.process.now _ c.args.world.now.table c.args.world.now.tree c.args.action.now c.in-Fork.is none)
    c.process_fault.ensures

pub returns-in_default : goal.returns-in_default
returns-in_default g c =
    let other : IsFalse (is_of_two c.args.action.now) = search rules in
    λ none. none ∙ sym (plain_checks (world_of c.args.world.now) c.args.process.now c.args.world.now.table c.args.world.now.tree c.args.process.now
    c.args.action.now other)
