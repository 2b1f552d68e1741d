use Rattle.pua_ever.proofs.Common.{◌≡◌, ◌∙◌, ap, sym, subst, cond, None, Some}
use Rattle.std.proofs.lemmas.Result.{IfOk-weaker}
use Rattle.pua_ever.specs.Ever.{kept_on}
use Rattle.pua_ever.specs.Destinations.{StaysPut}
use Rattle.pua_ever.specs.Movable.{IsMovable}
use Rattle.pua_ever.proofs.Found.{stays_put}
use Rattle.pua_ever.proofs.list.movable_by.Goals as goal

pub returns-then-own : goal.returns-then-own
returns-then-own c = λ t is own.
    let h = c.args.process.now in
    let on : kept_on t h c.args.own.now.device ≡ None =
    ap (λ b. cond b None (Some c.args.own.now.device)) (own.1 ∙ c.if-own.true) in
    subst (λ on. IsMovable t c.args.table.now h on c.anywhere.result) (sym on)
    (subst (IsMovable t c.args.table.now h None) (sym c.anywhere.ensures) is.movable)

pub returns : goal.returns
returns c =
    let h = c.args.process.now in
    IfOk-weaker c.movable_on.result _ _ (λ movable so t is own.
    let on : kept_on t h c.args.own.now.device ≡ Some c.args.own.now.device =
    ap (λ b. cond b None (Some c.args.own.now.device)) (own.1 ∙ c.if-own.false) in
    subst (λ on. IsMovable t c.args.table.now h on movable) (sym on)
    (so t is (subst (StaysPut t h) on (stays_put t h c.args.own.now.device)))) c.movable_on.ensures
