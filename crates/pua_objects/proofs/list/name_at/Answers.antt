use Rattle.pua_objects.proofs.Common.{◌∷◌, ◌+◌, map, drop, sym, ap, ◌∙◌, arith, length-map, eqb-true, names_at, spot_now}
use Rattle.std.proofs.lemmas.Bool.{eqb-false}
use Rattle.std.proofs.lemmas.List.{get_or_default}
use Rattle.pua_objects.proofs.Ranges.{lent_within, lent_at, own_left, other_left, none_left}
use Rattle.pua_objects.proofs.list.name_at.Goals as goal

pub returns-then-next-spots-clause-name : goal.returns-then-next-spots-clause-name
returns-then-next-spots-clause-name c = λ rises passed.
    none_left c.args.dir (map spot_now c.args.spots.now) c.args.next (omega (arith, length-map c.args.spots.now spot_now))

pub returns-then-eq-clause-name : goal.returns-then-eq-clause-name
returns-then-eq-clause-name c = λ rises passed.
    let lent = c.args.spots.now in
    let n = c.args.next in
    let x = c.index-spots-next-2.result in
    let same = get_or_default lent n c.index-spots-next.result x c.if-next-spots.false ∙ sym c.index-spots-next-2.is in
    own_left c.args.dir (map spot_now lent) n (spot_now x) (lent_within lent n c.if-next-spots.false)
    (lent_at lent n x c.if-next-spots.false c.index-spots-next-2.is)
    (ap (λ y. y.0) (sym same) ∙ eqb-true _ _ (sym c.eq.ensures ∙ c.if-eq.true))
    ∙ ap (λ y. y.1.now ∷ names_at c.args.dir (drop (n + 1) (map spot_now lent))) c.index-spots-next-2.is

pub returns-else-eq-clause-name : goal.returns-else-eq-clause-name
returns-else-eq-clause-name c = λ rises passed.
    let lent = c.args.spots.now in
    let n = c.args.next in
    let x = c.index-spots-next-2.result in
    let same = get_or_default lent n c.index-spots-next.result x c.if-next-spots.false ∙ sym c.index-spots-next-2.is in
    other_left c.args.dir (map spot_now lent) n (spot_now x) (lent_within lent n c.if-next-spots.false)
    (lent_at lent n x c.if-next-spots.false c.index-spots-next-2.is) rises passed
    (λ e. eqb-false _ _ (sym c.eq.ensures ∙ c.if-eq.false) (ap (λ y. y.0) same ∙ e))
