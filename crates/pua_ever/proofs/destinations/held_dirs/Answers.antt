use Rattle.pua_ever.proofs.Common.{◌∙◌, ◌||◌, ap, arith, list_any}
use Rattle.std.proofs.lemmas.List.{take_all}
use Rattle.pua_policy.specs.declared.place.Place.{Place}
use Rattle.std.specs.Borrow.{Bor}
use Rattle.pua_ever.specs.Destinations.{has_mount, holds_dir}
use Rattle.pua_ever.proofs.Picked.{any_mapped}
use Rattle.pua_ever.proofs.destinations.held_dirs.Goals as goal

pub returns : goal.returns
returns g c = λ dir.
    let t = g.T.FileTree.content c.args.tree.now in
    let h = c.args.process.now in
    c.loop-place.invariant.found dir
    ∙ ap (λ places. has_mount t dir || list_any (λ (place : Bor Place). holds_dir t h dir place.now) places)
    (take_all c.loop-place.place-index c.args.places.now (omega (arith, c.loop-place-test.false)))
    ∙ ap (λ b. has_mount t dir || b) (any_mapped (λ (place : Bor Place). place.now) (holds_dir t h dir) c.args.places.now)
