use Rattle.pua_ever.proofs.Common.{◌∙◌, ◌&&◌, ap, sym, is_dir, is_none, perms_kept, has_c}
use Rattle.pua_policy.specs.declared.place.Place.TheVariants as place
use Rattle.pua_ever.proofs.Found.{device_lives}
use Rattle.pua_ever.proofs.destinations.on_device.Goals as goal

pub cover_of_dir-cover-requires : goal.cover_of_dir-cover-requires
cover_of_dir-cover-requires g c =
    let t = g.T.FileTree.content c.args.tree.now in
    ap (is_dir t) c.device-device.ensures ∙ device_lives t c.known.ensures c.args.dir

pub returns-clause-on : goal.returns-clause-on
returns-clause-on g c =
    let t = g.T.FileTree.content c.args.tree.now in
    let h = c.args.process.now in (
      sym c.device-device.ensures,
      sym (c.goes_along.ensures ∙ ap (λ left. is_none (perms_kept h (place.Dir c.device-device.result)) && has_c left) c.cover_of_dir-cover.ensures),
    )
