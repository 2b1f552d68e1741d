use Rattle.pua_ever.proofs.Common.{◌∙◌, ap, filter_map}
use Rattle.pua_ever.specs.Comings.{around, at_name, device_at, inside}
use Rattle.pua_ever.proofs.ComingDevices.{place_is_on}
use Rattle.pua_ever.proofs.comings.Comings.taking.Goals as goal

pub returns : goal.returns
returns c = λ t table h are.
    record {
      names = place_is_on h (at_name t h) c.args.at.now c.args.self.now.names.items c.in_ok-devices_at.field-0.items (c.in_ok-devices_at.ensures ∙ ap (filter_map (device_at c.args.at.now)) c.deref.ensures.value) are.names;
      insides = place_is_on h (inside t h) c.args.at.now c.args.self.now.insides.items c.in_ok-devices_at-2.field-0.items (c.in_ok-devices_at-2.ensures ∙ ap (filter_map (device_at c.args.at.now)) c.deref-2.ensures.value) are.insides;
      arounds = place_is_on h (around t h) c.args.at.now c.args.self.now.arounds.items c.in_ok-devices_at-3.field-0.items (c.in_ok-devices_at-3.ensures ∙ ap (filter_map (device_at c.args.at.now)) c.deref-3.ensures.value) are.arounds;
    }
