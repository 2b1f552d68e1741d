-- A row of the table that the code keeps, and what is said of its call.
use Rattle.std.specs.Prelude.{◌∷◌, option_map}
use Rattle.pua_calls.specs.Calls.{About, listed}
use Rattle.pua_calls.specs.declared.call.Facts.{Facts}

abbrev pub seen_facts : Facts → About
seen_facts row = record {
  number = row.number;
  name = row.name.now;
  standard = listed (option_map (λ set. set.0) row.standard);
  openbsd = row.openbsd.0 ∷ listed (option_map (λ set. set.0) row.other);
  perms = row.perms.0;
  last = row.last;
  ending = row.ending;
  fits = row.fits;
  effect = row.effect;
  turns = row.turns;
}
