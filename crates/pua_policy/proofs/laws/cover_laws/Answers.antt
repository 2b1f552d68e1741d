use Rattle.pua_policy.proofs.Veils.{veils_are_kept, cover_needs_unveil, nearest_counts, kept_places_narrow}
use Rattle.pua_policy.proofs.laws.cover_laws.Goals as goal

pub returns : goal.returns
returns c = record { kept = veils_are_kept; unveils = cover_needs_unveil; nearest = nearest_counts; narrows = kept_places_narrow }
