-- What crates above cite of the proofs of this one, beside the definitions and the laws.

-- climbing in a tree, one directory after another
pub use Rattle.pua_policy.proofs.Climbs.{climb_step, length-climb_step}
-- what a process keeps is what is left of a history, after each event and after an exec
pub use Rattle.pua_policy.proofs.Histories.{state_more, state_exec}
-- no event brings back a promise but `error`
pub use Rattle.pua_policy.proofs.PromisesGoAway.{state_never_grows}
-- what both of two sets have, the second has, and what a set holds, a set that holds it holds
pub use Rattle.pua_policy.proofs.PromisesGoAway.{second_holds}
pub use Rattle.pua_policy.proofs.Veils.{holds_through}
-- names without a veil of their own are covered as their directory is, and get one verdict where nothing stands
pub use Rattle.pua_policy.proofs.Unveiled.{unveiled_alike, unveiled_within, missing_alike}
-- covers, one directory after another
pub use Rattle.pua_policy.proofs.Climbs.{climb_root, nearest_here, nearest_above, nearest_root, nearest_whole}
-- covers go down from directory to directory
pub use Rattle.pua_policy.proofs.Descending.{covers_descend}
-- the veils that are kept, the test of places, and whether there is any veil
pub use Rattle.pua_policy.proofs.Veils.{same_place_is, same_place_refl, same_place_turned, still_unveiled}
pub use Rattle.pua_policy.proofs.Veils.{veiled_where_kept, once_more}
-- what is told of promises, of veils and of objects
pub use Rattle.pua_policy.proofs.Lacking.{suffices, least, lackings_hold, promisings_hold, promisings_answer}
pub use Rattle.pua_policy.proofs.Coverings.{coverings_cover}
pub use Rattle.pua_policy.proofs.NearestVeil.{coverings_hold}
pub use Rattle.pua_policy.proofs.Misfits.{misfits_hold}
