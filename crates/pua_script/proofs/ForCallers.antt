-- What crates above cite of the proofs of this one, beside the definitions and the laws.

-- what becomes of a family, and what it leaves of the tree
pub use Rattle.pua_script.proofs.Families.{families_narrow}
pub use Rattle.pua_script.proofs.Holding.{families_hold}
pub use Rattle.pua_script.proofs.Confined.{families_confine}
pub use Rattle.pua_script.proofs.KeepTrees.{replays_keep_trees}
-- what is read is bytes, and what requests in bytes leave
pub use Rattle.pua_script.proofs.InBytes.{replays_keep_byte_trees, listings_list_byte_trees, scripts_ask_in_bytes}
-- the rules that a command names are tables that the laws speak of
pub use Rattle.pua_script.proofs.WorldsLeft.{rules_narrow}
-- what requests of others leave, and what a fork copies
pub use Rattle.pua_script.proofs.Others.{others_leave, others_leave_always, forks_copy}
-- a process within another: the same covers, and no more is allowed
pub use Rattle.pua_script.proofs.Allowing.{IsWithin, same_cover, may_yes, verdicts_within}
-- who lives after an event lived before it
pub use Rattle.pua_script.proofs.Tightening.{still_ended}
-- who keeps each other's veils has the same veils
pub use Rattle.pua_script.proofs.SameVeils.{is_kept, veils_kept, veils_alike}
-- the members of a family, one request after another
pub use Rattle.pua_script.proofs.Families.{Belongs, Members, begins, members_then, members_after}
-- what one request leaves of the rows without `c`, or two of them, and what it leaves by other processes with the same veils
pub use Rattle.pua_script.proofs.Confining.{each_spares, spared_twice}
pub use Rattle.pua_script.proofs.Confined.{by_other, first_tree, at_all}
-- what a text named is of the tree, a cover that has what needs `c` has `c` and what `c` alone needs, and so has the
-- row of what was found under it
pub use Rattle.pua_script.proofs.Possible.{name_fits}
pub use Rattle.pua_script.proofs.Spared.{c_from_cover, covered_by_c, has_spot}
-- what is so of each change once its guards are passed is so of what a request leaves
pub use Rattle.pua_script.proofs.Applied.{by_request, by_living, by_decision, by_tree, by_own_tree}
pub use Rattle.pua_script.proofs.Changing.{by_placing, by_making, by_cutting, by_filing, by_going, by_rooting, by_tying, by_moves}
-- a call that makes a node is one of those that change names
pub use Rattle.pua_script.proofs.Unchanged.{adding_changes}
pub use Rattle.pua_script.proofs.Guarding.{decisions_are_guarded, first_none, second_none, not_faulty, takes_ask}
-- what is decided passes the checks of the table by which lists for ever go, which allows no less and needs the same permissions; what a
-- promise opens is no exec
pub use Rattle.pua_script.proofs.Widened.{changes_granted, opened_either, opened_no_exec, tmp_may, tmp_perms, tmp_table_allows}
pub use Rattle.pua_script.proofs.Unchanged.{changing_needs_too}
pub use Rattle.pua_script.proofs.Opened.{okays_are_accounted, openings_are_held, openings_narrow}
-- a request is answered ENOSPC exactly where it was granted a change for which there is no room
pub use Rattle.pua_script.proofs.RequestRoom.{requests_lack}
-- the world after one request more
pub use Rattle.pua_script.proofs.Composition.{one_request_more}
-- a script is read exactly as the requests that its lines spell
pub use Rattle.pua_script.proofs.Grammar.{scripts_are_read}
-- what is found at a number after a value was put there or elsewhere, and what putting back what was found leaves
pub use Rattle.pua_script.proofs.Entries.{found_put, found_elsewhere, put_there, put_back}
