-- What crates above cite of the proofs of this one, beside the definitions and the laws.

-- each veil in a list is what is kept at its place, where no place stands twice
pub use Rattle.pua_ever.proofs.KeptVeils.{among_kept_at}
-- a list for ever of one process where others leave the tree, behind what is read, and where nothing refuses it
pub use Rattle.pua_ever.proofs.Complete.{beside_one}
pub use Rattle.pua_ever.proofs.VeilPlacesGiven.{ever_after_read}
pub use Rattle.pua_ever.proofs.VeilsStandAtNames.{placed_after_read}
pub use Rattle.pua_ever.proofs.Lasts.{ever_lasts_after_read, none_starts_after_read}
pub use Rattle.pua_ever.proofs.Refused.{unrefused_table, unrefused_process}
-- whether some line has exec, by the rows, and that none starts anything where none has
pub use Rattle.pua_ever.proofs.RowsLast.{exec_told}
pub use Rattle.pua_ever.proofs.Through.{no_line}
-- what holds of what stands there holds of what a row is about; rows are on who holds both sets too
pub use Rattle.pua_ever.proofs.ComingRows.{by_standing}
pub use Rattle.pua_ever.proofs.RowsLast.{rows_by_both}
-- the list that holds longest, by who holds both sets
pub use Rattle.pua_ever.proofs.Chosen.{lasting_unbounded, lasting_alone, lasting_through, starts_none, starts_open}
-- what is shown of it: cut or whole, and by who has the root of the tree whole
pub use Rattle.pua_ever.proofs.ShownChosen.{shown_unbounded, shown_unstarted, shown_bounded, shown_starts_none, shown_starts_open}
pub use Rattle.pua_ever.proofs.ShownChosen.{shown_starts_bounded, whole_lasting, whole_longest, whole_execs}
pub use Rattle.pua_ever.proofs.ShownLasts.{ever_shown_after_read, none_shown_after_read, whole_foresees}
-- what an item is about stands in its tree, what covers that now is among the covers under which it can come, and which others are
pub use Rattle.pua_ever.proofs.Now.{StandsNow, items_stand, dir_cover, file_cover}
pub use Rattle.pua_ever.proofs.Ending.{named_moved, named_linked}
-- a directory is allowed what one is of which more can be asked
pub use Rattle.pua_ever.proofs.KindFaults.{dir_alike}
-- what some element passes
pub use Rattle.pua_ever.proofs.Ways.{any_among, any_found}
-- who holds both sets
pub use Rattle.pua_ever.proofs.Through.{within_both}
pub use Rattle.pua_ever.proofs.Holding.{goes, along_now, may_holds, bound_parts}
-- what promises allow
pub use Rattle.pua_ever.proofs.Complete.{yes_is}
-- what lives has a number that was given
pub use Rattle.pua_ever.proofs.Covers.{below_next}
-- two sets are within both
pub use Rattle.pua_ever.proofs.Through.{first_of, second_of}
-- what is so of a new process is so of each in a new world
pub use Rattle.pua_ever.proofs.Leaving.{first_so as first_new}
-- of lists of several processes with other veils: what one request leaves, and what a replay does
pub use Rattle.pua_ever.proofs.Along.{grown_within}
pub use Rattle.pua_ever.proofs.Growing.{takes, requests_grow}
pub use Rattle.pua_ever.proofs.Grown.{Grown, Put, Written, by_name, by_turn, From, IsNear, TurnsNear, row_device, is_new, is_moved, is_linked, Born}
pub use Rattle.pua_ever.proofs.Grown.{name_cover, new_kind}
pub use Rattle.pua_ever.proofs.Execs.{members_still}
pub use Rattle.pua_ever.proofs.Holding.{lacks_unveil, along_then}
pub use Rattle.pua_ever.proofs.NoExec.{execs_then}
pub use Rattle.pua_ever.proofs.Unedited.{yes_before}
pub use Rattle.pua_ever.proofs.Complete.{all_within}
pub use Rattle.pua_ever.proofs.VeilPlacesGiven.{new_places, replays_keep_places}
-- which numbers were given, which rows are new, and what stands above what
pub use Rattle.pua_ever.proofs.Covers.{given_or_new, dir_row, slot_row, own_dir, under_dir}
pub use Rattle.pua_ever.proofs.Quiet.{below_self, below_up, above_row, root_below, not_empty, way_up}
pub use Rattle.pua_ever.proofs.Ending.{named_link, one_new, parts_of, Parts}
pub use Rattle.pua_ever.proofs.KindFaults.{plain_alike}
pub use Rattle.pua_ever.proofs.Ways.{all_among}
-- what is made as a file may be a plain one
pub use Rattle.pua_ever.proofs.MadeKinds.{startable, file_starts, file_no_dir, file_no_link, start_no_dir, start_no_link}
pub use Rattle.pua_ever.proofs.ExecCalls.{exec_or_other}
-- rows of items and of their names, one after another
pub use Rattle.pua_ever.proofs.Lined.{freed_name}
pub use Rattle.pua_ever.proofs.Named.{own_name_is}
pub use Rattle.pua_ever.proofs.RowsTell.{all_more, freed_on, freed_thing, last_row_more, made_on, row_word, same_word, stands_on, told_more, near_at}
pub use Rattle.pua_ever.proofs.RowsTell.{own_last, standing_there, told_at}
