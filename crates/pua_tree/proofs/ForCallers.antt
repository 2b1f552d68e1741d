-- What the proofs of crates above may cite, beside the definitions and the laws.
pub use Rattle.pua_tree.proofs.Base.{holds, same_Some, None≢Some, Some≢None, none, guarded, mapped, Err≢Ok, same_Ok, past, passed, tested}
pub use Rattle.pua_tree.proofs.Base.{ok_or_read, result_ok_read, step_read, step_from, only_if_read, only_if_same, same_word, other_word}
pub use Rattle.pua_tree.proofs.Base.{nat_tie, greater, first_passes, find-map, map-reverse}
-- spots have one order, and tie where they are the same
pub use Rattle.pua_tree.proofs.Content.{spots_total, exact_spots}
-- a climb, step by step
pub use Rattle.pua_tree.proofs.Sound.{climb_here, climb_root, climb_more, climb_last}
-- the lines of a text
pub use Rattle.pua_tree.proofs.Lines.{lines_agree}
-- spellings, names, numbers and fields
pub use Rattle.pua_tree.proofs.Spellings.{is_byte, is_visible, unspelled-spelling, spelling-unspelled, bytes_unspelled, spelling_tells}
pub use Rattle.pua_tree.proofs.Spellings.{name_is_bytes, name_of-spelling, name_read, decimal_within, number_read, fields_cons, fields_one}
pub use Rattle.pua_tree.proofs.Spellings.{fields_joined, visible_decimal, visible_spelling, is_field-decimal, is_field-spelling}
-- a tree that is sound: what a row says, the one row of a directory, and the way up from it
pub use Rattle.pua_tree.proofs.Sound.{Sound, Reaches, InRow, sound_from, row_says, row_of, above_is, above_dir, climb_ends, same_dir}
pub use Rattle.pua_tree.proofs.Tallies.{only_key}
-- what each edit leaves is a tree, and a directory lives
pub use Rattle.pua_tree.proofs.EditsKeep.{edits_keep_trees, is_living_dir}
-- no edit takes a directory off its device
pub use Rattle.pua_tree.proofs.DevicesKeep.{edits_keep_devices}
-- what is found at a key, also after another one was put or taken away, tests of all entries or of some, and how often a value is found
pub use Rattle.pua_tree.proofs.Tallies.{same_or_other, put_here, put_elsewhere, without_here, without_elsewhere, all_found, none_found}
pub use Rattle.pua_tree.proofs.Tallies.{all_from_found, tally_counts, tally_found}
-- what a listing is, and what is true of an entry that fits those before it
pub use Rattle.pua_tree.proofs.ListingGrammar.{listings_are_read, listings_list_trees}
pub use Rattle.pua_tree.proofs.Entries.{Fits, fits_parts}
-- the set of the names in a list, with the name in one element more
pub use Rattle.pua_tree.proofs.SlotsNames.{one_name_more}
-- of two spots in order the later is of no lower directory, and the row of a number is found among those that are lent
pub use Rattle.pua_tree.proofs.Rows.{not_lower, found_spot}
