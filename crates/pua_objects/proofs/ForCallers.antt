-- What crates above cite of the proofs of this one, beside the definitions and the laws.

-- what is among the elements of a list, also once it was mapped, filtered or joined
pub use Rattle.pua_objects.proofs.Among.{Among, among_left, among_right, among_either, among_map, map_among, among_filter, filter_among}
pub use Rattle.pua_objects.proofs.Among.{among_flat, flat_among, contained, among_contained}
pub use Rattle.pua_objects.proofs.Entries.{filter_map_among, among_filter_map}
-- covers go down from directory to directory
pub use Rattle.pua_policy.proofs.ForCallers.{covers_descend}
-- what stands in a row or at a veil is among what is found there, and what was found has an item
pub use Rattle.pua_objects.proofs.Listing.{found_among, found_dir, IsVisited, has_item}
-- a directory that stands in a row is named by it
pub use Rattle.pua_objects.proofs.Judged.{named_by_row}
-- each call is one of all calls, and what is allowed is so by its verdict
pub use Rattle.pua_objects.proofs.Completeness.{one_of_calls, some_of, failed, allowed_is, named_within_text}
-- what a list shows is by the root of its process
pub use Rattle.pua_objects.proofs.ShownLines.{shown_by_root}
-- the word of what was found
pub use Rattle.pua_objects.proofs.Lined.{word_seen}
-- words that have a front in common have each shorter one
pub use Rattle.pua_objects.proofs.Fronts.{less_same}
-- the items of a list as a vector, one after another, and the lines of items, of which those without calls are left out
pub use Rattle.pua_objects.proofs.ListGrows.{told_append, last_append}
pub use Rattle.pua_objects.proofs.Listed.{left_out, kept_in}
