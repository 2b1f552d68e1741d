-- What crates above cite of the proofs of this one, beside the definitions and the laws.

-- lists that rise, and facts of each element
pub use Rattle.pua_steps.proofs.ForCallers.{all_flat, all_joined, all_weaker}
pub use Rattle.pua_audit.proofs.Rising.{all_mapped, rises_filtered, rises_joined, rises_mapped, rises_flat, distinct_names_rise}
-- words and their paths
pub use Rattle.pua_audit.proofs.Paths.{IsPiece, letter_is_piece, path_is}
-- fewer pairs that are allowed make a reach that lies within another
pub use Rattle.pua_audit.proofs.SubLists.{fewer_reach_less}
-- a reach asks a tree for its rows and nodes alone
pub use Rattle.pua_audit.proofs.Renumbering.{reach_needs_rows}
-- `..` names what is above a directory, but at the root itself
pub use Rattle.pua_audit.proofs.Covers.{above_in_is}
