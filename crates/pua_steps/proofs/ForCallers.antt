-- What crates above cite of the proofs of this one, beside the definitions and the laws.

-- the pairs of a table are of its letters, and of calls that there are
pub use Rattle.pua_steps.proofs.Within.{reach_is_within}
-- all states to which words lead
pub use Rattle.pua_steps.proofs.LinkSets.{all_reached}
-- sums of the same
pub use Rattle.pua_steps.proofs.Counting.{total_same}
-- lemmas of lists
pub use Rattle.pua_steps.proofs.Base.{all_weaker, all_filtered, all_flat, all_joined, all_front, all_pushed, any_flat, passes, passing}
pub use Rattle.pua_steps.proofs.Base.{all_at_index, filter-map, filter-none}
