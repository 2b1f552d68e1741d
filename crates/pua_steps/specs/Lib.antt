-- Nothing here is part of the claim: the reach is defined without a walk. What the contracts of this crate are about, in
-- reading order.
pub mod Limits
pub mod Calls
pub mod Graph
pub mod Order
pub mod Trail
pub mod Table
pub mod Reached
pub mod Live
pub mod Lists
-- Worked rows, which hold by computation.
pub mod Examples
-- Notes: what a walk keeps, and what it has still to do.
pub mod Within
pub mod Telling
pub mod Ready
pub mod Resuming
