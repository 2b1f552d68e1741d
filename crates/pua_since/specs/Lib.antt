-- What is proved: a request that can't have changed a world leaves it the same.
pub mod Changes
-- Notes: how questions are kept from line to line, and what is told of them.
pub mod Watched
pub mod Dates
-- What a request touches, and which questions that concerns.
pub mod Concerns
-- Worked rows, which hold by computation.
pub mod Examples
