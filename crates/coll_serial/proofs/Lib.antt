-- the invariant of an engine
pub mod Keeping
pub mod Measuring
pub mod Outcomes
pub mod Refused
-- progress
pub mod Advancing
pub mod Handing
-- completions of lists into spans of memory
pub mod Listing
pub mod Completing
pub mod Finding
pub mod Spans
-- lists
pub mod Sets
