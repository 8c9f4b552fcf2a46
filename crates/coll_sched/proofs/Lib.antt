-- main lemmas: from the heart to the collective's value, and that what is quiet has heard
pub mod Serving
pub mod Quiet
pub mod Tracked
pub mod Track
-- rounds and points of a schedule
pub mod Rounds
pub mod Counts
pub mod Orders
pub mod Points
pub mod Writers
-- worlds: views of an instance
pub mod Views
-- for builders
pub mod Builders
-- regions and lists
pub mod Buffers
pub mod Each
