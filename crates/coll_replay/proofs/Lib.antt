-- what ranks hold, as functions; what calls do for a rank; what ranks come to
pub mod Holdings
pub mod Sweeping
pub mod CarriedOut
pub mod Stands
pub mod Replays
-- worked rows
mod Rows
