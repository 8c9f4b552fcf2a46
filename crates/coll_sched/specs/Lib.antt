-- actions, schedules, and what a family of them computes
pub mod Regions
pub mod Actions
pub mod Schedules
pub mod Families
pub mod Points
-- an instance as it runs in any order, and the laws of that
pub mod Worlds
pub mod Tracks
pub mod Heart
pub mod Served
pub mod Tracked
pub mod Views
-- laws of one round
pub mod Orders
pub mod Writers
-- worked rows
pub mod Rows
-- these, passed on from one place
pub mod Common
