-- an arena, and what its calls change
pub mod Slots
pub mod ListNames
pub mod Changes
pub mod Lends
pub mod TicketLists
-- the same by slot, with sums over slots, for the laws that crates above cite
pub mod Lookups
pub mod Homes
pub mod Totals
-- worked rows
pub mod Rows
-- what functions promise one another: what the fields show, and what holds of every arena
pub mod Views
pub mod Sound
