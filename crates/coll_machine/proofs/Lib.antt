-- main lemmas: runs and traces, and that a Done request stays so
mod Running
pub mod Tracing
pub mod Held
pub mod Posted
-- what an accepted call says
pub mod Accepted
pub mod First
pub mod Members
-- sums that change with each entry
pub mod Slots
pub mod Rooms
pub mod Lending
-- functions and lists
pub mod Puts
pub mod Pushed
-- worked rows
pub mod Rows
