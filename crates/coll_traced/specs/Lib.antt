-- a core with its trace; what ports wait for, when nothing can go on, and what calls return
pub mod Traced
pub mod Moments
pub mod Ranks
pub mod Waits
pub mod Stalls
pub mod Calls
pub mod Denials
pub mod Endings
pub mod Tests
pub mod Awaiting
pub mod Unfinished
pub mod Operations
pub mod Closings
-- what a core with its trace did, as the completion calls over it say
pub mod Doing
-- what functions promise one another: what a post keeps, the entries of receipts, and the trace's room
pub mod Outcomes
pub mod Places
pub mod Receipts
pub mod Recorded
pub mod Prepared
-- a worked engine of which these records are false
pub mod Rows
