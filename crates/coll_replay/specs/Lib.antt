-- that some run of a job stalls, and that some run comes to its end
pub mod Witnesses
-- what calls do for a rank, and what ranks come to that carry their lines out by calls on a core
pub mod Calls
pub mod Playing
-- what witnesses mean for all runs, and worked rows
pub mod Laws
pub mod Rows
