-- what operations, combinations and collectives give
pub mod Operations
pub mod Combinations
pub mod Values
-- the laws that schedules rest on
pub mod Laws
-- worked rows
pub mod Rows
-- how the code's rows show what members gave
pub mod Contributions
