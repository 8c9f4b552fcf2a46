-- what a member's schedule has it do
pub mod Works
-- the requests of a trace
pub mod Requests
-- the posts and starts of a rank, with their lines
pub mod StartLines
-- elements, signatures, entries and outcomes as text
pub mod Texts
pub mod Lines
-- what entries add to the tables, what that adds up to, and how it is written
pub mod Rows
pub mod Totals
pub mod Tables
