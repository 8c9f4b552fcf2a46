-- the meaning of a text
pub mod Postings
pub mod Matching
pub mod Jobs
pub mod Belonging
pub mod Meaning
pub mod Configs
pub mod Rows
-- a script, and what holds of every one
pub mod PostingViews
pub mod Scripts
-- why there is no answer, and how reading and answering end
pub mod Faults
pub mod Plain
-- what functions of this crate promise one another, on the way to the meaning
pub mod Keeping
pub mod Outcomes
pub mod Prints
pub mod Growing
