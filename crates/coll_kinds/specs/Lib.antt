-- the limits, types, words, lengths and rules of the profile
pub mod Limits
pub mod Elements
pub mod Words
pub mod Texts
pub mod Groups
pub mod Lengths
pub mod Needs
pub mod Calls
pub mod Checks
pub mod Refusals
-- worked rows
pub mod Rows
-- what functions promise one another: equality as it is computed, and a function changed at one number
pub mod Sameness
pub mod Puts
-- these, passed on from one place
pub mod Common
