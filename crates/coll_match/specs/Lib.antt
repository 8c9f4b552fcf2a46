-- what stands of one instance, and of all
pub mod Held
pub mod Instances
-- worked rows
pub mod Rows
-- what functions promise one another: what the fields show, and what a loan leaves
pub mod Lends
pub mod MessageBytes
pub mod Messages
pub mod Views
