-- what a text says
pub mod Cutting
pub mod Reading
pub mod Histories
pub mod Lines
pub mod Judging
pub mod Requests
-- laws
pub mod Writing
pub mod Laws
pub mod Rows
-- what the code keeps and owes
pub mod Naming
pub mod Sound
pub mod Code
