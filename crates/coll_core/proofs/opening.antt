pub mod Opened
pub mod Groups
