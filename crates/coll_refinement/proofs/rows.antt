pub mod Posts
pub mod Starts
