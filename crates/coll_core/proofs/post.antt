pub mod Post
pub mod Tests
pub mod FirstRefusal
pub mod Refused
pub mod Room
