-- what bytes with several owners are, and buffers that are made of them
pub mod Memories
pub mod Overlaps
pub mod Laid
pub mod Contents
-- worked rows
pub mod Rows
