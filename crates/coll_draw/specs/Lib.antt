-- what a drawing shows, and how much of each there is
pub mod Drawings
pub mod Counts
-- laws
pub mod Laws
-- what the crate's functions promise one another
pub mod Code
-- worked rows
pub mod DrawingRows
