-- layouts, moves, walks, and the nodes beside a node
pub mod Layouts
pub mod Moves
pub mod Neighbours
pub mod Walks
-- worked rows
pub mod Rows
-- what functions promise one another: the columns that show a layout, and what a move keeps
pub mod WellLinked
pub mod Columns
pub mod Keeping
