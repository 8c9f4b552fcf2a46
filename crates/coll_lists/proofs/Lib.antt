-- main lemmas: a move shows the layout after it, and lists read alike both ways
pub mod Showing
pub mod WellLinked
pub mod Keeping
pub mod Lawful
-- a move in steps
pub mod Changing
pub mod Linking
pub mod Moving
pub mod Rings
-- walks and look-ups
pub mod Walking
pub mod Reading
pub mod Values
pub mod Occurrences
-- what `new` makes
pub mod Opening
