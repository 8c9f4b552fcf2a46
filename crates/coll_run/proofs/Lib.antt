-- main lemmas: the lines of a run are its job's
pub mod Meant
pub mod Telling
pub mod Asking
mod Comparing
-- threads and their results
mod Ending
mod RankEnds
-- completions and lines in memory
mod Indexing
mod Printed
-- worked rows
mod AttestedRows
