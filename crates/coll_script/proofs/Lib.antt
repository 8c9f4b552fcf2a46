-- main lemmas: a text's script is what its lines tell, and what is printed is its meaning
pub mod Reading
mod Printed
pub mod Answering
mod Ending
-- what is judged after the last line
mod Matched
mod Matches
mod Earliest
mod Differing
mod Lacking
mod Final
-- requests, of a rank and on a communicator
pub mod Sections
pub mod Counting
mod Posted
-- values, and printing them
mod Valued
mod Shared
mod Finding
pub mod Printing
-- lists and reads
mod Slots
pub mod Loops
pub mod Consuming
