-- what an export did, in the words of its answer
mod Answering
pub mod ListAnswers
mod Recoding
mod Coding
-- what C hands in: groups and counts
mod Cutting
mod Totals
mod Padding
-- boxes of engines
mod Boxes
mod Words
