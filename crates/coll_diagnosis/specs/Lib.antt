-- from whom the members of a collective hear
pub mod Hearings
-- for whom completions wait in a reading
pub mod Readings
-- what a verdict means, and its exit status
pub mod Meanings
-- what JSON tells beside a verdict
pub mod Details
-- what an explanation says, and that it is true
pub mod Verdicts
-- which fault an explanation never ends in
pub mod Unstalled
pub mod Standing
pub mod StandingRows
-- a text with one line moved, and what is promised of a move
pub mod Cures
pub mod CureRows
