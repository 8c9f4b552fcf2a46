-- what is read decides the verdict, and how it is explained
pub mod Meaning
pub mod Answering
pub mod Heading
pub mod Cutting
-- from whom a member hears
mod HearingRounds
-- how the lines of ranks that wait follow one another
mod Telling
