-- main lemmas: what is drawn is what the plan's family does
pub mod Drawn
pub mod Messages
pub mod Counting
pub mod Refusing
-- lists that loops make
pub mod Steps
