-- main lemmas: each call keeps what the lock keeps, as a step of the machine
pub mod Keepers
pub mod Entering
-- what ports are told, of what they wait for, and of a deadlock
pub mod Telling
pub mod Awaiting
pub mod RankBits
pub mod PortWaits
pub mod Stalling
-- counts of a rank, and the closing
pub mod Balances
pub mod Counting
pub mod Closings
pub mod Places
-- lists
pub mod Setting
-- worked rows
pub mod Rows
