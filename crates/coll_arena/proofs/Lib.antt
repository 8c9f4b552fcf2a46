-- main lemma: every call keeps what holds of an arena
pub mod Sounds
pub mod Opening
-- the calls, and what each does to look-ups and sums
pub mod Calls
pub mod Lookups
pub mod Lents
pub mod Totals
-- where slots stand
pub mod Homes
pub mod Walking
