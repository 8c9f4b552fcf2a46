-- instances and messages as maps' entries
pub mod Standing
pub mod Shares
pub mod CombinedRows
pub mod Messages
pub mod Sizes
pub mod Hints
-- functions
pub mod Puts
