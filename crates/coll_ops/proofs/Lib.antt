-- main lemmas: what a value reads, and prefixes of combinations
pub mod Agreeing
pub mod Prefixes
pub mod Given
-- operations on elements and on rows
pub mod Associating
pub mod BitOperations
pub mod ElementBits
pub mod Bits
-- rows, their places, bytes and blocks
pub mod Places
pub mod RowLists
pub mod Blocks
pub mod RowBytes
