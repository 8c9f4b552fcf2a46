pub mod WorkOut
pub mod Commit
pub mod Abandon
pub mod CombinedRows
