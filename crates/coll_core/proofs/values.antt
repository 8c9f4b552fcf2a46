pub mod Below
pub mod Regions
pub mod Options
pub mod NumberBytes
pub mod PartedRows
