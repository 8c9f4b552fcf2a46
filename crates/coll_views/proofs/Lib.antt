pub mod Lending
pub mod Loops
