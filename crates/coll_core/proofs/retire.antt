pub mod Retire
pub mod RootRow
