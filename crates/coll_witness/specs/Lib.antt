-- what replayed runs show, how it is said, and that it is true
pub mod Findings
