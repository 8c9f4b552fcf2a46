-- what calls complete whose effect depends on time, and jobs in which it is fixed what one of them completes
pub mod Outcomes
-- what the check's functions test, and what they owe to the definitions
pub mod Choosing
pub mod Code
