-- what an engine is opened with for a job, and what a run of it is
pub mod Opened
pub mod Commands
pub mod Runs
-- what its report says, and that it is the job's meaning
pub mod Lines
pub mod Laws
-- why a run has no result, and which fault is reported
pub mod Faults
-- worked rows
pub mod AttestedRows
pub mod FaultRows
-- what functions of this crate promise one another, on the way to the lines
pub mod Missing
pub mod Index
