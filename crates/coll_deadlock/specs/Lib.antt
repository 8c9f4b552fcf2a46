-- the core: what is Done by this engine's schedules, and what runs of a job come to with it
pub mod Heard
pub mod Runs
pub mod CoreCalls
pub mod CoreLaws
pub mod CoreRows
-- ports that are blocked in the calls of a job's ranks
pub mod Lines
pub mod WaitCalls
pub mod Locks
pub mod PortLaws
pub mod PortRows
