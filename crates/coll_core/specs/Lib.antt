-- an engine: how it is opened, what callers learn of it, and what each call does
pub mod Configs
pub mod Communicators
pub mod Cores
pub mod Phases
pub mod Calls
pub mod Contributions
pub mod Posts
pub mod Numbers
pub mod Starts
pub mod Steps
pub mod Progress
pub mod Works
pub mod BetweenCalls
pub mod LockSteps
-- what functions promise one another on the way to a call's effect
pub mod Buffers
pub mod Requests
pub mod Advancing
pub mod Completions
