-- the core: none is Done early, what is quiet is settled; then runs, the calls in them, and where they stall
pub mod Hearing
pub mod Running
pub mod Calling
pub mod Stalling
mod CoreRows
-- ports: who owns which request, who is blocked in which line, and what lies under the lock
mod Owning
mod Blocking
mod Registering
mod Staying
mod Lining
mod Locking
mod PortRows
