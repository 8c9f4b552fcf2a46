-- main lemmas: no run ends where the stands are closed; none stalls where ranks pass to their ends in order
pub mod Checked
pub mod Blocking
pub mod Ordered
pub mod Passing
mod Lasting
-- what a rank's requests are after some of its commands
pub mod Agreeing
pub mod Tracking
pub mod Telling
pub mod Sketched
pub mod Sure
pub mod Placing
mod Keeping
-- a library of which it is known for whom its requests wait
mod Heeding
-- steps of the machine, and lists
mod Changing
pub mod Listed
-- worked rows
mod Rows
mod LastRows
mod WaitingRows
