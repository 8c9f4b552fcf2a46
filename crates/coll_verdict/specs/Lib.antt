-- how a job goes on, and what holds where none of its runs comes to the end
pub mod Standings
pub mod Stalls
-- with a library of which it is known for whom its requests wait
pub mod Waiting
-- what a rank's commands say of its requests, and stands that no run goes beyond
pub mod Sketches
pub mod Stands
-- an order in which no rank waits
pub mod Passes
-- runs that can't go on
pub mod Lasts
-- the checker's tests, and what its functions owe
pub mod Checking
pub mod Code
-- laws, and worked rows
pub mod Laws
pub mod Rows
