-- lists of commands of which one is changed
mod Fixing
-- a call amounts to a wait for what it completes, so each run of a job is one of a job in which that is fixed
mod Amounting
mod Splitting
-- what is kept of ranks is true of such jobs; no run stalls where none of them does
mod Placed
mod Showing
-- what is listed covers what a call may complete
mod Covering
