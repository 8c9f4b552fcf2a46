-- main lemmas: a text is judged line by line, its first fault is the first, and what is accepted could have been written
pub mod JudgedLines
mod First
mod Accepted
mod Sayable
mod Allowed
-- what is written is read again
mod Again
mod SaidAgain
mod Texts
mod Cuts
-- the history of a text: requests and their places
mod Sounds
mod Soundly
mod Requested
mod Placed
mod Commanded
mod Inactive
pub mod Growing
-- words, numbers, counts and values of a line
mod Numbers
mod Counted
pub mod Contributions
mod Valued
mod Marks
-- what reading and waiting keep
mod Keeping
mod Readers
mod Waiting
-- lists
pub mod Lists
