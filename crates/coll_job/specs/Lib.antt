-- what the words of a command line ask for
pub mod Tasks
-- how a task ends
pub mod Endings
-- what the files on a run get
pub mod Pages
