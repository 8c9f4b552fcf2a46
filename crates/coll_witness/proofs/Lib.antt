-- an explanation by all runs, or by some
pub mod Saying
