-- what a port tells of requests and plans
pub mod Telling
pub mod Planning
pub mod Starts
pub mod Sleepers
pub mod Successors
-- threads and programs of ranks
pub mod RankThreads
pub mod RankPrograms
