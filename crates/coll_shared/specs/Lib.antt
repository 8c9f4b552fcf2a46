-- what a caller sees of a port
pub mod Ports
-- starts of a list of requests
pub mod Starts
-- what a port publishes, and what the combiner makes of it
pub mod Publications
-- what becomes of combinations, and of ports that sleep
pub mod Writings
pub mod Sleepers
pub mod Successors
-- how the threads of an engine's ranks end, and what their programs give
pub mod HowEnded
pub mod RankThreads
pub mod RankPrograms
