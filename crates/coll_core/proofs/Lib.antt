-- what holds between calls
pub mod between
-- posts and initialisations
pub mod post
-- starts and frees
pub mod start
-- completions
pub mod retire
-- steps: the first of Ready acts, sends, combines
pub mod step
-- combinations that are out, come back, or come back undone
pub mod commit
-- an engine that is opened
pub mod opening
-- numbers, options, regions
pub mod values
