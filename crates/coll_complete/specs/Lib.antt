-- what an engine knows of a caller's requests, and what the calls over them are
pub mod Requests
pub mod Completing
pub mod Doing
pub mod Anys
pub mod Starting
-- worked rows
pub mod Rows
