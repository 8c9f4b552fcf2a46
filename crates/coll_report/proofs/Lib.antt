-- main lemmas: what a closed engine's outcomes are, and that an attested outcome is the trace's
pub mod Telling
pub mod Attesting
pub mod TracesTelling
pub mod Running
-- what holds of a state and of what ranks asked for
pub mod Standing
pub mod Counted
pub mod Valued
pub mod Handing
pub mod Strangers
-- lists and groups
pub mod Lists
pub mod Groups
-- worked rows
pub mod ScriptRows
pub mod Rows
