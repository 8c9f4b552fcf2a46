-- the machine: what stays and what changes, calls with their refusals and effects, runs
pub mod Settings
pub mod States
pub mod Calls
pub mod Refusals
pub mod Changes
pub mod Steps
pub mod Machines
pub mod Runs
-- its traces
pub mod Entries
pub mod Traces
pub mod Reports
pub mod Lents
-- laws of every run and of every legal trace, and what they say of posting lists
pub mod Laws
pub mod Postings
-- worked rows
pub mod Rows
-- these, passed on from one place
pub mod Common
