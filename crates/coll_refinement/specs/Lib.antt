pub mod Changes  -- the tables after a call
pub mod Cores  -- the condition of an engine: of its tables, limits, instances and weights
pub mod Engines  -- what the calls of an engine promise one another of an arena, posting lists and instances
pub mod FreeLocks  -- what callers can see whenever no call is under way
pub mod OneSlots  -- a change of one slot of an arena
pub mod Remaining  -- the actions that are left
pub mod Requests  -- a live request
pub mod Rows  -- the tables of a small engine, written out
pub mod Shown  -- the tables that an arena, posting lists and instances show
pub mod Sound  -- the condition of the tables
pub mod StartRows  -- the same with a persistent collective
pub mod Tables  -- the tables as functions, and their machine
