-- over tables: each change keeps the invariant, and is the machine's step; main lemmas first
pub mod tables
-- the same in the words of the engine's arena, posting lists and instances
pub mod engine
-- the tables of small engines, call by call
pub mod rows
