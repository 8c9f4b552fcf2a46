-- entries, and what a trace says of a rank
pub mod Views
pub mod Traces
pub mod Posts
pub mod Comparisons
-- what each rank has to do, and what a legal trace then says
pub mod Scripts
pub mod Told
-- what a closed engine leaves, and what it attests
pub mod Reports
pub mod Attested
pub mod Scripted
-- worked rows
pub mod ScriptRows
pub mod Rows
