-- The code's entries and groups as those of the machine, without where they lie in memory.
use Rattle.std.specs.Prelude.{List, map}
use Rattle.std.specs.Arc.{arc_value}
pub use Rattle.coll_core.specs.Communicators.{groups_seen}
use Rattle.coll_machine.specs.Entries.{Entry, Posted, Inited, Started, Retired, Freed}
use Rattle.coll_report.specs.declared.entry.Entry as rust_entry
use Rattle.coll_report.specs.declared.entry.Entry.TheVariants as rust

abbrev pub seen : rust_entry.Entry → Entry
seen (rust.Posted rank t comm place sig bytes) = Posted rank t comm place (arc_value sig) bytes
seen (rust.Inited rank t comm place sig) = Inited rank t comm place (arc_value sig)
seen (rust.Started rank t start bytes) = Started rank t start bytes
seen (rust.Retired rank t comm place start bytes) = Retired rank t comm place start bytes
seen (rust.Freed rank t) = Freed rank t

abbrev pub trace_seen : List rust_entry.Entry → List Entry
trace_seen es = map seen es
