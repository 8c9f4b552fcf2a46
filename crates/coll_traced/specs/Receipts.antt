-- The entries that receipts show.
use Rattle.std.specs.Prelude.{List, [], ◌∷◌, drop, length}
use Rattle.coll_machine.specs.Entries.{Entry}
use Rattle.coll_report.specs.Views.{trace_seen}
use Rattle.coll_traced.specs.Outcomes.{retired}
use Rattle.coll_traced.specs.declared.trace.receipts.Shown.{Shown}
use Rattle.coll_traced.specs.declared.trace.receipts.Shown.TheVariants as shown

abbrev pub entries_shown : Shown → List Entry
entries_shown (shown.Between before after) = drop (length (trace_seen before.value.items)) (trace_seen after.value.items)
entries_shown (shown.Completion rank t outcome) = retired rank t outcome.value ∷ []
