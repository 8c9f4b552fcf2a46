use Rattle.std.proofs.Common.{◌≡◌, ◌<◌, ◌≤◌, length}
use Rattle.std.specs.Io.KnownBytes.{Consumes}
use Rattle.coll_script.proofs.plain.read_text.Given as goal

abbrev pub invariant-loop : goal.invariant-loop
invariant-loop g l = record {
  room : length l.text.items < 1048577;
  same_reference : l.reader.reader.ghost_name ≡ l.initial.reader.reader.ghost_name;
  reads : l.reader.reads ≡ l.counter;
  counted : l.counter ≤ length l.text.items;
  consumed : Consumes (g.R.Read.remaining l.initial.reader.reader.now) (g.R.Read.remaining l.reader.reader.now) l.text.items;
}
