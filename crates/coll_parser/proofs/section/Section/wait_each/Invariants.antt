use Rattle.std.proofs.Common.{◌≡◌, take}
use Rattle.coll_parser.proofs.Keeping.{AreWaited}
use Rattle.coll_parser.proofs.section.Section.wait_each.Given as goal

abbrev pub invariant-loop-index : goal.invariant-loop-index
invariant-loop-index l = record {
  waited : l.self.waited ≡ l.fn.self.waited;
  are : AreWaited (take l.index l.named) l.fn.self.entries.items l.self.entries.items;
}
