use Rattle.std.proofs.Common.{◌≡◌, length, take}
use Rattle.coll_parser.specs.Histories.{postings, issued_by}
use Rattle.coll_parser.proofs.history.History.commands_of.Given as goal

abbrev pub invariant-loop-issued : goal.invariant-loop-issued
invariant-loop-issued l = record {
  issued : l.commands.items ≡ issued_by l.rank (take l.issued-index l.self.commands);
  made : l.made ≡ length (postings (issued_by l.rank (take l.issued-index l.self.commands)));
}
