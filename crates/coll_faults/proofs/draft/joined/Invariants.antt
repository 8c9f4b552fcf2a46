use Rattle.std.proofs.Common.{◌≡◌, take, flat_map}
use Rattle.coll_parser.specs.Code.{texts}
use Rattle.coll_faults.specs.Drafts.{ended_line}
use Rattle.coll_faults.proofs.draft.joined.Given as goal

abbrev pub invariant-loop-line : goal.invariant-loop-line
invariant-loop-line l = l.text.items ≡ flat_map ended_line (texts (take l.line-index l.lines))
