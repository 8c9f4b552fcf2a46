use Rattle.std.proofs.Common.{◌≡◌, take, map}
use Rattle.coll_parser.specs.Code.{texts}
use Rattle.coll_faults.specs.Drafts.{line_bytes}
use Rattle.coll_faults.proofs.draft.MendedText.first_lines.Given as goal

abbrev pub invariant-loop-line : goal.invariant-loop-line
invariant-loop-line l = texts l.lines.items ≡ map line_bytes (take l.line-index l.first)
