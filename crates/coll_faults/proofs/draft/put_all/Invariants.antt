use Rattle.std.proofs.Common.{◌≡◌, take}
use Rattle.coll_parser.specs.Code.{texts}
use Rattle.coll_faults.specs.Drafts.{put_all}
use Rattle.coll_faults.proofs.draft.put_all.Given as goal

abbrev pub invariant-loop-patch : goal.invariant-loop-patch
invariant-loop-patch l = texts l.lines.items ≡ put_all (texts l.initial.lines.items) (take l.patch-index l.patches)
