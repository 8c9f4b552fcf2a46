use Rattle.std.proofs.Common.{◌≡◌, ◌++◌, ◌-◌, length, flat_map}
use Rattle.std.specs.List.{range_with_len}
use Rattle.coll_parser.specs.Requests.{requests}
use Rattle.coll_script.specs.Jobs.{job_of}
use Rattle.coll_run.specs.Index.{handed_in}
use Rattle.coll_run.specs.Lines.{told_lines, told_rank}
use Rattle.coll_run.proofs.attested.told_by.Given as goal

abbrev pub invariant-loop-rank : goal.invariant-loop-rank
invariant-loop-rank l =
    l.out.items
    ++ flat_map (told_rank (handed_in l.index.entries) (job_of l.script))
    (range_with_len l.rank (length (requests l.script) - l.rank))
    ≡ told_lines (handed_in l.index.entries) (job_of l.script)
