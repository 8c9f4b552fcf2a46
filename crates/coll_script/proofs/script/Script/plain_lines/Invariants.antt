use Rattle.std.proofs.Common.{◌≡◌, ◌-◌, ◌++◌, length}
use Rattle.std.specs.Prelude.{flat_map}
use Rattle.std.specs.List.{range_with_len}
use Rattle.coll_script.specs.Jobs.{job_of}
use Rattle.coll_script.specs.Meaning.{rank_lines, job_lines}
use Rattle.coll_script.proofs.script.Script.plain_lines.Given as goal

abbrev pub invariant-loop-rank : goal.invariant-loop-rank
invariant-loop-rank l =
    l.out.items ++ flat_map (rank_lines (job_of l.self)) (range_with_len l.rank (length (job_of l.self).requests - l.rank)) ≡ job_lines (job_of l.self)
