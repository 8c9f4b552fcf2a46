-- The trace of the worked row is that of a run.
use Rattle.std.proofs.Common.{◌<◌, ℕ, zero, suc, [], refl, arith}
use Rattle.coll_parser.specs.Histories.{commands_of}
use Rattle.coll_machine.specs.Common.{posts_of, late_bcast}
use Rattle.coll_report.specs.Scripts.{Says}
use Rattle.coll_run.specs.Commands.{all_traced}
use Rattle.coll_run.specs.AttestedRows.{bcast_text, RowIsRun}

followed : (rank : ℕ) → rank < 2 → Says [] (all_traced (commands_of bcast_text rank)) (posts_of rank late_bcast)
followed zero lt = (refl, refl, refl, tt)
followed (suc zero) lt = (refl, refl, refl, tt)
followed (suc (suc rank)) lt = absurd (omega (arith, lt))

pub row_is_run : RowIsRun
row_is_run = record { ranks = refl; groups = refl; posts = followed }
