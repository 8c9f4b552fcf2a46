-- member r's row ends where all rows end, or before
use Rattle.std.proofs.Common.{arith}
use Rattle.coll_kinds.specs.Lengths.{row_len}
use Rattle.coll_plans.proofs.DirectRowRegions.{row_within}
use Rattle.coll_plans.proofs.direct_row_exchange.row_exchange.Goals as goal

pub overflow_cast-into : goal.overflow_cast-into
overflow_cast-into c = omega (arith, row_within (row_len c.args.sig.now) c.args.r c.args.n c.requires.member, c.requires.small, c.rows_len.ensures.len)
