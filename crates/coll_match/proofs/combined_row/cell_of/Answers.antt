use Rattle.std.proofs.Common.{◌∙◌, length, refl, sym}
use Rattle.std.proofs.lemmas.Option.{slice_get_read}
use Rattle.coll_match.proofs.CombinedRows.{cell_found, same_combination}
use Rattle.coll_match.proofs.combined_row.cell_of.Goals as goal

pub returns-then-eq : goal.returns-then-eq
returns-then-eq c =
    cell_found c.args.rows.now c.args.of c.loop-row.row-index c.row-item.result c.share.result
    (slice_get_read c.args.rows.now (length c.args.rows.now) c.loop-row.row-index c.row-item.result refl c.loop-row-test.true c.row-item.is)
    (same_combination c.row-item.result.of c.args.of (sym c.eq.ensures ∙ c.if-eq.true)) c.share.ensures
