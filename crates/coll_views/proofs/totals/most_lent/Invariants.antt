use Rattle.std.proofs.Common.{◌≡◌, ◌≤◌, drop}
use Rattle.std.specs.Prelude.{max}
use Rattle.coll_views.specs.Totals.{most_lent}
use Rattle.coll_views.proofs.totals.most_lent.Given as goal

abbrev pub invariant-loop-row : goal.invariant-loop-row
invariant-loop-row l = record {
  low : l.lent ≤ l.most;
  so_far : max l.most (most_lent l.lent (drop l.row-index l.rows)) ≡ most_lent 0 l.rows;
}
