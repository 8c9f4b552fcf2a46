-- The most bytes that are lent at one time, row by row.
use Rattle.std.proofs.Common.{◌≡◌, ℕ, ◌+◌, ◌-◌, ◌<◌, ◌≤◌, List, [], ◌∷◌, drop, get_or, length, ap, sym, arith}
use Rattle.std.specs.Prelude.{max}
use Rattle.coll_script.proofs.Loops.{drop-at}
use Rattle.coll_views.specs.declared.row.TableRow.{TableRow}
use Rattle.coll_views.specs.Totals.{most_lent}

-- at least what is lent before
pub most_lent-low : (now : ℕ) (rows : List TableRow) → now ≤ most_lent now rows
most_lent-low now [] = omega arith
most_lent-low now (row ∷ rows) = omega arith

pub most_lent-more : (most lent next : ℕ) (rows : List TableRow) (k : ℕ) (row : TableRow) (total : ℕ)
    → drop k rows ≡ row ∷ drop (k + 1) rows
    → next ≡ lent + row.lends - row.returns
    → lent ≤ most
    → max most (most_lent lent (drop k rows)) ≡ total
    → max (max most next) (most_lent next (drop (k + 1) rows)) ≡ total
most_lent-more most lent next rows k row total front step low so_far =
    let here : most_lent lent (drop k rows) ≡ max lent (most_lent (lent + row.lends - row.returns) (drop (k + 1) rows)) =
    ap (most_lent lent) front in
    let same : most_lent (lent + row.lends - row.returns) (drop (k + 1) rows) ≡ most_lent next (drop (k + 1) rows) =
    ap (λ n. most_lent n (drop (k + 1) rows)) (sym step) in
    let above = most_lent-low next (drop (k + 1) rows) in
    omega (arith, here, same, above, low, so_far)

pub most_lent-at : (most lent next : ℕ) (rows : List TableRow) (k : ℕ) (d : TableRow) (total : ℕ)
    → k < length rows
    → next ≡ lent + (get_or rows k d).lends - (get_or rows k d).returns
    → lent ≤ most
    → max most (most_lent lent (drop k rows)) ≡ total
    → max (max most next) (most_lent next (drop (k + 1) rows)) ≡ total
most_lent-at most lent next rows k d total lt step low so_far =
    most_lent-more most lent next rows k (get_or rows k d) total (drop-at rows k d lt) step low so_far
