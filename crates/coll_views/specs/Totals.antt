-- What rows add up to.
use Rattle.std.specs.Prelude.{ℕ, ◌+◌, ◌-◌, List, [], ◌∷◌, map, max, sum}
use Rattle.coll_views.specs.declared.row.TableRow.{TableRow}
use Rattle.coll_views.specs.declared.totals.Column.{Column}
use Rattle.coll_views.specs.declared.totals.Column.TheVariants.{Times, Posts, Inits, Starts, Completed, Given, Got, Messages, Sent, Combinations}
use Rattle.coll_views.specs.declared.totals.Totals.{Totals}

-- the most bytes that are lent at one time along rows, where that many are lent before
abbrev pub most_lent : ℕ → List TableRow → ℕ
most_lent now [] = now
most_lent now (row ∷ rows) = max now (most_lent (now + row.lends - row.returns) rows)

-- a row's number in a column
abbrev pub number_in : Column → TableRow → ℕ
number_in Times row = row.times
number_in Posts row = row.posts
number_in Inits row = row.inits
number_in Starts row = row.starts
number_in Completed row = row.completed
number_in Given row = row.given
number_in Got row = row.got
number_in Messages row = row.messages
number_in Sent row = row.sent
number_in Combinations row = row.combinations

-- the sum of a column
abbrev pub column_sum : Column → List TableRow → ℕ
column_sum column rows = sum (map (number_in column) rows)

abbrev pub totals_of : List TableRow → Totals
totals_of rows = record {
  times = column_sum Times rows;
  posts = column_sum Posts rows;
  inits = column_sum Inits rows;
  starts = column_sum Starts rows;
  completed = column_sum Completed rows;
  given = column_sum Given rows;
  got = column_sum Got rows;
  lent = most_lent 0 rows;
  messages = column_sum Messages rows;
  sent = column_sum Sent rows;
  combinations = column_sum Combinations rows;
}
