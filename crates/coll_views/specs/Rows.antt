-- What each entry of a trace adds to the tables.
use Rattle.std.specs.Prelude.{ℕ, ◌==◌, List, length, map, Option, Some, None, if◌then◌else◌}
use Rattle.coll_kinds.specs.Lengths.{lent}
use Rattle.coll_refinement.specs.Tables.{no_signature}
use Rattle.coll_machine.specs.Entries.{Entry, Posted, Inited, Started, Retired, Freed}
use Rattle.coll_views.specs.declared.request.NumberedRequest.{NumberedRequest}
use Rattle.coll_views.specs.declared.request.TracedRequest.{TracedRequest}
use Rattle.coll_views.specs.declared.row.TableRow.{TableRow}
use Rattle.coll_views.specs.Requests.{named}

-- a row of a rank's request that adds nothing
abbrev pub row_by : ℕ → TracedRequest → TableRow
row_by rank p = record {
  rank = rank;
  comm = p.comm;
  sig = p.sig;
  times = 0;
  posts = 0;
  inits = 0;
  starts = 0;
  completed = 0;
  given = 0;
  got = 0;
  lends = 0;
  returns = 0;
  messages = 0;
  sent = 0;
  combinations = 0;
}

-- a collective is carried out once for each post or start of its communicator's first member
abbrev pub times_of : TracedRequest → ℕ
times_of p = if p.member == 0 then 1 else 0

-- a row of a collective that begins: what is given and lent, and what the member's schedule has it do
abbrev pub begun : ℕ → TracedRequest → List ℕ → TableRow
begun rank p bytes = record (row_by rank p) {
  times = times_of p;
  given = length bytes;
  lends = lent p.sig p.members p.member;
  messages = p.work.messages;
  sent = p.work.bytes;
  combinations = p.work.combinations;
}

-- of an entry that is about this request
abbrev pub added : TracedRequest → Entry → TableRow
added p (Posted rank t comm place sig bytes) = record (begun rank p bytes) { posts = 1 }
added p (Inited rank t comm place sig) = record (row_by rank p) { inits = 1 }
added p (Started rank t start bytes) = record (begun rank p bytes) { starts = 1 }
added p (Retired rank t comm place start bytes) =
    record (row_by rank p) { completed = 1; got = length bytes; returns = lent p.sig p.members p.member }
added p (Freed rank t) = row_by rank p

-- an entry that is about no request adds nothing
abbrev pub nothing : TableRow
nothing = record {
  rank = 0;
  comm = 0;
  sig = no_signature;
  times = 0;
  posts = 0;
  inits = 0;
  starts = 0;
  completed = 0;
  given = 0;
  got = 0;
  lends = 0;
  returns = 0;
  messages = 0;
  sent = 0;
  combinations = 0;
}

abbrev pub row_of : Option NumberedRequest → Entry → TableRow
row_of None e = nothing
row_of (Some found) e = added found.request e

-- those of a trace
abbrev pub rows_of : List (List TracedRequest) → List Entry → List TableRow
rows_of all es = map (λ e. row_of (named all e) e) es
