-- The tables as text.
use Rattle.std.specs.Prelude.{ℕ, ◌-◌, ◌==◌, Bool, ◌&&◌, List, [], ◌∷◌, ◌++◌, length, filter, flat_map, map, replicate, slice_index, slice_index_or}
use Rattle.std.specs.Prelude.{codes, if◌then◌else◌}
use Rattle.std.specs.List.{enumerate_from, fold, list_any, range_with_len}
use Rattle.std.specs.Fmt.{decimal}
use Rattle.coll_kinds.specs.declared.signature.Signature.{Signature}
use Rattle.coll_kinds.specs.Sameness.{same_signature}
use Rattle.coll_sched.specs.Families.{family_exchanges}
use Rattle.coll_plans.specs.Plans.{family}
use Rattle.coll_views.specs.declared.request.TracedRequest.{TracedRequest}
use Rattle.coll_views.specs.declared.row.TableRow.{TableRow}
use Rattle.coll_views.specs.declared.cell.Cell.{Cell}
use Rattle.coll_views.specs.declared.totals.Totals.{Totals}
use Rattle.coll_views.specs.Texts.{signature_text}
use Rattle.coll_views.specs.Totals.{totals_of}

-- a text at the right end of a column that is so wide
abbrev pub aligned : ℕ → List ℕ → List ℕ
aligned width text = replicate (width - length text) 32 ++ text

abbrev pub cell_text : Cell → List ℕ
cell_text cell = aligned cell.width (decimal cell.number)

-- the columns
unfoldable pub cells_of : Totals → List Cell
cells_of t =
    record { width = 7; number = t.posts }
    ∷ record { width = 7; number = t.inits }
    ∷ record { width = 8; number = t.starts }
    ∷ record { width = 11; number = t.completed }
    ∷ record { width = 13; number = t.given }
    ∷ record { width = 11; number = t.got }
    ∷ record { width = 11; number = t.lent }
    ∷ record { width = 10; number = t.messages }
    ∷ record { width = 13; number = t.sent }
    ∷ record { width = 14; number = t.combinations }
    ∷ []

-- the totals of rows
abbrev pub numbers_text : List TableRow → List ℕ
numbers_text rows = flat_map cell_text (cells_of (totals_of rows))

-- ---- by rank

unfoldable pub head_of_ranks : List ℕ
head_of_ranks = codes "rank  posts  inits  starts  completed  bytes given  bytes got  most lent  messages  their bytes  combinations\n"

abbrev pub by_rank : ℕ → TableRow → Bool
by_rank rank row = row.rank == rank

abbrev pub rank_line : List TableRow → ℕ → List ℕ
rank_line rows rank = aligned 4 (decimal rank) ++ (numbers_text (filter (by_rank rank) rows) ++ codes "\n")

abbrev pub rank_lines : ℕ → List TableRow → List ℕ
rank_lines ranks rows = flat_map (rank_line rows) (range_with_len 0 ranks)

-- the lines of the ranks, and one for all
abbrev pub ranks_text : ℕ → List TableRow → List ℕ
ranks_text ranks rows = head_of_ranks ++ (rank_lines ranks rows ++ (codes " all" ++ (numbers_text rows ++ codes "\n")))

-- ---- by collective

unfoldable pub head_of_collectives : List ℕ
head_of_collectives = codes "\ncommunicator  members  times  exchanges each  posts  inits  starts  completed  bytes given  bytes got  most lent  messages  their bytes  combinations  collective\n"

-- the signatures, each once, in the order in which they come first
abbrev pub added_once : List Signature → Signature → List Signature
added_once sigs sig = if list_any (same_signature sig) sigs then sigs else sigs ++ sig ∷ []

abbrev pub each_once : List Signature → List Signature
each_once sigs = fold added_once [] sigs

-- what the first member of a group asked for on a communicator
abbrev pub is_on : ℕ → TracedRequest → Bool
is_on comm p = p.comm == comm

abbrev pub asked_on : List (List TracedRequest) → ℕ → List ℕ → List Signature
asked_on all comm group = map (λ p. p.sig) (filter (is_on comm) (slice_index_or all (slice_index group 0) []))

-- a row of that signature on that communicator
abbrev pub by_collective : ℕ → Signature → TableRow → Bool
by_collective comm sig row = row.comm == comm && same_signature sig row.sig

abbrev pub rows_on : List TableRow → ℕ → Signature → List TableRow
rows_on rows comm sig = filter (by_collective comm sig) rows

-- communicator, members, how often the collective was carried out, and how many rounds of its schedules have messages
abbrev pub label_of : ℕ → ℕ → Signature → ℕ → List ℕ
label_of comm members sig times =
    aligned 12 (decimal comm)
    ++ (aligned 9 (decimal members)
    ++ (aligned 7 (decimal times) ++ aligned 16 (decimal (family_exchanges members (family sig members)))))

abbrev pub line_of : ℕ → ℕ → Signature → List TableRow → List ℕ
line_of comm members sig rows =
    label_of comm members sig (totals_of rows).times
    ++ (numbers_text rows ++ (codes "  " ++ (signature_text sig members ++ codes "\n")))

abbrev pub collective_line : List TableRow → ℕ → ℕ → Signature → List ℕ
collective_line rows comm members sig = line_of comm members sig (rows_on rows comm sig)

-- the collectives of a communicator
abbrev pub comm_lines : List (List TracedRequest) → List TableRow → ℕ → List ℕ → List ℕ
comm_lines all rows comm group = flat_map (collective_line rows comm (length group)) (each_once (asked_on all comm group))

abbrev pub all_comm_lines : List (List TracedRequest) → List (List ℕ) → List TableRow → List ℕ
all_comm_lines all groups rows =
    flat_map (λ (at : ℕ × List ℕ). comm_lines all rows at.0 at.1) (enumerate_from 0 groups)

abbrev pub collectives_text : List (List TracedRequest) → List (List ℕ) → List TableRow → List ℕ
collectives_text all groups rows = head_of_collectives ++ all_comm_lines all groups rows

-- both tables
abbrev pub tables_text : ℕ → List (List ℕ) → List (List TracedRequest) → List TableRow → List ℕ
tables_text ranks groups all rows = ranks_text ranks rows ++ collectives_text all groups rows
