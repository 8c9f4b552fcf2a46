-- The posts and starts of a rank, with the lines of their calls.
use Rattle.std.specs.Prelude.{ℕ, ◌==◌, Bool, ◌&&◌, List, [], ◌∷◌, flat_map, slice_get, slice_index, Option, Some, None, if◌then◌else◌}
use Rattle.std.specs.List.{enumerate_from, position}
use Rattle.coll_kinds.specs.declared.ticket.Ticket.{Ticket}
use Rattle.coll_machine.specs.Entries.{Entry, Posted, Inited, Started, Retired, Freed}
use Rattle.coll_views.specs.declared.start_lines.StartLine.{StartLine}

-- a post or start of a rank, if it is that rank
abbrev pub own_start_line : ℕ → ℕ → Ticket → ℕ → ℕ → List StartLine
own_start_line by rank t start line = if rank == by then record { ticket = t; start = start; line = line } ∷ [] else []

-- what an entry begins of the rank; a post is its request's start 0
abbrev pub start_lines_at : ℕ → ℕ → Entry → List StartLine
start_lines_at by line (Posted rank t comm place sig bytes) = own_start_line by rank t 0 line
start_lines_at by line (Inited rank t comm place sig) = []
start_lines_at by line (Started rank t start bytes) = own_start_line by rank t start line
start_lines_at by line (Retired rank t comm place start bytes) = []
start_lines_at by line (Freed rank t) = []

-- those of a trace, in their order
abbrev pub start_lines_of : List ℕ → List Entry → ℕ → List StartLine
start_lines_of lines es by =
    flat_map (λ (at : ℕ × Entry). start_lines_at by (slice_index lines at.0) at.1) (enumerate_from 0 es)

-- whether it is that start of the request
abbrev pub begins : Ticket → ℕ → StartLine → Bool
begins t start one = one.ticket.slot == t.slot && one.ticket.generation == t.generation && one.start == start

abbrev line_in : Option StartLine → ℕ
line_in None = 0
line_in (Some one) = one.line

abbrev pub line_at : List StartLine → ℕ → ℕ
line_at start_lines index = line_in (slice_get start_lines index)

abbrev line_found : List StartLine → Option ℕ → ℕ
line_found start_lines None = 0
line_found start_lines (Some index) = line_at start_lines index

-- the line of that start; 0 where it isn't among these
abbrev pub line_of : List StartLine → Ticket → ℕ → ℕ
line_of start_lines t start = line_found start_lines (position (begins t start) start_lines)
