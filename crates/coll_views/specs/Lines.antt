-- The entries of a trace as lines, and its outcomes as JSON.
use Rattle.std.specs.Prelude.{ℕ, ◌==◌, Bool, true, false, List, [], ◌++◌, drop, flat_map, slice_index, codes, count_by, Option, Some, None, if◌then◌else◌}
use Rattle.std.specs.List.{enumerate_from, range_with_len}
use Rattle.std.specs.Fmt.{decimal}
use Rattle.coll_kinds.specs.Words.{datatype_word, kind_word}
use Rattle.coll_machine.specs.Entries.{Entry, Posted, Inited, Started, Retired, Freed}
use Rattle.coll_views.specs.declared.start_lines.StartLine.{StartLine}
use Rattle.coll_views.specs.declared.elements.Style.TheVariants.{Words, Json}
use Rattle.coll_views.specs.declared.request.NumberedRequest.{NumberedRequest}
use Rattle.coll_views.specs.declared.request.TracedRequest.{TracedRequest}
use Rattle.coll_views.specs.StartLines.{start_lines_of, line_of}
use Rattle.coll_views.specs.Requests.{named}
use Rattle.coll_views.specs.Texts.{row_text, signature_text}

-- what an entry gave or handed out
abbrev pub bytes_of : Entry → List ℕ
bytes_of (Posted rank t comm place sig bytes) = bytes
bytes_of (Inited rank t comm place sig) = []
bytes_of (Started rank t start bytes) = bytes
bytes_of (Retired rank t comm place start bytes) = bytes
bytes_of (Freed rank t) = []

-- ---- lines for a reader

-- where a request stands
abbrev pub place_text : TracedRequest → List ℕ
place_text p = codes "comm " ++ (decimal p.comm ++ (codes " place " ++ decimal p.place))

-- whose call it was, what it did, to which of the rank's requests, and what follows
abbrev pub call_text : ℕ → List ℕ → NumberedRequest → List ℕ → List ℕ
call_text rank did found rest =
    codes "rank " ++ (decimal rank ++ (did ++ (decimal found.number ++ (codes " " ++ (place_text found.request ++ rest)))))

abbrev pub head_text : NumberedRequest → Entry → List ℕ
head_text found (Posted rank t comm place sig bytes) =
    call_text rank (codes " posted      req ") found
    (codes " " ++ (signature_text found.request.sig found.request.members ++ codes " :"))
head_text found (Inited rank t comm place sig) =
    call_text rank (codes " initialised req ") found (codes " " ++ signature_text found.request.sig found.request.members)
head_text found (Started rank t start bytes) =
    call_text rank (codes " started     req ") found (codes " start " ++ (decimal start ++ codes " :"))
head_text found (Retired rank t comm place start bytes) =
    call_text rank (codes " completed   req ") found (codes " start " ++ (decimal start ++ codes " :"))
head_text found (Freed rank t) =
    codes "rank "
    ++ (decimal rank ++ (codes " freed       req " ++ (decimal found.number ++ (codes " " ++ place_text found.request))))

-- the line of the call; none for the unwritten `waitall`
abbrev pub line_text : ℕ → List ℕ
line_text line = if line == 0 then codes "  # end\n" else codes "  # line " ++ (decimal line ++ codes "\n")

-- the line of an entry that is about this request
abbrev pub found_line : Option NumberedRequest → ℕ → Entry → List ℕ
found_line None line e = []
found_line (Some found) line e =
    head_text found e ++ (row_text Words found.request.sig.ty (bytes_of e) ++ line_text line)

abbrev pub entry_line : List (List TracedRequest) → ℕ → Entry → List ℕ
entry_line all line e = found_line (named all e) line e

-- the entries of a trace, in their order; lines has the line of each one's call
abbrev pub trace_text : List (List TracedRequest) → List ℕ → List Entry → List ℕ
trace_text all lines es =
    flat_map (λ (at : ℕ × Entry). entry_line all (slice_index lines at.0) at.1) (enumerate_from 0 es)

-- ---- outcomes as JSON

-- in an outcome's object, where its request stands
abbrev pub stand_text : TracedRequest → List ℕ
stand_text p = codes ",\"comm\":" ++ (decimal p.comm ++ (codes ",\"place\":" ++ decimal p.place))

-- and its collective and type
abbrev pub kind_text : TracedRequest → List ℕ
kind_text p =
    codes ",\"kind\":\""
    ++ (kind_word p.sig.kind ++ (codes "\",\"type\":\"" ++ (datatype_word p.sig.ty ++ codes "\",\"values\":[")))

-- the object of an outcome before its values
abbrev pub object_text : ℕ → ℕ → ℕ → NumberedRequest → List ℕ
object_text rank start line found =
    codes "{\"reason\":\"outcome\",\"rank\":"
    ++ (decimal rank
    ++ (codes ",\"req\":"
    ++ (decimal found.number
    ++ (codes ",\"start\":"
    ++ (decimal start
    ++ (codes ",\"line\":" ++ (decimal line ++ (stand_text found.request ++ kind_text found.request))))))))

-- that of an outcome of this request; the first value has no comma before it
abbrev pub found_object : Option NumberedRequest → ℕ → ℕ → ℕ → List ℕ → List ℕ
found_object None rank start line bytes = []
found_object (Some found) rank start line bytes =
    object_text rank start line found ++ (drop 1 (row_text Json found.request.sig.ty bytes) ++ codes "]}\n")

-- what an entry adds to the outcomes of a rank that made these posts and starts
abbrev pub outcome_of : List (List TracedRequest) → List StartLine → ℕ → Entry → List ℕ
outcome_of all start_lines r (Posted rank t comm place sig bytes) = []
outcome_of all start_lines r (Inited rank t comm place sig) = []
outcome_of all start_lines r (Started rank t start bytes) = []
outcome_of all start_lines r (Retired rank t comm place start bytes) =
    if rank == r
    then found_object (named all (Retired rank t comm place start bytes)) rank start (line_of start_lines t start) bytes
    else []
outcome_of all start_lines r (Freed rank t) = []

-- the outcomes of a rank, in the order in which they were handed out; lines has the line of each entry's call
abbrev pub outcomes_of : List (List TracedRequest) → List ℕ → List Entry → ℕ → List ℕ
outcomes_of all lines es r = flat_map (outcome_of all (start_lines_of lines es r) r) es

abbrev pub is_completion : Entry → Bool
is_completion (Posted rank t comm place sig bytes) = false
is_completion (Inited rank t comm place sig) = false
is_completion (Started rank t start bytes) = false
is_completion (Retired rank t comm place start bytes) = true
is_completion (Freed rank t) = false

-- the last line: how many outcomes there are
abbrev pub done_text : ℕ → List ℕ
done_text count = codes "{\"reason\":\"done\",\"outcomes\":" ++ (decimal count ++ codes ",\"status\":0}\n")

-- those of all ranks, in rising rank, and how many they are
abbrev pub outcomes_json : ℕ → List (List TracedRequest) → List ℕ → List Entry → List ℕ
outcomes_json ranks all lines es =
    flat_map (outcomes_of all lines es) (range_with_len 0 ranks) ++ done_text (count_by is_completion es)
