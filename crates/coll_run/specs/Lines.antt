-- The output lines of a job, with the bytes that an engine's completions handed out.
use Rattle.std.specs.Prelude.{ℕ, List, [], ◌∷◌, ◌++◌, length, flat_map, unwrap_or, Option, Some, None, if◌then◌else◌}
use Rattle.std.specs.List.{range_with_len}
use Rattle.coll_parser.specs.Requests.{Request}
use Rattle.coll_script.specs.Postings.{posted_on, requests_of}
use Rattle.coll_script.specs.Jobs.{Job}
use Rattle.coll_script.specs.Meaning.{outcome_line}
use Rattle.coll_machine.specs.Entries.{Entry, Posted, Inited, Started, Retired, Freed}
use Rattle.coll_report.specs.Told.{retires}

-- what a completion handed out
abbrev pub bytes_of : Entry → List ℕ
bytes_of (Posted rank t comm place sig bytes) = []
bytes_of (Inited rank t comm place sig) = []
bytes_of (Started rank t start bytes) = []
bytes_of (Retired rank t comm place start bytes) = bytes
bytes_of (Freed rank t) = []

-- what was handed out by rank, communicator, place and start
abbrev pub Handed : Type 0
Handed = ℕ → ℕ → ℕ → ℕ → Option (List ℕ)

-- the same after one more entry
abbrev pub further : Entry → Handed → Handed
further e handed rank comm place start =
    if retires rank comm place start e then Some (bytes_of e) else handed rank comm place start

-- the same after these entries: the last completion of a start counts; in a run there is one of each
abbrev pub told_from : Handed → List Entry → Handed
told_from handed [] = handed
told_from handed (e ∷ es) = told_from (further e handed) es

-- what was handed out by the completions of a trace
abbrev pub told : List Entry → Handed
told es = told_from (λ rank comm place start. None) es

-- the line of a start of a rank's numbered request of a place
abbrev pub told_start : Handed → ℕ → ℕ → ℕ → Request → ℕ → List ℕ
told_start handed rank number place p start =
    outcome_line rank number start p.sig.ty (unwrap_or (handed rank p.comm place start) [])

-- the lines of its starts
abbrev pub told_request : Handed → ℕ → ℕ → ℕ → Request → List ℕ
told_request handed rank number place p =
    flat_map (told_start handed rank number place p) (range_with_len 0 (length p.starts))

-- the lines of a rank's requests that follow others
abbrev pub told_behind : Handed → ℕ → List Request → List Request → List ℕ
told_behind handed rank before [] = []
told_behind handed rank before (p ∷ requests) =
    told_request handed rank (length before) (length (posted_on p.comm before)) p
    ++ told_behind handed rank (before ++ p ∷ []) requests

-- those of a rank, in rising request and start
abbrev pub told_rank : Handed → Job → ℕ → List ℕ
told_rank handed job rank = told_behind handed rank [] (requests_of job.requests rank)

-- those of a job, in rising rank
abbrev pub told_lines : Handed → Job → List ℕ
told_lines handed job = flat_map (told_rank handed job) (range_with_len 0 (length job.requests))
