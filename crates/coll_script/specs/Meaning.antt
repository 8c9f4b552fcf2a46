-- The meaning of a job text: its output lines, or its fault.
use Rattle.std.specs.Prelude.{ℕ, ◌/◌, Option, Some, None, unwrap_or, Result, Ok, IsOk}
use Rattle.std.specs.Prelude.{List, [], ◌∷◌, ◌++◌, length, map, flat_map, slice_get, codes}
use Rattle.std.specs.List.{range_with_len}
use Rattle.std.specs.Fmt.{decimal}
use Rattle.coll_kinds.specs.declared.datatype.Datatype.{Datatype}
use Rattle.coll_kinds.specs.Common.{Element, width, text_of}
use Rattle.coll_ops.specs.Combinations.{elements}
use Rattle.coll_ops.specs.Values.{value}
use Rattle.coll_parser.specs.declared.fault.Fault.{Fault}
use Rattle.coll_parser.specs.Reading.{and_then}
use Rattle.coll_parser.specs.Requests.{Request}
use Rattle.coll_script.specs.Postings.{posted_on, requests_of, postings}
use Rattle.coll_script.specs.Jobs.{Job, job_of, script_of}

-- the text of an element, after a space
abbrev pub element_text : Element → List ℕ
element_text element = 32 ∷ text_of element

-- the texts of all elements of a row, where this is the text of each
abbrev pub elements_text : (Element → List ℕ) → Datatype → List ℕ → List ℕ
elements_text text ty row = flat_map text (elements ty (length row / width ty) row)

-- what stands before the elements
abbrev pub outcome_head : ℕ → ℕ → ℕ → List ℕ
outcome_head rank req start =
    codes "rank "
    ++ (decimal rank ++ (codes " req " ++ (decimal req ++ (codes " start " ++ (decimal start ++ codes " :")))))

-- the line of an outcome
abbrev pub outcome_line : ℕ → ℕ → ℕ → Datatype → List ℕ → List ℕ
outcome_line rank req start ty row = outcome_head rank req start ++ elements_text element_text ty row ++ 10 ∷ []

-- what a member gives at a start of its request at a place
abbrev pub given_by : ℕ → Option Request → List ℕ
given_by start None = []
given_by start (Some p) = unwrap_or (slice_get p.starts start) []

-- what the members of a communicator give there, in member order
abbrev pub given_at : List (List Request) → ℕ → ℕ → List (List ℕ)
given_at lists place start = map (λ list. given_by start (slice_get list place)) lists

-- the line of a start of a rank's numbered request, which stands at a place of posting lists
abbrev pub start_line : ℕ → ℕ → List (List Request) → ℕ → Request → ℕ → List ℕ
start_line rank number lists place p start =
    outcome_line rank number start p.sig.ty (value p.sig (given_at lists place start) p.member)

-- the lines of its starts
abbrev pub request_lines : ℕ → ℕ → List (List Request) → ℕ → Request → List ℕ
request_lines rank number lists place p =
    flat_map (start_line rank number lists place p) (range_with_len 0 (length p.starts))

-- the posting lists of a communicator
abbrev pub lists_of : Job → ℕ → List (List Request)
lists_of job comm = postings job.requests comm (unwrap_or (slice_get job.groups comm) [])

-- the lines of a rank's requests that follow others: a request's place is the number of the rank's requests on the same
-- communicator before it
abbrev pub lines_behind : Job → ℕ → List Request → List Request → List ℕ
lines_behind job rank before [] = []
lines_behind job rank before (p ∷ requests) =
    request_lines rank (length before) (lists_of job p.comm) (length (posted_on p.comm before)) p
    ++ lines_behind job rank (before ++ p ∷ []) requests

-- the lines of a rank, in rising request and start
abbrev pub rank_lines : Job → ℕ → List ℕ
rank_lines job rank = lines_behind job rank [] (requests_of job.requests rank)

-- the lines of a job, in rising rank
abbrev pub job_lines : Job → List ℕ
job_lines job = flat_map (rank_lines job) (range_with_len 0 (length job.requests))

-- the output lines of a text, or its fault
abbrev pub meaning : List ℕ → Result (List ℕ) Fault
meaning text = and_then (script_of text) (λ h. Ok (job_lines (job_of h)))

-- the text has no fault
abbrev pub HasMeaning : List ℕ → Type 0
HasMeaning text = IsOk (meaning text)
