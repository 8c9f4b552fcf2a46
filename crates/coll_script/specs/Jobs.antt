-- The script of a text: the history of its lines, in which the requests of all ranks belong together.
use Rattle.std.specs.Prelude.{ℕ, nat_lt, List, length, Option, Some, None, Result, Ok, if◌then◌else◌}
use Rattle.std.specs.List.{list_all}
use Rattle.coll_parser.specs.declared.cause.Cause.TheVariants.{TooLong, MissingRanks}
use Rattle.coll_parser.specs.declared.cause.Cause.TheVariants.{PlaceMismatch, PlaceMissing, StartMissing}
use Rattle.coll_parser.specs.declared.fault.Fault.{Fault}
use Rattle.coll_parser.specs.Reading.{and_then}
use Rattle.coll_parser.specs.Cutting.{lines_of}
use Rattle.coll_parser.specs.Histories.{History, beginning}
use Rattle.coll_parser.specs.Requests.{Request, requests}
use Rattle.coll_parser.specs.Judging.{fault_at, judged}
use Rattle.coll_script.specs.Postings.{postings_from}
use Rattle.coll_script.specs.Matching.{mismatch, have_places, have_starts}

-- the members of each communicator, and the requests of each rank
pub record Job : Type 0 where
  pub groups : List (List ℕ)
  pub requests : List (List Request)

-- the job of a history
abbrev pub job_of : History → Job
job_of h = record { groups = h.groups; requests = requests h }

-- the posting lists of all communicators
abbrev pub all_postings : Job → List (List (List Request))
all_postings job = postings_from job.requests 0 job.groups

-- what is judged after that many lines, in this order: whether signatures differ at some place, whether a member lacks a
-- place, and whether members have different numbers of starts at one
abbrev pub matched : ℕ → List (List (List Request)) → History → Option ℕ → Result History Fault
matched last all h (Some line) = fault_at line PlaceMismatch
matched last all h None =
    if list_all have_places all then (if list_all have_starts all then Ok h else fault_at last StartMissing)
    else fault_at last PlaceMissing

-- whether the requests of all ranks belong together, judged after that many lines
abbrev pub belonging : ℕ → History → Result History Fault
belonging last h = matched last (all_postings (job_of h)) h (mismatch (all_postings (job_of h)))

-- a text that never says its number of ranks has no meaning
abbrev pub completed_by : Option ℕ → ℕ → History → Result History Fault
completed_by None last h = fault_at last MissingRanks
completed_by (Some n) last h = belonging last h

-- what is judged after the last line, the number of which is given
abbrev pub completed : ℕ → History → Result History Fault
completed last h = completed_by h.ranks last h

-- the script of a text, or the text's fault
unfoldable pub script_of : List ℕ → Result History Fault
script_of text =
    if nat_lt 1048576 (length text) then fault_at 1 TooLong
    else and_then (judged 1 beginning (lines_of text)) (completed (length (lines_of text)))
