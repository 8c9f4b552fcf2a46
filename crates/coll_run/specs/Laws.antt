-- What holds of every run of a job.
use Rattle.std.specs.Prelude.{◌≡◌, ℕ, map}
use Rattle.coll_parser.specs.Histories.{History}
use Rattle.coll_parser.specs.Requests.{requests}
use Rattle.coll_parser.specs.Sound.{IsSound}
use Rattle.coll_script.specs.Postings.{requests_of}
use Rattle.coll_script.specs.Jobs.{job_of}
use Rattle.coll_script.specs.Meaning.{job_lines}
use Rattle.coll_report.specs.Scripts.{asked}
use Rattle.coll_report.specs.Reports.{Closed, IsClosed}
use Rattle.coll_report.specs.Scripted.{Tells}
use Rattle.coll_run.specs.Commands.{as_asked, commands_by}
use Rattle.coll_run.specs.Lines.{told, told_lines}
use Rattle.coll_run.specs.Runs.{IsRun}

-- the requests that a rank's commands ask for are those that its lines make
abbrev pub CommandsAsk : Type 0
CommandsAsk = (h : History) (rank : ℕ)
    → asked (commands_by h rank) ≡ map as_asked (requests_of (requests h) rank)

-- a run hands out each outcome that the job asks for, once and with its value, and no other
abbrev pub RunsTell : Type 0
RunsTell = (h : History) (r : Closed)
    → IsClosed r
    → IsRun h r
    → Tells r (λ rank. asked (commands_by h rank))

-- the lines that the completions of a run give are those that the text means
abbrev pub RunsMean : Type 0
RunsMean = (h : History) (r : Closed)
    → IsSound h
    → IsClosed r
    → IsRun h r
    → told_lines (told r.entries) (job_of h) ≡ job_lines (job_of h)
