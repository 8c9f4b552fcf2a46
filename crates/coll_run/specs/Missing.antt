-- What a reading of completions may lack.
use Rattle.std.specs.Prelude.{◌≡◌, ◌<◌, ℕ, List, ◌∷◌, ◌++◌, length, None}
use Rattle.coll_parser.specs.Requests.{Request}
use Rattle.coll_script.specs.Postings.{posted_on, requests_of}
use Rattle.coll_script.specs.Jobs.{Job}
use Rattle.coll_run.specs.Lines.{Handed}

-- nothing was handed out for a start of the request
pub record LacksStart (handed : Handed) (rank place : ℕ) (p : Request) : Type 0 where
  pub start : ℕ
  pub low : start < length p.starts
  pub none : handed rank p.comm place start ≡ None

-- nothing was handed out for a start of one of the rank's requests
pub record Lacks (handed : Handed) (rank : ℕ) (requests : List Request) : Type 0 where
  pub before : List Request
  pub p : Request
  pub rest : List Request
  pub whole : before ++ p ∷ rest ≡ requests
  pub lacks : LacksStart handed rank (length (posted_on p.comm before)) p

-- nothing was handed out for a start of a request of one of the job's ranks
pub record JobLacks (handed : Handed) (job : Job) : Type 0 where
  pub rank : ℕ
  pub lacks : Lacks handed rank (requests_of job.requests rank)
