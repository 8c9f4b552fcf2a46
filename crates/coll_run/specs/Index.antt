-- The completions of a trace by what they completed.
use Rattle.std.specs.Prelude.{◌==◌, ◌&&◌, ◌<◌, ◌≤◌, ℕ, Bool, List, length, Option, option_map}
use Rattle.std.specs.Map.{lookup}
use denote.Ref.{Bor}
use Rattle.coll_parser.specs.Requests.{Request}
use Rattle.coll_run.specs.declared.index.Completion.{Completion}
use Rattle.coll_run.specs.Lines.{Handed}

-- completions of the same start: of the same rank, communicator, place and number
abbrev pub same : Completion → Completion → Bool
same a b =
    (a.rank == b.rank)
    && ((a.comm == b.comm)
    && ((a.place == b.place)
    && (a.start == b.start)))

-- what was handed out, by an index of completions
abbrev pub handed_in : List (Completion × Bor (List ℕ)) → Handed
handed_in es rank comm place start =
    option_map (λ bytes. bytes.now)
    (lookup (same (record { rank = rank; comm = comm; place = place; start = start })) es)

-- what the numbers of lines, places and starts need
pub record IsFew (p : Request) : Type 0 where
  pub comm : p.comm < 16
  pub starts : length p.starts ≤ 4294967295

-- the same, by the completion
abbrev pub handed_at : List (Completion × Bor (List ℕ)) → Completion → Option (List ℕ)
handed_at es c = handed_in es c.rank c.comm c.place c.start
