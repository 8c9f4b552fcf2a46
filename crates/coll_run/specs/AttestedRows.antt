-- Worked rows, computed: a job of two ranks, of which rank 0 gives 7 to a bcast, and a trace of its run.
use Rattle.std.specs.Prelude.{◌≡◌, ℕ, List, [], ◌∷◌, ◌++◌, codes, flat_map, Some, None, refl}
use Rattle.std.specs.Fmt.{digits}
use Rattle.std.specs.Int.{int_wrap}
use Rattle.coll_parser.specs.declared.command.Command.TheVariants as line
use Rattle.coll_parser.specs.Histories.{History}
use Rattle.coll_script.specs.Jobs.{job_of}
use Rattle.coll_script.specs.Meaning.{job_lines}
use Rattle.coll_machine.specs.Rows.{bcast, i32, late_bcast}
use Rattle.coll_report.specs.Scripts.{Post, Other, asked, asked_at}
use Rattle.coll_report.specs.Rows.{two}
use Rattle.coll_run.specs.Commands.{commands_by}
use Rattle.coll_run.specs.Lines.{told, told_lines}
use Rattle.coll_run.specs.Runs.{IsRun}

-- rank 0 posts a bcast of 7, and rank 1 posts it too
abbrev pub bcast_text : History
bcast_text = record {
  ranks = Some 2;
  groups = (0 ∷ 1 ∷ []) ∷ [];
  opened = Some 1;
  commands = record { line = 3; rank = 0; command = line.Post 0 bcast (i32 7) }
      ∷ record { line = 5; rank = 1; command = line.Post 0 bcast [] }
      ∷ [];
}

-- the unwritten waitall after a section shows nothing
commands_of_rank_1 : commands_by bcast_text 1 ≡ Post 0 bcast [] ∷ Other ∷ []
commands_of_rank_1 = refl

request_of_rank_0 : asked (commands_by bcast_text 0) ≡ asked_at 0 bcast (i32 7 ∷ []) ∷ []
request_of_rank_0 = refl

commands_of_a_stranger : commands_by bcast_text 2 ≡ []
commands_of_a_stranger = refl

told_to_rank_1 : told late_bcast 1 0 0 0 ≡ Some (i32 7)
told_to_rank_1 = refl

no_second_start : told late_bcast 1 0 0 1 ≡ None
no_second_start = refl

-- lines, each with a line feed
abbrev text : List (List ℕ) → List ℕ
text lines = flat_map (λ line. line ++ 10 ∷ []) lines

lines_told : told_lines (told late_bcast) (job_of bcast_text)
    ≡ text (codes "rank 0 req 0 start 0 : 7" ∷ codes "rank 1 req 0 start 0 : 7" ∷ [])
unfolding digits int_wrap
lines_told = refl

lines_meant : job_lines (job_of bcast_text) ≡ told_lines (told late_bcast) (job_of bcast_text)
unfolding digits int_wrap
lines_meant = refl

-- the trace is that of a run
abbrev pub RowIsRun : Type 0
RowIsRun = IsRun bcast_text (two late_bcast)
