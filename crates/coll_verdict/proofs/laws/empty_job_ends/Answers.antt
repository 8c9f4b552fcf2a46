use Rattle.std.proofs.Common.{refl, arith, [], le-ltb}
use Rattle.coll_verdict.specs.Standings.{beginning, begins}
use Rattle.coll_verdict.proofs.laws.empty_job_ends.Goals as goal

pub returns : goal.returns
returns c = λ always. always.stalls (record { ranks = 0; groups = []; slots = 0; places = 0; wear = 0; starts = 0; trace = 0 })
    refl beginning begins (λ rank. rw (le-ltb rank 0 (omega arith)) refl)
