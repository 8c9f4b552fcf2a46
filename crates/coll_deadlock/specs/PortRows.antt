-- Worked rows: one rank that has posted a barrier and is at its wait, beside what may be noted of its port; and crossed barriers.
use Rattle.std.specs.Prelude.{◌≡◌, [], ◌∷◌}
use Rattle.coll_verdict.specs.Standings.{AtEnd, Standing, beginning, carried_out, nothing_made, one_more}
use Rattle.coll_verdict.specs.Stalls.{lines_of}
use Rattle.coll_verdict.specs.Rows.{crossed, lone, only_ticket, posted}
use Rattle.coll_traced.specs.Waits.{Awake, ForOne, Ended}
use Rattle.coll_deadlock.specs.Lines.{AreAtLines}
use Rattle.coll_core.specs.Cores.{setting}
use Rattle.coll_traced.specs.Traced.{Traced}
use Rattle.coll_deadlock.specs.Locks.{ComesTo}

-- it is at the unwritten `waitall`
abbrev pub has_posted : Standing
has_posted = carried_out beginning 0 posted (one_more nothing_made only_ticket)

-- its port may wait there for the barrier,
abbrev pub WaitsAtLine : Type 0
WaitsAtLine = AreAtLines (ForOne 0 only_ticket ∷ []) (lines_of lone) has_posted

-- or can make calls;
abbrev pub IsAwakeAtLine : Type 0
IsAwakeAtLine = AreAtLines (Awake ∷ []) (lines_of lone) has_posted

-- it hasn't ended: an engine whose ports end early may be stalled though the job goes on,
abbrev pub EndedIsAtNoLine : Type 0
EndedIsAtNoLine = AreAtLines (Ended ∷ []) (lines_of lone) has_posted → ⊥

-- nor waits for another rank's request,
abbrev pub OtherIsAtNoLine : Type 0
OtherIsAtNoLine = AreAtLines (ForOne 1 only_ticket ∷ []) (lines_of lone) has_posted → ⊥

-- nor is without a port
abbrev pub NobodyIsAtLine : Type 0
NobodyIsAtLine = AreAtLines [] (lines_of lone) has_posted → ⊥

-- ---- two ranks post the barriers of two communicators crosswise

-- no calls of theirs come to where both are at their ends
abbrev pub CrossedComesToNoEnd : Type 0
CrossedComesToNoEnd = (t : Traced) (s : Standing)
    → (setting t.core).groups ≡ crossed.groups → AtEnd (lines_of crossed) s → ComesTo (lines_of crossed) t s → ⊥
