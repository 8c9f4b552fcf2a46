-- Worked rows, computed: what the traces of coll_machine's rows say.
use Rattle.std.specs.Prelude.{◌≡◌, List, [], ◌∷◌, true, false, refl}
use Rattle.std.proofs.Common.{lit<}
use Rattle.coll_machine.specs.Common.{posts_of, Entry, Posted, Inited, Started, Retired, bcast, gather, i32, key, late_bcast, ticket, two_ranks, two_starts}
use Rattle.coll_report.specs.Scripts.{Start}
use Rattle.coll_report.specs.ScriptRows.{bcasts, gathers}
use Rattle.coll_report.specs.Attested.{IsAttested, attests}
use Rattle.coll_report.specs.Comparisons.{IsOf}
use Rattle.coll_report.specs.Reports.{Closed, IsClosed}
use Rattle.coll_report.specs.Scripted.{Follows}
use Rattle.coll_report.specs.Traces.{entries_of}

-- ---- a bcast from rank 0, which rank 1 posts when rank 0 has completed it

late_post : posts_of 1 late_bcast ≡ Posted 1 (ticket 0 2) 0 0 bcast [] ∷ []
late_post = refl

each_has_two : entries_of 1 late_bcast ≡ 2
each_has_two = refl

-- the completion stands last
late_outcome : IsAttested late_bcast 1 (key 0) (i32 7)
late_outcome = (ticket 0 2, (3, lit< tt, refl))

-- ---- a persistent allgather, started twice and freed

starts_of_rank_0 :
    posts_of 0 two_starts
    ≡ Inited 0 (ticket 0 1) 0 0 gather
    ∷ Started 0 (ticket 0 1) 0 (1 ∷ [])
    ∷ Started 0 (ticket 0 1) 1 (2 ∷ [])
    ∷ []
starts_of_rank_0 = refl

-- its inits, starts, completions and its free
six_of_rank_0 : entries_of 0 two_starts ≡ 6
six_of_rank_0 = refl

-- a completion of start 1 is one of start 1 alone, and of its bytes alone
of_start_1 : attests 0 (key 1) (2 ∷ 20 ∷ []) (Retired 0 (ticket 0 1) 0 0 1 (2 ∷ 20 ∷ [])) ≡ true
of_start_1 = refl

not_of_start_0 : attests 0 (key 0) (2 ∷ 20 ∷ []) (Retired 0 (ticket 0 1) 0 0 1 (2 ∷ 20 ∷ [])) ≡ false
not_of_start_0 = refl

not_of_other_bytes : attests 0 (key 1) (2 ∷ 21 ∷ []) (Retired 0 (ticket 0 1) 0 0 1 (2 ∷ 20 ∷ [])) ≡ false
not_of_other_bytes = refl

-- a start is that of the request whose number the command names
first_request_started : IsOf (ticket 0 1 ∷ ticket 1 1 ∷ []) (Start 0 (2 ∷ [])) (Started 0 (ticket 0 1) 1 (2 ∷ []))
first_request_started = (refl, refl)

-- ---- both are traces of closed engines whose ranks did what scripts say

abbrev pub two : List Entry → Closed
two entries = record { setting = two_ranks; entries = entries }

abbrev pub RowsAreClosed : Type 0
RowsAreClosed =
    (IsClosed (two late_bcast) × Follows (two late_bcast) bcasts)
    × (IsClosed (two two_starts) × Follows (two two_starts) gathers)
