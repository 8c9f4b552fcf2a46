-- Worked rows, computed: the two ranks of coll_machine's rows, and what each had to do.
use Rattle.std.specs.Prelude.{◌≡◌, ℕ, zero, suc, List, [], ◌∷◌, Some, refl}
use Rattle.coll_machine.specs.Common.{posts_of, two_ranks, key, i32, bcast, late_bcast, left_late, gather, two_starts, freed}
use Rattle.coll_report.specs.Scripts.{Command, Post, Init, Start, Other, Asked, asked_at, asked, at_place, contributions, outcome, Says}
use Rattle.coll_report.specs.Told.{IsTraceOf}

-- ---- a bcast from rank 0

abbrev pub bcasts : ℕ → List Command
bcasts zero = Post 0 bcast (i32 7) ∷ Other ∷ []
bcasts (suc zero) = Post 0 bcast [] ∷ Other ∷ []
bcasts (suc (suc rank)) = []

abbrev pub bcast_requests : ℕ → List Asked
bcast_requests rank = asked (bcasts rank)

both_get_it : outcome two_ranks bcast_requests 1 (key 0) ≡ i32 7
both_get_it = refl

-- ---- a persistent allgather, started twice; each rank waits in between and frees it at the end

abbrev pub gathers : ℕ → List Command
gathers zero = Init 0 gather ∷ Start 0 (1 ∷ []) ∷ Other ∷ Start 0 (2 ∷ []) ∷ Other ∷ Other ∷ []
gathers (suc zero) = Init 0 gather ∷ Start 0 (10 ∷ []) ∷ Other ∷ Start 0 (20 ∷ []) ∷ Other ∷ Other ∷ []
gathers (suc (suc rank)) = []

abbrev pub gather_requests : ℕ → List Asked
gather_requests rank = asked (gathers rank)

one_request : gather_requests 1 ≡ asked_at 0 gather ((10 ∷ []) ∷ (20 ∷ []) ∷ []) ∷ []
one_request = refl

given_at_start_1 : contributions two_ranks gather_requests (key 1) ≡ (2 ∷ []) ∷ (20 ∷ []) ∷ []
given_at_start_1 = refl

start_0_of_rank_1 : outcome two_ranks gather_requests 1 (key 0) ≡ 1 ∷ 10 ∷ []
start_0_of_rank_1 = refl

start_1_of_rank_0 : outcome two_ranks gather_requests 0 (key 1) ≡ 2 ∷ 20 ∷ []
start_1_of_rank_0 = refl

-- a request's place counts those of its communicator alone
abbrev pub on_two : List Asked
on_two = asked (Init 0 gather ∷ Init 1 gather ∷ Post 0 bcast (i32 7) ∷ Start 1 (5 ∷ []) ∷ [])

second_on_0 : at_place on_two 0 1 ≡ Some (asked_at 0 bcast (i32 7 ∷ []))
second_on_0 = refl

first_on_1 : at_place on_two 1 0 ≡ Some (asked_at 1 gather ((5 ∷ []) ∷ []))
first_on_1 = refl

-- the trace of the row has the posts and starts of the commands
as_rank_1_says : Says [] (gathers 1) (posts_of 1 two_starts)
as_rank_1_says = (refl, refl, (refl, refl, (refl, refl, tt)))

-- ---- both traces are legal ones of their scripts

abbrev pub RowsAreTold : Type 0
RowsAreTold = IsTraceOf two_ranks bcasts late_bcast left_late × IsTraceOf two_ranks gathers two_starts freed
