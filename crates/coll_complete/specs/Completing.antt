-- Completions and frees of requests, as steps of the machine.
use Rattle.std.specs.Prelude.{◌≡◌, ℕ, List, [], ◌∷◌, ◌++◌, filter, length, map, slice_index_or, Option, Some, None}
use Rattle.std.specs.List.{flat_map, range_with_len}
use Rattle.coll_kinds.specs.declared.ticket.Ticket.{Ticket}
use Rattle.coll_machine.specs.Common.{Free, Nothing, Retire, Event, Runs, Setting, Machine}
use Rattle.coll_machine.specs.Calls.{Outcome as Completed}
use Rattle.coll_core.specs.declared.outcome.Outcome.{Outcome}
use Rattle.coll_complete.specs.Requests.{is_done}

-- the completion of a request with this outcome; of a null one there is none
abbrev pub completion : ℕ → Option Ticket → Outcome → List Event
completion rank None o = []
completion rank (Some t) o =
    record { call = Retire rank t; reply = Completed o.rank o.comm o.place o.start o.bytes } ∷ []

-- the same where there is an outcome
abbrev pub completion_if : ℕ → Option Ticket → Option Outcome → List Event
completion_if rank r None = []
completion_if rank r (Some o) = completion rank r o

-- the requests at these positions of a list are completed, one after the other, with these outcomes
abbrev pub completions : ℕ → List (Option Ticket) → List (ℕ × Outcome) → List Event
completions rank list outs = flat_map (λ out. completion rank (slice_index_or list out.0 None) out.1) outs

-- the positions of the requests that are Done, in rising order
abbrev pub done_positions : Machine → List (Option Ticket) → List ℕ
done_positions m list = filter (λ i. is_done m (slice_index_or list i None)) (range_with_len 0 (length list))

-- all requests of a list that are Done are completed, in rising position, with these outcomes
pub record CompletesDone (g : Setting) (rank : ℕ) (list : List (Option Ticket)) (m n : Machine)
    (outs : List (ℕ × Outcome)) : Type 0 where
  pub positions : map (λ out. out.0) outs ≡ done_positions m list
  pub runs : Runs g m (completions rank list outs) n

-- the same, where what was done is given as the calls with their answers
pub record CompletesBy (rank : ℕ) (list : List (Option Ticket)) (m : Machine) (Did : List Event → Type 0)
    (outs : List (ℕ × Outcome)) : Type 0 where
  pub positions : map (λ out. out.0) outs ≡ done_positions m list
  pub did : Did (completions rank list outs)

-- a list has more at its end, as is said
abbrev pub Pushes : {X : Type 0} → List X → List X → (List X → Type 0) → Type 0
Pushes {X} old new IsMore = (more : List X) × (new ≡ old ++ more) × IsMore more

-- the free of a request; of a null one there is none
abbrev pub freeing : ℕ → Option Ticket → List Event
freeing rank None = []
freeing rank (Some t) = record { call = Free rank t; reply = Nothing } ∷ []
