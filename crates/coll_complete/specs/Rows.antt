-- Worked rows, computed. Rank 0 has an Idle request in slot 0, Pending ones in slots 1 and 5, and Done ones in slots 2 and
-- 3; those in slots 0 and 3 are persistent. The request in slot 4 is rank 1's.
use Rattle.std.specs.Prelude.{◌≡◌, ◌==◌, ◌||◌, Bool, true, false, ℕ, List, [], ◌∷◌, map, position, slice_index_or, Option, Some, None, refl}
use Rattle.std.specs.List.{list_any}
use Rattle.coll_kinds.specs.declared.kind.Mode.{Mode}
use Rattle.coll_kinds.specs.declared.kind.Mode.TheVariants.{Once, Persistent}
use Rattle.coll_kinds.specs.declared.refusal.Refusal.TheVariants.{Active, NotPersistent, NotYours, Stale}
use Rattle.coll_kinds.specs.declared.ticket.Ticket.{Ticket}
use Rattle.coll_machine.specs.Common.{Setting, Machine, Request}
use Rattle.coll_complete.specs.Anys.{left_at}
use Rattle.coll_complete.specs.Completing.{done_positions}
use Rattle.coll_complete.specs.Requests.{free_refusal, is_active, is_done, is_pending, left_of, list_refusal}
use Rattle.coll_complete.specs.Starting.{unused}

abbrev two_ranks : Setting
two_ranks =
    record { ranks = 2; groups = (0 ∷ 1 ∷ []) ∷ []; slots = 6; places = 6; wear = 1; starts = 1; trace = 12 }

abbrev request : ℕ → Mode → Bool → Request
request rank mode active =
    record { rank = rank; comm = 0; member = rank; place = 0; mode = mode; starts = 1; active = active }

abbrev six : List (Option Request)
six =
    Some (request 0 Persistent false) ∷ Some (request 0 Once true) ∷ Some (request 0 Once true)
    ∷ Some (request 0 Persistent true) ∷ Some (request 1 Once true) ∷ Some (request 0 Persistent true) ∷ []

abbrev engine : Machine
engine = record {
  state = record {
    generation = λ slot. 1;
    request = λ slot. slice_index_or six slot None;
    posts = λ comm member. [];
    given = λ key member. None;
  };
  done = λ slot. (slot == 2) || (slot == 3);
}

abbrev at : ℕ → Option Ticket
at slot = Some (record { slot = slot; generation = 1 })

-- a ticket that names nothing any longer
abbrev stale : Option Ticket
stale = Some (record { slot = 0; generation = 0 })

-- null, Pending, Done, Idle, Done
abbrev mixed : List (Option Ticket)
mixed = None ∷ at 1 ∷ at 2 ∷ at 0 ∷ at 3 ∷ []

done_ones : done_positions engine mixed ≡ 2 ∷ 4 ∷ []
done_ones = refl

-- the once request is gone, the persistent one is kept
left_of_them : map (left_of engine) mixed ≡ None ∷ at 1 ∷ None ∷ at 0 ∷ at 3 ∷ []
left_of_them = refl

-- a test for one takes the lowest, and leaves the others
lowest : position (is_done engine) mixed ≡ Some 2
lowest = refl

left_by_one : left_at engine (Some 1) (None ∷ at 2 ∷ at 3 ∷ []) ≡ None ∷ None ∷ at 3 ∷ []
left_by_one = refl

-- one Pending request keeps a test for all from true
one_pending :
    (list_any (is_pending engine) mixed ≡ true)
    × (list_any (is_pending engine) (None ∷ at 2 ∷ at 0 ∷ []) ≡ false)
one_pending = (refl, refl)

none_active :
    (list_any (is_active engine) (None ∷ at 0 ∷ []) ≡ false)
    × (list_any (is_active engine) (None ∷ at 0 ∷ at 1 ∷ []) ≡ true)
none_active = (refl, refl)

-- the first bad ticket decides, and a null request isn't one
first_bad :
    (list_refusal two_ranks engine.state 0 (at 4 ∷ stale ∷ []) ≡ Some NotYours)
    × (list_refusal two_ranks engine.state 0 (None ∷ at 1 ∷ stale ∷ at 4 ∷ []) ≡ Some Stale)
    × (list_refusal two_ranks engine.state 0 mixed ≡ None)
first_bad = (refl, refl, refl)

-- but a free refuses it
frees :
    (free_refusal two_ranks engine.state 0 None ≡ Some Stale)
    × (free_refusal two_ranks engine.state 0 (at 1) ≡ Some NotPersistent)
    × (free_refusal two_ranks engine.state 0 (at 3) ≡ Some Active)
    × (free_refusal two_ranks engine.state 0 (at 0) ≡ None)
frees = (refl, refl, refl, refl)

-- of three lists of bytes one was used
unused_two : unused 1 ((7 ∷ []) ∷ (8 ∷ 9 ∷ []) ∷ [] ∷ []) ≡ [] ∷ (8 ∷ 9 ∷ []) ∷ [] ∷ []
unused_two = refl
