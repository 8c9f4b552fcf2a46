-- Why a call is refused: of the conditions on its list, in the order of the list, the first that holds.
use Rattle.std.specs.Prelude.{◌==◌, ◌&&◌, ℕ, zero, suc, ◌+◌, nat_lt, Bool, not, List, [], ◌∷◌, ◌++◌, length, slice_get, slice_index, unwrap_or}
use Rattle.std.specs.Prelude.{Option, Some, None, is_some, is_none, option_map, option_and_then, if◌then◌else◌}
use Rattle.std.specs.Option.{option_or}
use Rattle.std.specs.List.{list_any, range_with_len}
use Rattle.coll_kinds.specs.declared.kind.Mode.{Mode}
use Rattle.coll_kinds.specs.declared.kind.Mode.TheVariants.{Once, Persistent}
use Rattle.coll_kinds.specs.declared.signature.Signature.{Signature}
use Rattle.coll_kinds.specs.declared.refusal.Refusal.{Refusal}
use Rattle.coll_kinds.specs.declared.refusal.Refusal.TheVariants.{BadComm, NotMember, BadSignature, BadLength, Stale, NotYours, Active, NotPersistent}
use Rattle.coll_kinds.specs.declared.refusal.Refusal.TheVariants.{PlacesUsed, StartsUsed, Full}
use Rattle.coll_kinds.specs.declared.refusal.SignatureFault.TheVariants.{Mode as WrongMode, Group as WrongGroup}
use Rattle.coll_kinds.specs.Common.{mismatch_at, broken, member_of, given_len, mode_number, same_signature}
use Rattle.coll_machine.specs.Settings.{Setting, group, group_in, size}
use Rattle.coll_machine.specs.States.{State, Request, found, signature_of}
use Rattle.coll_machine.specs.Calls.{Planned, Call, Post, Init, Start, Retire, Free, Finish}

-- a condition of a refusal: it holds where the call doesn't fit
abbrev pub unless : Bool → Refusal → Option Refusal
unless fits why = if fits then None else Some why

abbrev pub first_of : List (Option Refusal) → Option Refusal
first_of [] = None
first_of (condition ∷ rest) = option_or condition (first_of rest)

-- of n members, from one on, the lowest that has the place, and its signature there
abbrev pub first_there : (ℕ → List Signature) → ℕ → ℕ → ℕ → Option (ℕ × Signature)
first_there lists place from zero = None
first_there lists place from (suc n) =
    option_or (option_map (λ sig. (from, sig)) (slice_get (lists from) place)) (first_there lists place (from + 1) n)

-- of a group's members the lowest that has the place has another signature there
abbrev pub mismatch_in : List ℕ → (ℕ → List Signature) → ℕ → Signature → Option Refusal
mismatch_in group lists place sig =
    option_and_then (λ first. unless (same_signature first.1 sig) (mismatch_at place (slice_index group first.0) first.1))
    (first_there lists place 0 (length group))

-- of a call that names a member by its rank: there is no such communicator, or the rank isn't in its group
abbrev pub member_refusals : List (List ℕ) → ℕ → ℕ → List (Option Refusal)
member_refusals groups comm rank =
    unless (nat_lt comm (length groups)) (BadComm comm)
    ∷ unless (is_some (member_of rank (group_in groups comm))) (NotMember rank)
    ∷ []

-- why a rank has no place in a communicator, if it has none
abbrev pub unseated : List (List ℕ) → ℕ → ℕ → Option Refusal
unseated groups rank comm = first_of (member_refusals groups comm rank)

abbrev pub wrong_length : Signature → ℕ → ℕ → List ℕ → Option Refusal
wrong_length sig n member bytes =
    unless (given_len sig n member == length bytes) (BadLength (given_len sig n member) (length bytes))

-- no slot is without a live request and may be given to one more
abbrev pub full : Setting → State → Option Refusal
full g s =
    let spare = λ (slot : ℕ). is_none (s.request slot) && nat_lt (s.generation slot) g.wear in
    unless (list_any spare (range_with_len 0 g.slots)) Full

-- of a plan among that many members, for a member and a mode
abbrev pub plan_refusals : Planned → ℕ → ℕ → Mode → List (Option Refusal)
plan_refusals plan size member mode =
    option_map BadSignature (broken plan.sig size)  -- root, operation, count or size
    ∷ unless (mode_number plan.sig.mode == mode_number mode) (BadSignature WrongMode)  -- once or persistent
    ∷ unless ((plan.n == size) && (plan.member == member)) (BadSignature WrongGroup)  -- another's plan
    ∷ []

-- of a post or an initialisation by a member
abbrev pub posting_refusals : Setting → State → ℕ → ℕ → ℕ → Mode → Planned → List (Option Refusal)
posting_refusals g s rank comm member mode plan =
    member_refusals g.groups comm rank  -- no such communicator, or not one of its ranks
    ++ plan_refusals plan (size g comm) member mode  -- the plan can't be the member's
    ++ mismatch_in (group g comm) (s.posts comm) (length (s.posts comm member)) plan.sig  -- another collective at the member's next place
    ∷ unless (nat_lt (length (s.posts comm member)) g.places) PlacesUsed  -- no next place
    ∷ []

-- of a call that names a request of its rank
abbrev pub naming_refusals : Option Request → ℕ → List (Option Refusal)
naming_refusals q rank =
    unless (is_some q) Stale  -- the ticket names none
    ∷ option_and_then (λ q. unless (q.rank == rank) NotYours) q  -- it names another rank's
    ∷ []

-- of one that wants it persistent and inactive: a start, a free
abbrev pub idle_refusals : Option Request → List (Option Refusal)
idle_refusals q =
    option_and_then (λ q. unless (mode_number q.mode == mode_number Persistent) NotPersistent) q
    ∷ option_and_then (λ q. unless (not q.active) Active) q  -- Pending or Done
    ∷ []

-- of a start by itself: bytes of the wrong length, no further start
abbrev pub start_refusals : Setting → State → List ℕ → Option Request → List (Option Refusal)
start_refusals g s bytes q =
    option_and_then (λ q. option_and_then (λ sig. wrong_length sig (size g q.comm) q.member bytes) (signature_of s q)) q
    ∷ option_and_then (λ q. unless (nat_lt q.starts g.starts) StartsUsed) q
    ∷ []

-- the lists in the order of the rules; that of Retire is also that of the question for a phase
abbrev pub refusals : Setting → State → Call → List (Option Refusal)
refusals g s (Post rank comm plan bytes) =
    let member = unwrap_or (member_of rank (group g comm)) 0 in
    posting_refusals g s rank comm member Once plan ++ wrong_length plan.sig (size g comm) member bytes ∷ full g s ∷ []
refusals g s (Init rank comm plan) =
    let member = unwrap_or (member_of rank (group g comm)) 0 in
    posting_refusals g s rank comm member Persistent plan ++ full g s ∷ []
refusals g s (Start rank t bytes) =
    naming_refusals (found s t) rank ++ idle_refusals (found s t) ++ start_refusals g s bytes (found s t)
refusals g s (Retire rank t) = naming_refusals (found s t) rank
refusals g s (Free rank t) = naming_refusals (found s t) rank ++ idle_refusals (found s t)
refusals g s Finish = []

-- what a call is refused with; None where it is accepted
abbrev pub refusal : Setting → State → Call → Option Refusal
refusal g s call = first_of (refusals g s call)
