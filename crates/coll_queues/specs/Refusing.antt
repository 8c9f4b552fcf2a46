-- Which refusal a posting meets: the first whose condition holds, in the order in which they stand here.
use Rattle.std.specs.Prelude.{ℕ, nat_lt, List, [], ◌∷◌, ◌++◌, length, Option, option_map}
use Rattle.coll_kinds.specs.declared.signature.Signature.{Signature}
use Rattle.coll_kinds.specs.declared.refusal.Refusal.{Refusal}
use Rattle.coll_kinds.specs.declared.refusal.Refusal.TheVariants.{BadSignature, PlacesUsed}
use Rattle.coll_kinds.specs.Checks.{broken}
use Rattle.coll_machine.specs.Refusals.{first_of, member_refusals, mismatch_in, unless}
use Rattle.coll_machine.specs.Settings.{group_in}
use Rattle.coll_queues.specs.Lists.{Lists, posts_in}
use Rattle.coll_queues.specs.Postings.{Postings, groups_of, place_of, posts}

-- of a call that names a member by its rank
abbrev pub member_refusal : Postings → ℕ → ℕ → Option Refusal
member_refusal q comm rank = first_of (member_refusals (groups_of q) comm rank)

-- of a signature for a place of a group's lists, which have that many
abbrev pub place_refusals : Signature → List ℕ → (ℕ → List Signature) → ℕ → ℕ → List (Option Refusal)
place_refusals sig group lists place places =
    option_map BadSignature (broken sig (length group))
    ∷ mismatch_in group lists place sig
    ∷ unless (nat_lt place places) PlacesUsed
    ∷ []

-- of a posting
abbrev pub judge_refusal : Postings → ℕ → ℕ → Signature → Option Refusal
judge_refusal q comm rank sig = first_of (
    member_refusals (groups_of q) comm rank
    ++ place_refusals sig (group_in (groups_of q) comm) (posts q comm) (place_of q comm rank) q.places)

-- the same within one communicator, where the member is known
abbrev pub refusal_in : Lists → ℕ → Signature → ℕ → Option Refusal
refusal_in l member sig places = first_of (place_refusals sig l.group (posts_in l) (length (posts_in l member)) places)
