-- The values of a job, as they are computed before they are printed: for each communicator, place, start and member.
use Rattle.std.specs.Prelude.{◌≡◌, ℕ, Bool, true, false, ◌+◌, ◌<◌, ◌≤◌, Some, None, unwrap_or}
use Rattle.std.specs.Prelude.{List, [], ◌∷◌, length, map, slice_get, Vec}
use Rattle.std.specs.List.{range_with_len, AllByRecursion}
use Rattle.std.specs.Global.{Global}
use Rattle.coll_kinds.specs.declared.kind.Kind.{Kind}
use Rattle.coll_kinds.specs.declared.kind.Kind.TheVariants.{Barrier, Bcast, Allgather, Allgatherv, Allreduce}
use Rattle.coll_kinds.specs.Common.{given_len, broken}
use Rattle.coll_ops.specs.Values.{value}
use Rattle.coll_parser.specs.Requests.{Request}
use Rattle.coll_parser.specs.Code.{rows_view}
use Rattle.coll_script.specs.declared.values.MemberValues.{MemberValues}
use Rattle.coll_script.specs.declared.values.MemberValues.TheVariants.{Same, Each}
use Rattle.coll_script.specs.Matching.{first_list}
use Rattle.coll_script.specs.Meaning.{given_at}

-- the values of all members at a start of a place where this request stands
abbrev pub start_values : List (List Request) → ℕ → Request → ℕ → List (List ℕ)
start_values lists place p start =
    map (value p.sig (given_at lists place start)) (range_with_len 0 (length lists))

-- those of each start there
abbrev pub place_values : List (List Request) → ℕ → Request → List (List (List ℕ))
place_values lists place p = map (start_values lists place p) (range_with_len 0 (length p.starts))

-- the values at the places of these requests, from a place on
abbrev pub values_from : List (List Request) → ℕ → List Request → List (List (List (List ℕ)))
values_from lists place [] = []
values_from lists place (p ∷ requests) = place_values lists place p ∷ values_from lists (place + 1) requests

-- those of a communicator, place by place
abbrev pub group_values : List (List Request) → List (List (List (List ℕ)))
group_values lists = values_from lists 0 (first_list lists)

-- all members get the same
abbrev pub is_shared : Kind → Bool
is_shared Barrier = true
is_shared Bcast = true
is_shared Allgather = true
is_shared Allgatherv = true
is_shared Allreduce = true
is_shared kind = false

-- the values at a start, without where they lie in memory
abbrev pub members_view : MemberValues → List (List ℕ)
members_view (Same value members) = map (λ member. value.items) (range_with_len 0 members)
members_view (Each rows) = rows_view rows.items

-- those of the starts of a place
abbrev pub place_view : List MemberValues → List (List (List ℕ))
place_view starts = map members_view starts

-- those of the places of a communicator
abbrev pub group_view : List (Vec MemberValues Global) → List (List (List (List ℕ)))
group_view places = map (λ starts. place_view starts.items) places

-- those of all communicators
abbrev pub values_view : List (Vec (Vec MemberValues Global) Global) → List (List (List (List (List ℕ))))
values_view groups = map (λ places. group_view places.items) groups

-- a request of member m of n stands where this request of the first member's list stands
pub record Accords (n m : ℕ) (first p : Request) : Type 0 where
  pub member : p.member ≡ m
  pub sig : p.sig ≡ first.sig
  pub starts : length p.starts ≡ length first.starts
  pub checked : broken p.sig n ≡ None
  pub given : AllByRecursion (λ given. length given ≡ given_len p.sig n m) p.starts

-- the posting list of member m
abbrev pub list_at : List (List Request) → ℕ → List Request
list_at lists m = unwrap_or (slice_get lists m) []

-- each member has a request at a place, and that one has a start of that number
abbrev pub HaveStart : List (List Request) → ℕ → ℕ → Type 0
HaveStart lists place start =
    (m : ℕ)
    → m < length lists
    → (p : Request)
    × (slice_get (list_at lists m) place ≡ Some p)
    × (start < length p.starts)

-- at each place of the first member's list each of n members has a request that accords with it, and no member has more
pub record AreMatched (n : ℕ) (lists : List (List Request)) : Type 0 where
  pub few : n ≤ 64
  pub each : length lists ≡ n
  pub same_length : (m : ℕ) → m < n → length (list_at lists m) ≡ length (first_list lists)
  pub accord :
      (m place : ℕ) (first : Request)
      → m < n
      → slice_get (first_list lists) place ≡ Some first
      → (p : Request)
      × (slice_get (list_at lists m) place ≡ Some p)
      × Accords n m first p
