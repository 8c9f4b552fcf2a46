-- What is judged after the last line, as relations: what a fault of the whole text says of its requests.
use Rattle.std.specs.Prelude.{◌≡◌, ◌≢◌, ℕ, ◌<◌, ◌≤◌, List, length, Some, slice_get}
use Rattle.coll_parser.specs.declared.cause.Cause.{Cause}
use Rattle.coll_parser.specs.declared.cause.Cause.TheVariants.{PlaceMismatch, PlaceMissing, StartMissing}
use Rattle.coll_parser.specs.Requests.{Request}

-- a request stands at a place in the posting list of a member
pub record StandsAt (lists : List (List Request)) (place : ℕ) (p : Request) : Type 0 where
  pub member : ℕ
  pub list : List Request
  pub is_list : slice_get lists member ≡ Some list
  pub is_there : slice_get list place ≡ Some p

-- the earliest at a place: no request there has an earlier line
pub record IsEarliest (lists : List (List Request)) (place : ℕ) (first : Request) : Type 0 where
  pub there : StandsAt lists place first
  pub least : (p : Request) → StandsAt lists place p → first.line ≤ p.line

-- the signature or mode of a request isn't that of the earliest at its communicator and place
pub record Differs (all : List (List (List Request))) (p : Request) : Type 0 where
  pub comm : ℕ
  pub lists : List (List Request)
  pub is_comm : slice_get all comm ≡ Some lists
  pub place : ℕ
  pub there : StandsAt lists place p
  pub first : Request
  pub earliest : IsEarliest lists place first
  pub differs : p.sig ≢ first.sig

-- the line of a request that differs, and none in an earlier line does
pub record IsFirstToDiffer (all : List (List (List Request))) (line : ℕ) : Type 0 where
  pub p : Request
  pub is_line : p.line ≡ line
  pub differs : Differs all p
  pub first : (q : Request) → Differs all q → line ≤ q.line

-- at each communicator and place all signatures and modes are the same
abbrev pub NoneDiffers : List (List (List Request)) → Type 0
NoneDiffers all = (p : Request) → Differs all p → ⊥

-- two members of a communicator
pub record AreMembers (all : List (List (List Request))) (one other : List Request) : Type 0 where
  pub comm : ℕ
  pub lists : List (List Request)
  pub is_comm : slice_get all comm ≡ Some lists
  pub member : ℕ
  pub is_one : slice_get lists member ≡ Some one
  pub peer : ℕ
  pub is_other : slice_get lists peer ≡ Some other

-- a member has a place that another lacks
pub record LacksPlace (all : List (List (List Request))) : Type 0 where
  pub one : List Request
  pub other : List Request
  pub members : AreMembers all one other
  pub place : ℕ
  pub has : place < length one
  pub lacks : length other ≤ place

-- two members have different numbers of starts at a place
pub record LacksStart (all : List (List (List Request))) : Type 0 where
  pub one : List Request
  pub other : List Request
  pub members : AreMembers all one other
  pub place : ℕ
  pub p : Request
  pub q : Request
  pub is_one : slice_get one place ≡ Some p
  pub is_other : slice_get other place ≡ Some q
  pub differs : length p.starts ≢ length q.starts

-- what a fault that is judged after that many lines says
abbrev pub SaysOf : List (List (List Request)) → ℕ → ℕ → Cause → Type 0
SaysOf all last line PlaceMismatch = IsFirstToDiffer all line
SaysOf all last line PlaceMissing =
    (line ≡ last)
    × NoneDiffers all
    × LacksPlace all
SaysOf all last line StartMissing =
    (line ≡ last)
    × NoneDiffers all
    × (LacksPlace all → ⊥)
    × LacksStart all
SaysOf all last line cause = ⊥

-- the requests of all ranks belong together
pub record Belong (all : List (List (List Request))) : Type 0 where
  pub alike : NoneDiffers all
  pub whole : LacksPlace all → ⊥
  pub started : LacksStart all → ⊥
