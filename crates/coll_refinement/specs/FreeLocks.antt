-- What callers can see of the tables whenever no call is under way.
use Rattle.std.specs.Prelude.{◌≡◌, ◌≢◌, ◌<◌, ◌⊎◌, ℕ, Bool, true, false, List, length, slice_get, Option, Some, None}
use Rattle.coll_kinds.specs.declared.signature.Signature.{Signature}
use Rattle.coll_kinds.specs.Needs.{needs}
use Rattle.coll_ops.specs.Values.{value}
use Rattle.coll_sched.specs.Regions.{read_of}
use Rattle.coll_sched.specs.Families.{Family, Heard}
use Rattle.coll_plans.specs.Plans.{family}
use Rattle.coll_arena.specs.declared.list_name.ListName.TheVariants.{Ready, Running, Idle, Queue, Done}
use Rattle.coll_arena.specs.ListNames.{number_of}
use Rattle.coll_machine.specs.Common.{size, filled}
use Rattle.coll_refinement.specs.Requests.{Live, key}
use Rattle.coll_refinement.specs.Tables.{Tables, machine}
use Rattle.coll_refinement.specs.Sound.{Lies}

-- the list of a request, by whether it is active, and Done
abbrev pub LiesBy : Bool → Bool → ℕ → ℕ → Type 0
LiesBy false done comm l = l ≡ number_of (Idle comm)
LiesBy true false comm l =
    (l ≡ number_of Ready) ⊎ ((l ≡ number_of Running) ⊎ (l ≡ number_of (Queue comm)))
LiesBy true true comm l = l ≡ number_of (Done comm)

-- all members on whom a Done request's value rests have given, and its output is that value
pub record Holding (v : Tables) (q : Live) : Type 0 where
  pub active : q.active ≡ true
  pub needed : (m : ℕ) → needs q.sig (size v.setting q.comm) q.member m ≡ true → v.given (key q) m ≢ None
  pub value_is : read_of q.buf (family q.sig (size v.setting q.comm) q.member).output
      ≡ value q.sig (filled q.sig (size v.setting q.comm) (v.given (key q))) q.member

pub record FreeLock (v : Tables) : Type 0 where
  -- each slot lies on the list that its request's phase names, or on that of its age
  pub lists : (i : ℕ) (q : Live) → v.request i ≡ Some q → LiesBy q.active ((machine v).done i) q.comm (v.home i)
  pub spare : (i : ℕ) → i < v.setting.slots → v.request i ≡ None → Lies v.setting.wear (v.generation i) (v.home i)
  -- any two posting lists agree, and live requests stand for their entries
  pub agree : (c m n p : ℕ) (s t : Signature) → slice_get (v.posts c m) p ≡ Some s
      → slice_get (v.posts c n) p ≡ Some t → s ≡ t
  pub own : (i : ℕ) (q : Live) → v.request i ≡ Some q → slice_get (v.posts q.comm q.member) q.place ≡ Some q.sig
  pub alone : (i j : ℕ) (q r : Live) → v.request i ≡ Some q → v.request j ≡ Some r
      → q.comm ≡ r.comm → q.place ≡ r.place → q.member ≡ r.member → i ≡ j
  -- what is Done holds its value
  pub held : (i : ℕ) (q : Live) → v.request i ≡ Some q → (machine v).done i ≡ true → Holding v q

-- nothing can go on
abbrev pub NothingGoes : Tables → Type 0
NothingGoes v = (i : ℕ) (q : Live) → v.request i ≡ Some q
    → (v.home i ≢ number_of Ready) × (v.home i ≢ number_of Running)

-- from whom a member of the family hears by the end of its schedule have given
abbrev pub HaveGiven : Family → ℕ → (ℕ → Option (List ℕ)) → Type 0
HaveGiven f r given = (m : ℕ) → Heard f (length (f r).rounds) r m → given m ≢ None

-- so it is with the start that the request works on
abbrev pub HasHeard : Tables → Live → Type 0
HasHeard v q = HaveGiven (family q.sig (size v.setting q.comm)) q.member (v.given (key q))
