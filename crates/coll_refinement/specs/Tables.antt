-- The engine's tables as functions, and what callers can know of them.
use Rattle.std.specs.Prelude.{ℕ, ◌==◌, Bool, false, List, [], unwrap_or, Option, Some, None}
use Rattle.coll_kinds.specs.declared.datatype.Datatype.TheVariants.{Byte}
use Rattle.coll_kinds.specs.declared.kind.Kind.TheVariants.{Barrier}
use Rattle.coll_kinds.specs.declared.kind.Mode.TheVariants.{Once}
use Rattle.coll_kinds.specs.declared.signature.Signature.{Signature}
use Rattle.coll_sched.specs.Common.{Family, Progress, World}
use Rattle.coll_plans.specs.Plans.{family}
use Rattle.coll_arena.specs.declared.list_name.ListName.TheVariants.{Done}
use Rattle.coll_arena.specs.ListNames.{number_of}
use Rattle.coll_machine.specs.Common.{Setting, size, Request, State, Machine}
use Rattle.coll_machine.specs.declared.key.Key.{Key}
use Rattle.coll_refinement.specs.Requests.{Live, as_request}

-- the messages of one collective that weren't taken yet, by sender, receiver and round
abbrev pub Mail : Type 0
Mail = ℕ → ℕ → ℕ → Option (List ℕ)

pub record Tables : Type 0 where
  pub setting : Setting
  pub generation : ℕ → ℕ  -- how many requests a slot was given to
  pub request : ℕ → Option Live  -- the live request in a slot
  pub home : ℕ → ℕ  -- the number of the list that a slot lies on
  pub posts : ℕ → ℕ → List Signature  -- the posting list of a communicator's member
  pub signed : ℕ → ℕ → Option Signature  -- the signature at a communicator's place
  pub given : Key → ℕ → Option (List ℕ)  -- what a member gave to a collective, while it is kept
  pub seats : Key → ℕ → Option ℕ  -- the slot of a member's active request of a collective
  pub mail : Key → Mail

-- how far the members of each collective are that work on it
abbrev pub Paths : Type 0
Paths = Key → ℕ → Option Progress

-- the family of schedules of a collective; where no signature was posted at its place yet, any
abbrev pub no_signature : Signature
no_signature = record { kind = Barrier; mode = Once; root = 0; op = None; ty = Byte; count = 0; each = None }

abbrev pub family_at : Tables → Key → Family
family_at v k = family (unwrap_or (v.signed k.comm k.place) no_signature) (size v.setting k.comm)

-- one collective as it runs
abbrev pub world : Tables → Paths → Key → World
world v paths k = record { given = v.given k; progress = paths k; mail = v.mail k }

-- ---- an engine just opened

abbrev pub opened : Setting → (ℕ → ℕ) → Tables
opened g home = record {
  setting = g;
  generation = λ i. 0;
  request = λ i. None;
  home = home;
  posts = λ c m. [];
  signed = λ c p. None;
  given = λ k m. None;
  seats = λ k m. None;
  mail = λ k from to round. None;
}

-- ---- what callers can know

abbrev pub asked : Option Live → Option Request
asked None = None
asked (Some q) = Some (as_request q)

abbrev pub is_done : ℕ → Option Live → Bool
is_done l None = false
is_done l (Some q) = l == number_of (Done q.comm)

abbrev pub state : Tables → State
state v = record {
  generation = v.generation;
  request = λ i. asked (v.request i);
  posts = v.posts;
  given = v.given;
}

abbrev pub machine : Tables → Machine
machine v = record { state = state v; done = λ i. is_done (v.home i) (v.request i) }
