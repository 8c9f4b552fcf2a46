-- What the commands that a rank has carried out say of its requests: which there are, and how often each was started.
use Rattle.std.specs.Prelude.{ℕ, zero, suc, Bool, false, ◌||◌, List, [], ◌∷◌, slice_get, Option, Some, None}
use Rattle.coll_kinds.specs.declared.signature.Signature.{Signature}
use Rattle.coll_kinds.specs.Common.{is_among, put}
use Rattle.coll_parser.specs.declared.command.Command.{Command}
use Rattle.coll_parser.specs.declared.command.Command.TheVariants.{Post, Init, Start, Wait, Test, Free, WaitAny, WaitSome, WaitAll}

pub record Sketch : Type 0 where
  pub made : ℕ  -- how many requests there are
  pub posted : ℕ → ℕ  -- how many of them are on a communicator
  pub comm : ℕ → ℕ  -- a request's communicator,
  pub place : ℕ → ℕ  -- how many on it were made before,
  pub sig : ℕ → Option Signature  -- its signature,
  pub starts : ℕ → ℕ  -- how often it was started, a post being a start,
  pub rested : ℕ → Bool  -- whether a `wait` or a `waitall` has named it since, so that it is inactive,
  pub named : ℕ → Bool  -- and whether any call that completes requests has

-- before the first command
abbrev pub blank : Sketch
blank = record {
  made = 0;
  posted = λ comm. 0;
  comm = λ q. 0;
  place = λ q. 0;
  sig = λ q. None;
  starts = λ q. 0;
  rested = λ q. false;
  named = λ q. false;
}

-- one more request
abbrev pub making : Sketch → ℕ → Signature → ℕ → Sketch
making k comm sig starts = record {
  made = suc k.made;
  posted = put k.posted comm (suc (k.posted comm));
  comm = put k.comm k.made comm;
  place = put k.place k.made (k.posted comm);
  sig = put k.sig k.made (Some sig);
  starts = put k.starts k.made starts;
  rested = put k.rested k.made false;
  named = put k.named k.made false;
}

-- one more start
abbrev pub starting : Sketch → ℕ → Sketch
starting k q = record k { starts = put k.starts q (suc (k.starts q)); rested = put k.rested q false; named = put k.named q false }

-- a call that completes some of these, or none
abbrev pub naming : Sketch → List ℕ → Sketch
naming k qs = record k { named = λ q. k.named q || is_among q qs }

-- these have been waited for
abbrev pub resting : Sketch → List ℕ → Sketch
resting k qs = record k { rested = λ q. k.rested q || is_among q qs; named = λ q. k.named q || is_among q qs }

-- after one more command
abbrev pub sketched : Command → Sketch → Sketch
sketched (Post comm sig given) k = making k comm sig 1
sketched (Init comm sig) k = making k comm sig 0
sketched (Start q given) k = starting k q
sketched (Wait q) k = resting k (q ∷ [])
sketched (Test q) k = naming k (q ∷ [])
sketched (Free q) k = k
sketched (WaitAny qs) k = naming k qs
sketched (WaitSome qs) k = naming k qs
sketched (WaitAll qs) k = resting k qs

-- after one more command, if there is one
abbrev pub sketched_if : Option Command → Sketch → Sketch
sketched_if None k = k
sketched_if (Some c) k = sketched c k

-- after the first n of these commands
abbrev pub sketch_at : List Command → ℕ → Sketch
sketch_at lines zero = blank
sketch_at lines (suc n) = sketched_if (slice_get lines n) (sketch_at lines n)
