-- One instance as it runs: members join, act one action at a time in any order, and leave
use Rattle.std.specs.Prelude.{◌≡◌, ℕ, suc, ◌<◌, ◌==◌, ◌&&◌, cond, List, [], length, replicate, slice_get, unwrap_or, Option, Some, None}
use Rattle.coll_kinds.specs.Common.{put, AreBytes}
use Rattle.coll_sched.specs.declared.region.Region.{Region}
use Rattle.coll_sched.specs.declared.action.Action.{Action}
use Rattle.coll_sched.specs.declared.action.Action.TheVariants.{Send, Recv}
use Rattle.coll_sched.specs.Regions.{read_of, written}
use Rattle.coll_sched.specs.Actions.{wrote, IsLocal}
use Rattle.coll_sched.specs.Families.{Family, actions_at, laid_in}

-- the next action of a member, and its buffer
pub record Progress : Type 0 where
  pub round : ℕ
  pub index : ℕ
  pub buf : List ℕ

-- given: what each member gave; progress: of the members that have joined and not left; mail: by sender,
-- receiver, round
pub record World : Type 0 where
  pub given : ℕ → Option (List ℕ)
  pub progress : ℕ → Option Progress
  pub mail : ℕ → ℕ → ℕ → Option (List ℕ)

-- nobody has joined
abbrev pub empty : World
empty = record { given = λ r. None; progress = λ r. None; mail = λ q r j. None }

-- the mail with another value under one key
abbrev pub put_mail : (ℕ → ℕ → ℕ → Option (List ℕ)) → ℕ → ℕ → ℕ → Option (List ℕ) → ℕ → ℕ → ℕ → Option (List ℕ)
put_mail m q r j v a b c = cond ((a == q) && ((b == r) && (c == j))) v (m a b c)

-- zeros for those who have not joined
abbrev pub filled : Family → (ℕ → Option (List ℕ)) → ℕ → List ℕ
filled f given r = unwrap_or (given r) (replicate (f r).input.len 0)

-- member r has joined with these bytes
abbrev pub joined : Family → World → ℕ → List ℕ → World
joined f w r bytes =
    record {
      given = put w.given r (Some bytes);
      progress = put w.progress r (Some (record { round = 0; index = 0; buf = laid_in (f r) bytes }));
      mail = w.mail;
    }

-- member r goes one action on, with this buffer
abbrev pub acted : World → ℕ → Progress → List ℕ → (ℕ → ℕ → ℕ → Option (List ℕ)) → World
acted w r p buf mail =
    record {
      given = w.given;
      progress = put w.progress r (Some (record { round = p.round; index = suc p.index; buf = buf }));
      mail = mail;
    }

-- member r is at the beginning of its next round
abbrev pub turned : World → ℕ → Progress → World
turned w r p =
    record {
      given = w.given;
      progress = put w.progress r (Some (record { round = suc p.round; index = 0; buf = p.buf }));
      mail = w.mail;
    }

-- member r has left
abbrev pub left : World → ℕ → World
left w r = record { given = w.given; progress = put w.progress r None; mail = w.mail }

-- a is the next action of member r
abbrev pub IsNext : Family → World → ℕ → Progress → Action → Type 0
IsNext f w r p a = (w.progress r ≡ Some p) × (slice_get (actions_at f p.round r) p.index ≡ Some a)

-- one event: a join, one action, the end of a round, or a leave
pub data Step (n : ℕ) (f : Family) : World → World → Type 0 where
  join : {w : World} (r : ℕ) (bytes : List ℕ)
      → r < n
      → w.given r ≡ None
      → length bytes ≡ (f r).input.len
      → AreBytes bytes
      → Step n f w (joined f w r bytes)
  send : {w : World} (r : ℕ) (p : Progress) (to : ℕ) (from : Region)
      → IsNext f w r p (Send to from)
      → Step n f w (acted w r p p.buf (put_mail w.mail r to p.round (Some (read_of p.buf from))))
  compute : {w : World} (r : ℕ) (p : Progress) (a : Action)
      → IsNext f w r p a
      → IsLocal a
      → Step n f w (acted w r p (wrote (λ q. []) p.buf a p.buf) w.mail)
  receive : {w : World} (r : ℕ) (p : Progress) (of : ℕ) (into : Region) (bytes : List ℕ)
      → IsNext f w r p (Recv of into)
      → w.mail of r p.round ≡ Some bytes
      → Step n f w (acted w r p (written p.buf into bytes) (put_mail w.mail of r p.round None))
  turn : {w : World} (r : ℕ) (p : Progress)
      → w.progress r ≡ Some p
      → p.index ≡ length (actions_at f p.round r)
      → p.round < length (f r).rounds
      → Step n f w (turned w r p)
  leave : {w : World} (r : ℕ) (p : Progress)
      → w.progress r ≡ Some p
      → p.round ≡ length (f r).rounds
      → Step n f w (left w r)

-- the worlds that lists of events lead to
pub data Reached (n : ℕ) (f : Family) : World → Type 0 where
  begun : Reached n f empty
  stepped : {w v : World} → Reached n f w → Step n f w v → Reached n f v
