-- What the engine's calls change in its tables, as the tables after them.
use Rattle.std.specs.Prelude.{ℕ, suc, false, List, [], ◌∷◌, ◌++◌, length, Option, Some, None}
use Rattle.coll_kinds.specs.Puts.{put}
use Rattle.coll_sched.specs.declared.region.Region.{Region}
use Rattle.coll_sched.specs.Common.{read_of, Progress, put_mail}
use Rattle.coll_machine.specs.declared.key.Key.{Key}
use Rattle.coll_machine.specs.Common.{Planned, put2, put_in, put_key}
use Rattle.coll_refinement.specs.Requests.{Live, at, key, advanced, begun, rests}
use Rattle.coll_refinement.specs.Tables.{Mail, Tables}

-- one message more, or one less
abbrev pub mailed : (Key → Mail) → Key → ℕ → ℕ → ℕ → Option (List ℕ) → Key → Mail
mailed mail k from to round message = put_key mail k (put_mail (mail k) from to round message)

-- a signature enters a posting list, and a request of it, which isn't active, a slot
abbrev pub posting : Tables → ℕ → Live → (ℕ → ℕ) → Tables
posting v i q home = record {
  setting = v.setting;
  generation = put v.generation i (suc (v.generation i));
  request = put v.request i (Some q);
  home = home;
  posts = put2 v.posts q.comm q.member (v.posts q.comm q.member ++ q.sig ∷ []);
  signed = put2 v.signed q.comm q.place (Some q.sig);
  given = v.given;
  seats = v.seats;
  mail = v.mail;
}

-- bytes enter the collective of a request's next start, and it becomes active
abbrev pub joining : Tables → ℕ → Live → List ℕ → Progress → (ℕ → ℕ) → Tables
joining v i q bytes p home = record {
  setting = v.setting;
  generation = v.generation;
  request = put v.request i (Some (begun q p));
  home = home;
  posts = v.posts;
  signed = v.signed;
  given = put_in v.given (at q q.starts) q.member (Some bytes);
  seats = put_in v.seats (at q q.starts) q.member (Some i);
  mail = v.mail;
}

-- a request goes on to a point, with these messages
abbrev pub acting : Tables → ℕ → Live → Progress → (Key → Mail) → (ℕ → ℕ) → Tables
acting v i q p mail home = record {
  setting = v.setting;
  generation = v.generation;
  request = put v.request i (Some (advanced q p));
  home = home;
  posts = v.posts;
  signed = v.signed;
  given = v.given;
  seats = v.seats;
  mail = mail;
}

-- a request is completed: it goes, or isn't active any more
abbrev pub leaving : Tables → ℕ → Live → (ℕ → ℕ) → Tables
leaving v i q home = record {
  setting = v.setting;
  generation = v.generation;
  request = put v.request i (rests q);
  home = home;
  posts = v.posts;
  signed = v.signed;
  given = v.given;
  seats = put_in v.seats (key q) q.member None;
  mail = v.mail;
}

-- nothing is kept of a collective that all have left
abbrev pub dissolving : Tables → Key → Tables
dissolving v k = record {
  setting = v.setting;
  generation = v.generation;
  request = v.request;
  home = v.home;
  posts = v.posts;
  signed = v.signed;
  given = put_key v.given k (λ m. None);
  seats = v.seats;
  mail = put_key v.mail k (λ from to round. None);
}

-- a request that isn't active goes
abbrev pub freeing : Tables → ℕ → (ℕ → ℕ) → Tables
freeing v i home = record {
  setting = v.setting;
  generation = v.generation;
  request = put v.request i None;
  home = home;
  posts = v.posts;
  signed = v.signed;
  given = v.given;
  seats = v.seats;
  mail = v.mail;
}

-- slots lie on other lists
abbrev pub rehoming : Tables → (ℕ → ℕ) → Tables
rehoming v home = record {
  setting = v.setting;
  generation = v.generation;
  request = v.request;
  home = home;
  posts = v.posts;
  signed = v.signed;
  given = v.given;
  seats = v.seats;
  mail = v.mail;
}

-- the request that a post or an initialisation makes
abbrev pub newcomer : Tables → ℕ → ℕ → Planned → Live
newcomer v comm rank plan = record {
  rank = rank;
  comm = comm;
  members = plan.n;
  member = plan.member;
  place = length (v.posts comm plan.member);
  sig = plan.sig;
  starts = 0;
  active = false;
  round = 0;
  index = 0;
  buf = [];
}

-- the messages after a Recv, and after a Send
abbrev pub received : Tables → Live → ℕ → Key → Mail
received v q of = mailed v.mail (key q) of q.member q.round None

abbrev pub delivered : Tables → Live → ℕ → Region → Key → Mail
delivered v q to from = mailed v.mail (key q) q.member to q.round (Some (read_of q.buf from))
