-- The tables that an arena, posting lists and instances show. The arena's records are data of any type; a function
-- gives what each is as a live request, but for whether it is active: its list shows that.
use Rattle.std.specs.Prelude.{ℕ, ◌==◌, not, List, Option, Some, None, option_map, if◌then◌else◌}
use Rattle.coll_kinds.specs.Lengths.{lent}
use Rattle.coll_arena.specs.declared.list_name.ListName.TheVariants.{Idle}
use Rattle.coll_arena.specs.ListNames.{number_of}
use Rattle.coll_arena.specs.Slots.{Slots, count, generation_of, home, record_in}
use Rattle.coll_queues.specs.Postings.{Postings, groups_of, posts, signed}
use Rattle.coll_match.specs.Held.{Held}
use Rattle.coll_match.specs.Instances.{given, mail, seats}
use Rattle.coll_machine.specs.Settings.{Setting}
use Rattle.coll_machine.specs.declared.key.Key.{Key}
use Rattle.coll_refinement.specs.Requests.{Live}
use Rattle.coll_refinement.specs.Tables.{Tables}

abbrev pub Instances : Type 0
Instances = List (Key × Held)

-- a request that lies on that list
abbrev pub listed : ℕ → Live → Live
listed l q = record {
  rank = q.rank;
  comm = q.comm;
  members = q.members;
  member = q.member;
  place = q.place;
  sig = q.sig;
  starts = q.starts;
  active = not (l == number_of (Idle q.comm));
  round = q.round;
  index = q.index;
  buf = q.buf;
}

abbrev pub seen : ℕ → Option Live → Option Live
seen l None = None
seen l (Some q) = Some (listed l q)

-- what stays the same, by the engine's own limits
abbrev pub setting_of : {R : Type 0} → ℕ → ℕ → ℕ → Slots R → Postings → Setting
setting_of ranks starts trace a q = record {
  ranks = ranks;
  groups = groups_of q;
  slots = count a;
  places = q.places;
  wear = a.wear;
  starts = starts;
  trace = trace;
}

abbrev pub tables : {R : Type 0} → (R → Live) → Setting → Slots R → Postings → Instances → Tables
tables shown g a q m = record {
  setting = g;
  generation = generation_of a;
  request = λ i. seen (home a i) (option_map shown (record_in a i));
  home = home a;
  posts = posts q;
  signed = signed q;
  given = given m;
  seats = seats m;
  mail = mail m;
}

-- what a live request lends while it is active: the weight of its slot
abbrev pub weight : Live → ℕ
weight q = if q.active then lent q.sig q.members q.member else 0

abbrev pub weight_by : Option Live → ℕ
weight_by None = 0
weight_by (Some q) = weight q
