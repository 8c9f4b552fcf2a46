use Rattle.std.proofs.Common.{◌≡◌, ◌∙◌, ◌<◌, ◌≤◌, ◌^◌, ℕ, List, None, length, ap, refl, subst, sym, arith}
use Rattle.std.specs.Arc.{arc_value}
use Rattle.coll_arena.specs.ListNames.{number_of}
use Rattle.coll_lists.specs.Layouts.{sequence}
use Rattle.coll_kinds.specs.declared.kind.Mode.TheVariants.{Once}
use Rattle.coll_kinds.specs.declared.signature.Signature.{Signature}
use Rattle.coll_kinds.specs.Common.{AreBytes, given_len, max_len}
use Rattle.coll_machine.specs.Common.{Post, Ticketed, StepsTo}
use Rattle.coll_queues.specs.Refusing.{judge_refusal}
use Rattle.coll_refinement.proofs.engine.Statements.{MayEnter}
use Rattle.coll_core.specs.declared.request.Request.{Request}
use Rattle.coll_plans.specs.Plans.{family}
use Rattle.coll_arena.specs.Slots.{Slots}
use Rattle.coll_core.specs.Progress.{BeginsSchedule}
use Rattle.coll_core.proofs.step.Act.{list_low}
use Rattle.coll_core.specs.Requests.{shown}
use Rattle.coll_core.specs.Cores.{Parts, seen, setting}
use Rattle.coll_core.specs.Posts.{planned, refused_in, next_instance}
use Rattle.coll_core.proofs.post.Post.{Calls, accepted_from, emptied, given_now, lent_moved, not_given, parts_of, post_begins, post_kept, post_steps}
use Rattle.coll_match.specs.Instances.{LookUps, joined, look_ups}
use Rattle.coll_machine.specs.declared.key.Key.{Key}
use Rattle.coll_refinement.specs.Shown.{Instances}
use Rattle.coll_refinement.proofs.engine.Accepted.{entry_core}
use Rattle.coll_refinement.proofs.engine.Reads.{new_core}
use Rattle.coll_core.proofs.engine.Core.enter.Goals as goal

short : (len given : ℕ) → len ≡ given → given ≤ max_len → len < 2 ^ 32
short len given is small = omega (arith, is, small)

pub offer-place-requires-clause-judged : goal.offer-place-requires-clause-judged
offer-place-requires-clause-judged c =
    let p : Parts =
    record {
      ranks = c.self.inside.ranks;
      starts = c.self.inside.starts;
      trace = c.self.inside.trace;
      arena =
          c.self.inside.arena;
      queues = c.self.inside.queues;
      matches = c.self.inside.matches;
    } in
    let plan = planned c.args.offer.plan in
    let bytes = c.args.offer.bytes in
    let accepted : refused_in p (Post c.args.rank c.args.comm plan bytes) ≡ None =
    accepted_from p c.args.self.now (Post c.args.rank c.args.comm plan bytes) c.self.view_is c.requires.accepted in
    let tested : MayEnter (setting p) p.arena p.queues c.args.rank c.args.comm Once plan =
    ((entry_core shown (setting p) p.arena p.queues p.matches c.args.rank c.args.comm plan c.self.invariant c.is_sound.ensures).0 bytes accepted).0 in
    ap (λ (s : Signature). judge_refusal c.self.inside.queues c.args.comm c.args.rank s) c.requires.sig ∙ tested.judged

pub into_bytes-given-requires : goal.into_bytes-given-requires
into_bytes-given-requires c =
    let p : Parts =
    record {
      ranks = c.self.inside.ranks;
      starts = c.self.inside.starts;
      trace = c.self.inside.trace;
      arena =
          c.self.inside.arena;
      queues = c.self.inside.queues;
      matches = c.self.inside.matches;
    } in
    let plan = planned c.args.offer.plan in
    let bytes = c.args.offer.bytes in
    let accepted : refused_in p (Post c.args.rank c.args.comm plan bytes) ≡ None =
    accepted_from p c.args.self.now (Post c.args.rank c.args.comm plan bytes) c.self.view_is c.requires.accepted in
    let tested : MayEnter (setting p) p.arena p.queues c.args.rank c.args.comm Once plan × (length bytes ≡ given_len plan.sig plan.n plan.member) =
    (entry_core shown (setting p) p.arena p.queues p.matches c.args.rank c.args.comm plan c.self.invariant c.is_sound.ensures).0 bytes accepted in
    short (length bytes) (given_len plan.sig plan.n plan.member) tested.1
    (c.lengths_are_small.ensures plan.sig plan.n plan.member tested.0.checked tested.0.low).0

pub join-hint-requires-clause-new : goal.join-hint-requires-clause-new
join-hint-requires-clause-new c =
    let p : Parts =
    record {
      ranks = c.self.inside.ranks;
      starts = c.self.inside.starts;
      trace = c.self.inside.trace;
      arena =
          c.self.inside.arena;
      queues = c.self.inside.queues;
      matches = c.self.inside.matches;
    } in
    let plan = planned c.args.offer.plan in
    let bytes = c.args.offer.bytes in
    let accepted : refused_in p (Post c.args.rank c.args.comm plan bytes) ≡ None =
    accepted_from p c.args.self.now (Post c.args.rank c.args.comm plan bytes) c.self.view_is c.requires.accepted in
    let key_is : c.key-key.result ≡ record { comm = c.args.comm; place = c.offer-place.result; start = 0 } = c.key-key.ensures in
    let instance_is : c.key-key.result ≡ next_instance p.queues c.args.rank c.args.comm =
    key_is ∙ ap (λ l. record { comm = c.args.comm; place = l; start = 0 }) c.offer-place.ensures.place in
    not_given p.matches c.key-key.result (next_instance p.queues c.args.rank c.args.comm) c.member-member.result plan.member
    instance_is c.member-member.ensures.member
    ((new_core shown (setting p) p.arena p.queues p.matches c.self.invariant).0 c.args.rank c.args.comm plan bytes accepted)

gave : (n m : Instances) (k : Key) (member : ℕ) (given bytes : List ℕ) → look_ups n ≡ joined (look_ups m) k member given
    → given ≡ bytes → look_ups n ≡ joined (look_ups m) k member bytes
gave n m k member given bytes e same = e ∙ ap (λ (b : List ℕ). joined (look_ups m) k member b) same

pub seat-requires : goal.seat-requires
seat-requires c =
    given_now c.self.inside.matches c.join-hint.new.self c.key-key.result c.member-member.result c.args.offer.bytes
    (ap (λ (s : LookUps). s.given)
    (gave c.join-hint.new.self c.self.inside.matches c.key-key.result c.member-member.result c.into_bytes-given.result
    c.args.offer.bytes c.join-hint.ensures c.into_bytes-given.ensures))

pub invariant_of-self : goal.invariant_of-self
invariant_of-self c =
    let p : Parts =
    record {
      ranks = c.self.inside.ranks;
      starts = c.self.inside.starts;
      trace = c.self.inside.trace;
      arena =
          c.self.inside.arena;
      queues = c.self.inside.queues;
      matches = c.self.inside.matches;
    } in
    let plan = planned c.args.offer.plan in
    let bytes = c.args.offer.bytes in
    let accepted : refused_in p (Post c.args.rank c.args.comm plan bytes) ≡ None =
    accepted_from p c.args.self.now (Post c.args.rank c.args.comm plan bytes) c.self.view_is c.requires.accepted in
    let key_is : c.key-key.result ≡ record { comm = c.args.comm; place = c.offer-place.result; start = 0 } = c.key-key.ensures in
    let x : Request =
    record {
      rank = c.args.rank;
      comm = c.args.comm;
      place = c.offer-place.result;
      hint = c.join-hint.result;
      plan =
          c.args.offer.plan;
      starts = 1;
      round = 0;
      index = 0;
      buffer = c.args.buffer;
    } in
    let calls : Calls p c.take.new.self c.offer-place.new.self c.join-hint.new.self c.seat.new.self c.in-Ok.ticket c.args.rank
    c.args.comm plan bytes (arc_value c.args.sig) c.key-key.result c.offer-place.result c.member-member.result
    c.lent-weight.result (number_of c.list-list.result) x c.pass_ends.new.self = record {
      accepted = accepted;
      are = subst AreBytes c.as_slice.ensures c.are_bytes.ensures;
      free = record { first = c.in-Ok.ensures.slot; next = c.in-Ok.ensures.generation };
      offered = record {
        groups = c.offer-place.ensures.groups;
        places = c.offer-place.ensures.places;
        posted =
            c.offer-place.ensures.posts;
        signs = c.offer-place.ensures.signed;
      };
      sig_is = c.requires.sig;
      place_is = c.offer-place.ensures.place;
      key_is = key_is;
      member_is = c.member-member.ensures.member;
      joins = record {
        members_is = (ap (λ (s : LookUps). s.members)
            (gave c.join-hint.new.self c.self.inside.matches c.key-key.result c.member-member.result c.into_bytes-given.result
            c.args.offer.bytes c.join-hint.ensures c.into_bytes-given.ensures));
        given_is =
            (ap (λ (s : LookUps). s.given)
            (gave c.join-hint.new.self c.self.inside.matches c.key-key.result c.member-member.result c.into_bytes-given.result
            c.args.offer.bytes c.join-hint.ensures c.into_bytes-given.ensures));
        seats_is =
            (ap (λ (s : LookUps). s.seats)
            (gave c.join-hint.new.self c.self.inside.matches c.key-key.result c.member-member.result c.into_bytes-given.result
            c.args.offer.bytes c.join-hint.ensures c.into_bytes-given.ensures));
        mail_is =
            (ap (λ (s : LookUps). s.mail)
            (gave c.join-hint.new.self c.self.inside.matches c.key-key.result c.member-member.result c.into_bytes-given.result
            c.args.offer.bytes c.join-hint.ensures c.into_bytes-given.ensures));
        then_members =
            (ap (λ (s : LookUps). s.members) c.seat.ensures);
        then_given =
            (ap (λ (s : LookUps). s.given) c.seat.ensures);
        then_seats =
            (ap (λ (s : LookUps). s.seats) c.seat.ensures);
        then_mail = (ap (λ (s : LookUps). s.mail) c.seat.ensures);
      };
      puts = c.in-Ok.ensures.puts;
      weight_is = c.lent-weight.ensures
          ∙ lent_moved c.sig.result.now plan.sig c.n.result plan.n c.member-member.result plan.member c.sig.ensures.sig
          c.n.ensures.n c.member-member.ensures.member;
      made_is = refl;
      over = c.pass_ends.ensures;
      buf = c.requires.buffer;
      stands = c.list-list.ensures.stands;
      taken_is = ap (λ (a : Slots Request). a.lists) c.in-Ok.ensures.taken;
      apart = λ e. list_low c.pass_ends.new.self.comm c.list-list.result c.list-list.ensures.list (sym e);
    } in
    post_kept p c.take.new.self c.offer-place.new.self c.join-hint.new.self c.seat.new.self c.in-Ok.ticket c.args.rank
    c.args.comm plan bytes (arc_value c.args.sig) c.key-key.result c.offer-place.result c.member-member.result
    c.lent-weight.result (number_of c.list-list.result) x c.pass_ends.new.self c.self.invariant c.is_sound.ensures calls

pub unreachable-requires : goal.unreachable-requires
unreachable-requires c =
    let p : Parts =
    record {
      ranks = c.self.inside.ranks;
      starts = c.self.inside.starts;
      trace = c.self.inside.trace;
      arena =
          c.self.inside.arena;
      queues = c.self.inside.queues;
      matches = c.self.inside.matches;
    } in
    let plan = planned c.args.offer.plan in
    let bytes = c.args.offer.bytes in
    let accepted : refused_in p (Post c.args.rank c.args.comm plan bytes) ≡ None =
    accepted_from p c.args.self.now (Post c.args.rank c.args.comm plan bytes) c.self.view_is c.requires.accepted in
    let tested : MayEnter (setting p) p.arena p.queues c.args.rank c.args.comm Once plan =
    ((entry_core shown (setting p) p.arena p.queues p.matches c.args.rank c.args.comm plan c.self.invariant c.is_sound.ensures).0 bytes accepted).0 in
    emptied (length (sequence p.arena.lists 0)) c.in-Err.ensures.full tested.free

pub returns-clause-posted : goal.returns-clause-posted
returns-clause-posted c =
    let p : Parts =
    record {
      ranks = c.self.inside.ranks;
      starts = c.self.inside.starts;
      trace = c.self.inside.trace;
      arena =
          c.self.inside.arena;
      queues = c.self.inside.queues;
      matches = c.self.inside.matches;
    } in
    let plan = planned c.args.offer.plan in
    let bytes = c.args.offer.bytes in
    let accepted : refused_in p (Post c.args.rank c.args.comm plan bytes) ≡ None =
    accepted_from p c.args.self.now (Post c.args.rank c.args.comm plan bytes) c.self.view_is c.requires.accepted in
    let key_is : c.key-key.result ≡ record { comm = c.args.comm; place = c.offer-place.result; start = 0 } = c.key-key.ensures in
    let x : Request =
    record {
      rank = c.args.rank;
      comm = c.args.comm;
      place = c.offer-place.result;
      hint = c.join-hint.result;
      plan =
          c.args.offer.plan;
      starts = 1;
      round = 0;
      index = 0;
      buffer = c.args.buffer;
    } in
    let calls : Calls p c.take.new.self c.offer-place.new.self c.join-hint.new.self c.seat.new.self c.in-Ok.ticket c.args.rank
    c.args.comm plan bytes (arc_value c.args.sig) c.key-key.result c.offer-place.result c.member-member.result
    c.lent-weight.result (number_of c.list-list.result) x c.pass_ends.new.self = record {
      accepted = accepted;
      are = subst AreBytes c.as_slice.ensures c.are_bytes.ensures;
      free = record { first = c.in-Ok.ensures.slot; next = c.in-Ok.ensures.generation };
      offered = record {
        groups = c.offer-place.ensures.groups;
        places = c.offer-place.ensures.places;
        posted =
            c.offer-place.ensures.posts;
        signs = c.offer-place.ensures.signed;
      };
      sig_is = c.requires.sig;
      place_is = c.offer-place.ensures.place;
      key_is = key_is;
      member_is = c.member-member.ensures.member;
      joins = record {
        members_is = (ap (λ (s : LookUps). s.members)
            (gave c.join-hint.new.self c.self.inside.matches c.key-key.result c.member-member.result c.into_bytes-given.result
            c.args.offer.bytes c.join-hint.ensures c.into_bytes-given.ensures));
        given_is =
            (ap (λ (s : LookUps). s.given)
            (gave c.join-hint.new.self c.self.inside.matches c.key-key.result c.member-member.result c.into_bytes-given.result
            c.args.offer.bytes c.join-hint.ensures c.into_bytes-given.ensures));
        seats_is =
            (ap (λ (s : LookUps). s.seats)
            (gave c.join-hint.new.self c.self.inside.matches c.key-key.result c.member-member.result c.into_bytes-given.result
            c.args.offer.bytes c.join-hint.ensures c.into_bytes-given.ensures));
        mail_is =
            (ap (λ (s : LookUps). s.mail)
            (gave c.join-hint.new.self c.self.inside.matches c.key-key.result c.member-member.result c.into_bytes-given.result
            c.args.offer.bytes c.join-hint.ensures c.into_bytes-given.ensures));
        then_members =
            (ap (λ (s : LookUps). s.members) c.seat.ensures);
        then_given =
            (ap (λ (s : LookUps). s.given) c.seat.ensures);
        then_seats =
            (ap (λ (s : LookUps). s.seats) c.seat.ensures);
        then_mail = (ap (λ (s : LookUps). s.mail) c.seat.ensures);
      };
      puts = c.in-Ok.ensures.puts;
      weight_is = c.lent-weight.ensures
          ∙ lent_moved c.sig.result.now plan.sig c.n.result plan.n c.member-member.result plan.member c.sig.ensures.sig
          c.n.ensures.n c.member-member.ensures.member;
      made_is = refl;
      over = c.pass_ends.ensures;
      buf = c.requires.buffer;
      stands = c.list-list.ensures.stands;
      taken_is = ap (λ (a : Slots Request). a.lists) c.in-Ok.ensures.taken;
      apart = λ e. list_low c.pass_ends.new.self.comm c.list-list.result c.list-list.ensures.list (sym e);
    } in
    subst (λ (v : Parts). StepsTo (setting v) (seen v) (Post c.args.rank c.args.comm plan bytes) (Ticketed c.in-Ok.ticket)
    (seen (parts_of p c.take.new.self c.offer-place.new.self c.seat.new.self))) c.self.view_is
    (post_steps p c.take.new.self c.offer-place.new.self c.join-hint.new.self c.seat.new.self c.in-Ok.ticket c.args.rank
    c.args.comm plan bytes (arc_value c.args.sig) c.key-key.result c.offer-place.result c.member-member.result
    c.lent-weight.result (number_of c.list-list.result) x c.pass_ends.new.self c.self.invariant c.is_sound.ensures calls)

pub returns-clause-begins : goal.returns-clause-begins
returns-clause-begins c =
    let p : Parts =
    record {
      ranks = c.self.inside.ranks;
      starts = c.self.inside.starts;
      trace = c.self.inside.trace;
      arena =
          c.self.inside.arena;
      queues = c.self.inside.queues;
      matches = c.self.inside.matches;
    } in
    let plan = planned c.args.offer.plan in
    let bytes = c.args.offer.bytes in
    let accepted : refused_in p (Post c.args.rank c.args.comm plan bytes) ≡ None =
    accepted_from p c.args.self.now (Post c.args.rank c.args.comm plan bytes) c.self.view_is c.requires.accepted in
    let key_is : c.key-key.result ≡ record { comm = c.args.comm; place = c.offer-place.result; start = 0 } = c.key-key.ensures in
    let x : Request =
    record {
      rank = c.args.rank;
      comm = c.args.comm;
      place = c.offer-place.result;
      hint = c.join-hint.result;
      plan =
          c.args.offer.plan;
      starts = 1;
      round = 0;
      index = 0;
      buffer = c.args.buffer;
    } in
    let calls : Calls p c.take.new.self c.offer-place.new.self c.join-hint.new.self c.seat.new.self c.in-Ok.ticket c.args.rank
    c.args.comm plan bytes (arc_value c.args.sig) c.key-key.result c.offer-place.result c.member-member.result
    c.lent-weight.result (number_of c.list-list.result) x c.pass_ends.new.self = record {
      accepted = accepted;
      are = subst AreBytes c.as_slice.ensures c.are_bytes.ensures;
      free = record { first = c.in-Ok.ensures.slot; next = c.in-Ok.ensures.generation };
      offered = record {
        groups = c.offer-place.ensures.groups;
        places = c.offer-place.ensures.places;
        posted =
            c.offer-place.ensures.posts;
        signs = c.offer-place.ensures.signed;
      };
      sig_is = c.requires.sig;
      place_is = c.offer-place.ensures.place;
      key_is = key_is;
      member_is = c.member-member.ensures.member;
      joins = record {
        members_is = (ap (λ (s : LookUps). s.members)
            (gave c.join-hint.new.self c.self.inside.matches c.key-key.result c.member-member.result c.into_bytes-given.result
            c.args.offer.bytes c.join-hint.ensures c.into_bytes-given.ensures));
        given_is =
            (ap (λ (s : LookUps). s.given)
            (gave c.join-hint.new.self c.self.inside.matches c.key-key.result c.member-member.result c.into_bytes-given.result
            c.args.offer.bytes c.join-hint.ensures c.into_bytes-given.ensures));
        seats_is =
            (ap (λ (s : LookUps). s.seats)
            (gave c.join-hint.new.self c.self.inside.matches c.key-key.result c.member-member.result c.into_bytes-given.result
            c.args.offer.bytes c.join-hint.ensures c.into_bytes-given.ensures));
        mail_is =
            (ap (λ (s : LookUps). s.mail)
            (gave c.join-hint.new.self c.self.inside.matches c.key-key.result c.member-member.result c.into_bytes-given.result
            c.args.offer.bytes c.join-hint.ensures c.into_bytes-given.ensures));
        then_members =
            (ap (λ (s : LookUps). s.members) c.seat.ensures);
        then_given =
            (ap (λ (s : LookUps). s.given) c.seat.ensures);
        then_seats =
            (ap (λ (s : LookUps). s.seats) c.seat.ensures);
        then_mail = (ap (λ (s : LookUps). s.mail) c.seat.ensures);
      };
      puts = c.in-Ok.ensures.puts;
      weight_is = c.lent-weight.ensures
          ∙ lent_moved c.sig.result.now plan.sig c.n.result plan.n c.member-member.result plan.member c.sig.ensures.sig
          c.n.ensures.n c.member-member.ensures.member;
      made_is = refl;
      over = c.pass_ends.ensures;
      buf = c.requires.buffer;
      stands = c.list-list.ensures.stands;
      taken_is = ap (λ (a : Slots Request). a.lists) c.in-Ok.ensures.taken;
      apart = λ e. list_low c.pass_ends.new.self.comm c.list-list.result c.list-list.ensures.list (sym e);
    } in
    subst (λ (v : Parts). BeginsSchedule v (parts_of p c.take.new.self c.offer-place.new.self c.seat.new.self)
    c.in-Ok.ticket.slot (family plan.sig plan.n plan.member)) c.self.view_is
    (post_begins p c.take.new.self c.offer-place.new.self c.join-hint.new.self c.seat.new.self c.in-Ok.ticket c.args.rank
    c.args.comm plan bytes (arc_value c.args.sig) c.key-key.result c.offer-place.result c.member-member.result
    c.lent-weight.result (number_of c.list-list.result) x c.pass_ends.new.self c.self.invariant c.is_sound.ensures calls)
