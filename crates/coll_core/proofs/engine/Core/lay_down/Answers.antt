use Rattle.std.proofs.Common.{◌≡◌, ◌∙◌, Some, None, length, ap, refl, subst}
use Rattle.coll_arena.specs.declared.list_name.ListName.TheVariants.{Idle}
use Rattle.std.specs.Arc.{arc_value}
use Rattle.coll_arena.specs.ListNames.{number_of}
use Rattle.coll_lists.specs.Layouts.{sequence}
use Rattle.coll_kinds.specs.declared.kind.Mode.TheVariants.{Persistent}
use Rattle.coll_kinds.specs.declared.signature.Signature.{Signature}
use Rattle.coll_machine.specs.Common.{Init, Ticketed, MachineStep}
use Rattle.coll_queues.specs.Refusing.{judge_refusal}
use Rattle.coll_refinement.proofs.engine.Changes.{Initialises}
use Rattle.coll_refinement.proofs.engine.Statements.{MayEnter}
use Rattle.coll_refinement.proofs.engine.Accepted.{entry_core}
use Rattle.coll_core.specs.declared.request.Request.{Request}
use Rattle.coll_arena.specs.Slots.{Slots}
use Rattle.coll_core.specs.Progress.{KeepsProgress}
use Rattle.coll_core.specs.Requests.{shown}
use Rattle.coll_core.specs.Cores.{Parts, seen, setting}
use Rattle.coll_core.specs.Posts.{planned, refused_in}
use Rattle.coll_core.proofs.post.Post.{accepted_from, emptied, init_kept, init_progress, init_steps, initialised_as, offered_as, one_slot, parts_of}
use Rattle.coll_core.proofs.engine.Core.lay_down.Goals as goal

pub offer-place-requires-clause-judged : goal.offer-place-requires-clause-judged
offer-place-requires-clause-judged c =
    let p : Parts =
    record {
      ranks = c.self.inside.ranks;
      starts = c.self.inside.starts;
      trace = c.self.inside.trace;
      arena =
          c.self.inside.arena;
      queues = c.self.inside.queues;
      matches = c.self.inside.matches;
    } in
    let plan = planned c.args.plan in
    let accepted : refused_in p (Init c.args.rank c.args.comm plan) ≡ None =
    accepted_from p c.args.self.now (Init c.args.rank c.args.comm plan) c.self.view_is c.requires.accepted in
    let tested : MayEnter (setting p) p.arena p.queues c.args.rank c.args.comm Persistent plan =
    (entry_core shown (setting p) p.arena p.queues p.matches c.args.rank c.args.comm plan c.self.invariant c.is_sound.ensures).1 accepted in
    ap (λ (s : Signature). judge_refusal c.self.inside.queues c.args.comm c.args.rank s) c.requires.sig ∙ tested.judged

pub unreachable-requires : goal.unreachable-requires
unreachable-requires c =
    let p : Parts =
    record {
      ranks = c.self.inside.ranks;
      starts = c.self.inside.starts;
      trace = c.self.inside.trace;
      arena =
          c.self.inside.arena;
      queues = c.self.inside.queues;
      matches = c.self.inside.matches;
    } in
    let plan = planned c.args.plan in
    let accepted : refused_in p (Init c.args.rank c.args.comm plan) ≡ None =
    accepted_from p c.args.self.now (Init c.args.rank c.args.comm plan) c.self.view_is c.requires.accepted in
    let tested : MayEnter (setting p) p.arena p.queues c.args.rank c.args.comm Persistent plan =
    (entry_core shown (setting p) p.arena p.queues p.matches c.args.rank c.args.comm plan c.self.invariant c.is_sound.ensures).1 accepted in
    emptied (length (sequence p.arena.lists 0)) c.in-Err.ensures.full tested.free

pub invariant_of-self : goal.invariant_of-self
invariant_of-self c =
    let p : Parts =
    record {
      ranks = c.self.inside.ranks;
      starts = c.self.inside.starts;
      trace = c.self.inside.trace;
      arena =
          c.self.inside.arena;
      queues = c.self.inside.queues;
      matches = c.self.inside.matches;
    } in
    let plan = planned c.args.plan in
    let accepted : refused_in p (Init c.args.rank c.args.comm plan) ≡ None =
    accepted_from p c.args.self.now (Init c.args.rank c.args.comm plan) c.self.view_is c.requires.accepted in
    let y : Request =
    record {
      rank = c.args.rank;
      comm = c.args.comm;
      place = c.offer-place.result;
      hint = 0;
      plan = c.args.plan;
      starts =
          0;
      round = 0;
      index = 0;
      buffer = c.empty.result;
    } in
    let h : Initialises shown (setting p) (seen p).state p.arena c.take.new.self p.queues c.offer-place.new.self c.in-Ok.ticket
    c.args.rank c.args.comm plan y = record {
      accepted = accepted;
      free = record { first = c.in-Ok.ensures.slot; next = c.in-Ok.ensures.generation };
      offered = offered_as p.queues c.offer-place.new.self c.args.comm c.args.rank (arc_value c.args.sig) plan c.requires.sig
          (record {
            groups = c.offer-place.ensures.groups;
            places = c.offer-place.ensures.places;
            posted =
                c.offer-place.ensures.posts;
            signs = c.offer-place.ensures.signed;
          });
      puts = one_slot p.arena c.take.new.self c.in-Ok.ticket.slot c.in-Ok.ticket.generation 0 0 (Some y)
          (number_of (Idle c.args.comm)) refl c.in-Ok.ensures.puts;
      is = initialised_as p.queues c.args.rank c.args.comm c.offer-place.result plan c.empty.result c.empty.ensures c.offer-place.ensures.place;
    } in
    init_kept p c.take.new.self c.offer-place.new.self c.in-Ok.ticket c.args.rank c.args.comm plan y c.self.invariant c.is_sound.ensures h

pub returns-clause-made : goal.returns-clause-made
returns-clause-made c =
    let p : Parts =
    record {
      ranks = c.self.inside.ranks;
      starts = c.self.inside.starts;
      trace = c.self.inside.trace;
      arena =
          c.self.inside.arena;
      queues = c.self.inside.queues;
      matches = c.self.inside.matches;
    } in
    let plan = planned c.args.plan in
    let accepted : refused_in p (Init c.args.rank c.args.comm plan) ≡ None =
    accepted_from p c.args.self.now (Init c.args.rank c.args.comm plan) c.self.view_is c.requires.accepted in
    let y : Request =
    record {
      rank = c.args.rank;
      comm = c.args.comm;
      place = c.offer-place.result;
      hint = 0;
      plan = c.args.plan;
      starts =
          0;
      round = 0;
      index = 0;
      buffer = c.empty.result;
    } in
    let h : Initialises shown (setting p) (seen p).state p.arena c.take.new.self p.queues c.offer-place.new.self c.in-Ok.ticket
    c.args.rank c.args.comm plan y = record {
      accepted = accepted;
      free = record { first = c.in-Ok.ensures.slot; next = c.in-Ok.ensures.generation };
      offered = offered_as p.queues c.offer-place.new.self c.args.comm c.args.rank (arc_value c.args.sig) plan c.requires.sig
          (record {
            groups = c.offer-place.ensures.groups;
            places = c.offer-place.ensures.places;
            posted =
                c.offer-place.ensures.posts;
            signs = c.offer-place.ensures.signed;
          });
      puts = one_slot p.arena c.take.new.self c.in-Ok.ticket.slot c.in-Ok.ticket.generation 0 0 (Some y)
          (number_of (Idle c.args.comm)) refl c.in-Ok.ensures.puts;
      is = initialised_as p.queues c.args.rank c.args.comm c.offer-place.result plan c.empty.result c.empty.ensures c.offer-place.ensures.place;
    } in
    subst (λ (v : Parts). MachineStep (setting v) (seen v) (Init c.args.rank c.args.comm plan) (Ticketed c.in-Ok.ticket)
    (seen (parts_of p c.take.new.self c.offer-place.new.self p.matches))) c.self.view_is
    (init_steps p c.take.new.self c.offer-place.new.self c.in-Ok.ticket c.args.rank c.args.comm plan y c.self.invariant c.is_sound.ensures h)

pub returns-clause-progress : goal.returns-clause-progress
returns-clause-progress c =
    let p : Parts =
    record {
      ranks = c.self.inside.ranks;
      starts = c.self.inside.starts;
      trace = c.self.inside.trace;
      arena =
          c.self.inside.arena;
      queues = c.self.inside.queues;
      matches = c.self.inside.matches;
    } in
    let plan = planned c.args.plan in
    let accepted : refused_in p (Init c.args.rank c.args.comm plan) ≡ None =
    accepted_from p c.args.self.now (Init c.args.rank c.args.comm plan) c.self.view_is c.requires.accepted in
    let y : Request =
    record {
      rank = c.args.rank;
      comm = c.args.comm;
      place = c.offer-place.result;
      hint = 0;
      plan = c.args.plan;
      starts =
          0;
      round = 0;
      index = 0;
      buffer = c.empty.result;
    } in
    let h : Initialises shown (setting p) (seen p).state p.arena c.take.new.self p.queues c.offer-place.new.self c.in-Ok.ticket
    c.args.rank c.args.comm plan y = record {
      accepted = accepted;
      free = record { first = c.in-Ok.ensures.slot; next = c.in-Ok.ensures.generation };
      offered = offered_as p.queues c.offer-place.new.self c.args.comm c.args.rank (arc_value c.args.sig) plan c.requires.sig
          (record {
            groups = c.offer-place.ensures.groups;
            places = c.offer-place.ensures.places;
            posted =
                c.offer-place.ensures.posts;
            signs = c.offer-place.ensures.signed;
          });
      puts = one_slot p.arena c.take.new.self c.in-Ok.ticket.slot c.in-Ok.ticket.generation 0 0 (Some y)
          (number_of (Idle c.args.comm)) refl c.in-Ok.ensures.puts;
      is = initialised_as p.queues c.args.rank c.args.comm c.offer-place.result plan c.empty.result c.empty.ensures c.offer-place.ensures.place;
    } in
    subst (λ (v : Parts). KeepsProgress v (parts_of p c.take.new.self c.offer-place.new.self p.matches) c.in-Ok.ticket.slot) c.self.view_is
    (init_progress p c.take.new.self c.offer-place.new.self c.in-Ok.ticket c.args.rank c.args.comm plan y c.self.invariant c.is_sound.ensures h
    (ap (λ (a : Slots Request). a.lists) c.in-Ok.ensures.taken))
