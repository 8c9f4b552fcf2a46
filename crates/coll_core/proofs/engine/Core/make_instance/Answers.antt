use Rattle.std.proofs.Common.{◌≡◌, ◌∙◌, ap, sym, subst}
use Rattle.coll_machine.specs.Settings.{size}
use Rattle.coll_refinement.proofs.engine.Changes.{HasMade}
use Rattle.coll_core.specs.Cores.{Parts, setting}
use Rattle.coll_core.proofs.post.Room.{made_by, room_kept, room_unchanged, unchanged_from, roomy}
use Rattle.coll_core.proofs.engine.Core.make_instance.Goals as goal

pub invariant_of-self : goal.invariant_of-self
invariant_of-self c =
    let p : Parts =
    record {
      ranks = c.self.inside.ranks;
      starts = c.self.inside.starts;
      trace = c.self.inside.trace;
      arena =
          c.self.inside.arena;
      queues = c.self.inside.queues;
      matches = c.self.inside.matches;
    } in
    let n_is : c.args.n ≡ size (setting p) c.args.key.comm = c.requires ∙ sym (ap (λ (x : Parts). size (setting x) c.args.key.comm) c.self.view_is) in
    let made : HasMade p.queues p.queues p.matches c.room.new.self c.args.key (size (setting p) c.args.key.comm) =
    subst (λ s. HasMade p.queues p.queues p.matches c.room.new.self c.args.key s) n_is
    (made_by c.room.result p.queues p.matches c.room.new.self c.args.key c.args.n c.room.ensures.room c.room.ensures.err) in
    room_kept p p.queues c.room.new.self c.args.key c.self.invariant made

pub returns-clause-unchanged : goal.returns-clause-unchanged
returns-clause-unchanged c =
    let p : Parts =
    record {
      ranks = c.self.inside.ranks;
      starts = c.self.inside.starts;
      trace = c.self.inside.trace;
      arena =
          c.self.inside.arena;
      queues = c.self.inside.queues;
      matches = c.self.inside.matches;
    } in
    let n_is : c.args.n ≡ size (setting p) c.args.key.comm = c.requires ∙ sym (ap (λ (x : Parts). size (setting x) c.args.key.comm) c.self.view_is) in
    let made : HasMade p.queues p.queues p.matches c.room.new.self c.args.key (size (setting p) c.args.key.comm) =
    subst (λ s. HasMade p.queues p.queues p.matches c.room.new.self c.args.key s) n_is
    (made_by c.room.result p.queues p.matches c.room.new.self c.args.key c.args.n c.room.ensures.room c.room.ensures.err) in
    unchanged_from p c.args.self.now _ c.self.view_is (room_unchanged p p.queues c.room.new.self c.args.key c.self.invariant made)

pub returns-clause-room : goal.returns-clause-room
returns-clause-room c =
    let p : Parts =
    record {
      ranks = c.self.inside.ranks;
      starts = c.self.inside.starts;
      trace = c.self.inside.trace;
      arena =
          c.self.inside.arena;
      queues = c.self.inside.queues;
      matches = c.self.inside.matches;
    } in
    let n_is : c.args.n ≡ size (setting p) c.args.key.comm = c.requires ∙ sym (ap (λ (x : Parts). size (setting x) c.args.key.comm) c.self.view_is) in
    roomy c.room.result p.matches c.room.new.self c.args.key c.args.n (λ j e. c.self.invariant.sizes c.args.key j e ∙ sym n_is) c.room.ensures.room
