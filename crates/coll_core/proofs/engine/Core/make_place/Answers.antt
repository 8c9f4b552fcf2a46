use Rattle.std.proofs.Common.{inl, refl}
use Rattle.coll_machine.specs.declared.key.Key.{Key}
use Rattle.coll_core.specs.Cores.{Parts}
use Rattle.coll_core.proofs.post.Room.{room_kept, room_unchanged, unchanged_from}
use Rattle.coll_core.proofs.engine.Core.make_place.Goals as goal

abbrev some_key : Key
some_key = record { comm = 0; place = 0; start = 0 }

pub invariant_of-self : goal.invariant_of-self
invariant_of-self c =
    let p : Parts =
    record {
      ranks = c.self.inside.ranks;
      starts = c.self.inside.starts;
      trace = c.self.inside.trace;
      arena =
          c.self.inside.arena;
      queues = c.self.inside.queues;
      matches = c.self.inside.matches;
    } in
    room_kept p c.room.new.self c.self.inside.matches some_key c.self.invariant
    (record {
      groups = c.room.ensures.groups;
      places = c.room.ensures.places;
      posted = c.room.ensures.posts;
      members =
          inl refl;
      given = refl;
      seats = refl;
      mail = refl;
    })

pub returns-clause-unchanged : goal.returns-clause-unchanged
returns-clause-unchanged c =
    let p : Parts =
    record {
      ranks = c.self.inside.ranks;
      starts = c.self.inside.starts;
      trace = c.self.inside.trace;
      arena =
          c.self.inside.arena;
      queues = c.self.inside.queues;
      matches = c.self.inside.matches;
    } in
    unchanged_from p c.args.self.now _ c.self.view_is
    (room_unchanged p c.room.new.self c.self.inside.matches some_key c.self.invariant
    (record {
      groups = c.room.ensures.groups;
      places = c.room.ensures.places;
      posted = c.room.ensures.posts;
      members =
          inl refl;
      given = refl;
      seats = refl;
      mail = refl;
    }))
