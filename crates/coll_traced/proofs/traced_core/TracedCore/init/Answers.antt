use Rattle.coll_machine.specs.Entries.{Inited}
use Rattle.std.proofs.Common.{◌+◌, ◌<◌, length, sym, ap, ◌∙◌}
use Rattle.coll_core.specs.Cores.{seen, setting}
use Rattle.coll_core.specs.Posts.{planned}
use Rattle.coll_traced.proofs.Keepers.{denies_room, denies_memory, denies_core, traced_in, kept, inited_there, inited_traced, inited_entry}
use Rattle.coll_traced.proofs.traced_core.TracedCore.init.Goals as goal

pub live-place-requires : goal.live-place-requires
live-place-requires g c =
    inited_there (setting c.self.inside.core) (seen c.self.inside.core) (seen c.init.new.self) c.args.rank c.args.comm
    (planned c.args.plan) c.in-Ok-init.ticket c.in-Ok-init.ensures.made

pub invariant_of-self-2 : goal.invariant_of-self-2
invariant_of-self-2 g c =
    let s = c.self.inside in (
      kept s.config s.core _ _ _ _ _ c.self.invariant.0 c.in-Ok-init.ensures.setting (
          inited_traced s.core c.init.new.self s.trace.entries c.begin-receipt.new.self.entries s.trace.reserved
          c.begin-receipt.new.self.reserved s.config.trace c.args.rank c.args.comm (planned c.args.plan) c.in-Ok-init.ticket
          c.live-place.result (traced_in c.self.invariant.0) c.in-Ok-init.ensures.setting
          c.in-Ok-init.ensures.made c.live-place.ensures c.in_default.ensures.fits
          (inited_entry _ _ _ _ _ _ _ _ _ c.make_room.ensures.entries c.begin-receipt.ensures.entries c.in-Ok.ensures.same)
          (c.begin-receipt.ensures.reserved ∙ ap (λ n. n + 1) c.make_room.ensures.reserved)
          ),
      c.self.invariant.1,
    )

pub returns-clause-receipt : goal.returns-clause-receipt
returns-clause-receipt g c = (
  c.live-place.result.place,
  c.begin-receipt.ensures.receipt
      ∙ (λ z. Inited c.args.rank c.in-Ok-init.ticket c.args.comm c.live-place.result.place (c.in-Ok.ensures.same z)),
)

pub returns-in-Err-clause-refused : goal.returns-in-Err-clause-refused
returns-in-Err-clause-refused g c = denies_room c.self.invariant.0 c.self.view_is c.in-Err.ensures.refused

pub returns-in-Err-init-clause-refused : goal.returns-in-Err-init-clause-refused
returns-in-Err-init-clause-refused g c = denies_core c.self.invariant.0 c.self.view_is c.in_default.ensures.fits c.in-Err-init.ensures.refused

pub returns-in-Err-shared_sig-clause-refused : goal.returns-in-Err-shared_sig-clause-refused
returns-in-Err-shared_sig-clause-refused g c = denies_memory c.self.invariant.0 c.self.view_is c.in_default.ensures.fits c.in-Err-shared_sig.ensures.refused
