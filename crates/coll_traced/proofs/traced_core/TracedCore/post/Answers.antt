use Rattle.coll_machine.specs.Entries.{Posted}
use Rattle.std.proofs.Common.{◌+◌, ◌<◌, length, sym, ap, ◌∙◌}
use Rattle.coll_core.specs.Cores.{seen, setting}
use Rattle.coll_core.specs.Posts.{planned}
use Rattle.coll_traced.proofs.Keepers.{denies_room, denies_memory, denies_core, traced_in, kept, posted_there, posted_traced, posted_entry, keeps_for}
use Rattle.coll_traced.proofs.Keepers.{kept_refused}
use Rattle.coll_traced.proofs.traced_core.TracedCore.post.Goals as goal

pub live-place-requires : goal.live-place-requires
live-place-requires g c =
    posted_there (setting c.self.inside.core) (seen c.self.inside.core) (seen c.post_laid.new.self) c.args.rank c.args.comm
    (planned c.args.offer.plan) c.args.offer.bytes c.in-Ok-post_laid.ticket c.in-Ok-post_laid.ensures.posted

pub invariant_of-self-2 : goal.invariant_of-self-2
invariant_of-self-2 g c =
    let s = c.self.inside in
    let keeps = keeps_for c.args.prepared c.args.offer c.in-Ok.prepared c.requires.prepared c.in-Ok.is in (
      kept s.config s.core _ _ _ _ _ c.self.invariant.0 c.in-Ok-post_laid.ensures.setting (
          posted_traced s.core c.post_laid.new.self s.trace.entries c.begin-receipt.new.self.entries s.trace.reserved
          c.begin-receipt.new.self.reserved s.config.trace c.args.rank c.args.comm (planned c.args.offer.plan)
          c.args.offer.bytes c.in-Ok-post_laid.ticket c.live-place.result (traced_in c.self.invariant.0) c.in-Ok-post_laid.ensures.setting
          c.in-Ok-post_laid.ensures.posted c.live-place.ensures c.in_default.ensures.fits
          (posted_entry _ _ _ _ _ _ _ _ _ _ _ c.make_room.ensures.entries c.begin-receipt.ensures.entries
          c.in-Ok-shared_sig.ensures.same (keeps.shared c.in-Ok-post_laid.ensures.short))
          (c.begin-receipt.ensures.reserved ∙ ap (λ n. n + 1) c.make_room.ensures.reserved)
          ),
      c.self.invariant.1,
    )

pub returns-clause-receipt : goal.returns-clause-receipt
returns-clause-receipt g c =
    let keeps = keeps_for c.args.prepared c.args.offer c.in-Ok.prepared c.requires.prepared c.in-Ok.is in (
      c.live-place.result.place,
      c.begin-receipt.ensures.receipt
          ∙ (λ z. Posted c.args.rank c.in-Ok-post_laid.ticket c.args.comm c.live-place.result.place
          (c.in-Ok-shared_sig.ensures.same z) (keeps.shared c.in-Ok-post_laid.ensures.short z)),
    )

pub returns-in-Err-clause-refused : goal.returns-in-Err-clause-refused
returns-in-Err-clause-refused g c = denies_room c.self.invariant.0 c.self.view_is c.in-Err.ensures.refused

pub returns-in-Err-prepared-clause-refused : goal.returns-in-Err-prepared-clause-refused
returns-in-Err-prepared-clause-refused g c =
    denies_memory c.self.invariant.0 c.self.view_is c.in_default.ensures.fits
    (kept_refused c.args.prepared c.in-Err-prepared.why c.requires.refused c.in-Err-prepared.is)

pub returns-in-Err-post_laid-clause-refused : goal.returns-in-Err-post_laid-clause-refused
returns-in-Err-post_laid-clause-refused g c = denies_core c.self.invariant.0 c.self.view_is c.in_default.ensures.fits c.in-Err-post_laid.ensures.refused

pub post_laid-requires-clause-laid : goal.post_laid-requires-clause-laid
post_laid-requires-clause-laid g c = (keeps_for c.args.prepared c.args.offer c.in-Ok.prepared c.requires.prepared c.in-Ok.is).laid_in

pub returns-in-Err-shared_sig-clause-refused : goal.returns-in-Err-shared_sig-clause-refused
returns-in-Err-shared_sig-clause-refused g c = denies_memory c.self.invariant.0 c.self.view_is c.in_default.ensures.fits c.in-Err-shared_sig.ensures.refused
