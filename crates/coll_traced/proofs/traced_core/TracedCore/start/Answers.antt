use Rattle.coll_machine.specs.Common.{Start, Started}
use Rattle.std.proofs.Common.{ℕ, List, ◌-◌, ◌+◌, ◌<◌, ◌≤◌, ◌^◌, length, subst, sym, ap, ◌∙◌, arith}
use Rattle.coll_core.specs.Cores.{seen, setting}
use Rattle.coll_traced.specs.Traced.{Denies}
use Rattle.coll_traced.proofs.Keepers.{denies_room, denies_memory, denies_core, traced_in, kept, started_there, started_once, started_traced, started_entry}
use Rattle.coll_traced.proofs.traced_core.TracedCore.start.Goals as goal

pub live-start-requires : goal.live-start-requires
live-start-requires g c =
    started_there (setting c.self.inside.core) (seen c.self.inside.core) (seen c.start.new.self) c.args.rank c.args.ticket
    c.shared.new.given c.in_default-start.ensures.starts

pub overflow_sub-start : goal.overflow_sub-start
overflow_sub-start g c =
    started_once (setting c.self.inside.core) (seen c.self.inside.core) (seen c.start.new.self) c.args.rank c.args.ticket
    c.shared.new.given c.live-start.result c.in_default-start.ensures.starts c.live-start.ensures

pub invariant_of-self-2 : goal.invariant_of-self-2
invariant_of-self-2 g c =
    let s = c.self.inside in
    let once : 1 ≤ c.live-start.result.starts =
    started_once (setting s.core) (seen s.core) (seen c.start.new.self) c.args.rank c.args.ticket c.shared.new.given
    c.live-start.result c.in_default-start.ensures.starts c.live-start.ensures in (
      kept s.config s.core _ _ _ _ _ c.self.invariant.0 c.in_default-start.ensures.setting (
          started_traced s.core c.start.new.self s.trace.entries c.begin.new.self.entries s.trace.reserved
          c.begin.new.self.reserved s.config.trace c.args.rank c.args.ticket c.shared.new.given c.live-start.result _ (traced_in c.self.invariant.0)
          c.in_default-start.ensures.setting c.in_default-start.ensures.starts c.live-start.ensures (omega arith) c.in_default.ensures.fits
          (started_entry _ _ _ _ _ _ _ _ c.make_room.ensures.entries c.begin.ensures.entries
          (c.in-Ok.ensures.shared (subst (λ (xs : List ℕ). length xs < 2 ^ 32) c.in-Ok.ensures.same c.in_default-start.ensures.short)
          ∙ sym c.in-Ok.ensures.same)) (c.begin.ensures.reserved ∙ ap (λ n. n + 1) c.make_room.ensures.reserved)
          ),
      c.self.invariant.1,
    )

pub returns-clause-receipt : goal.returns-clause-receipt
returns-clause-receipt g c = (
  c.live-start.result.starts - 1,
  c.begin.ensures.receipt
      ∙ (λ z. Started c.args.rank c.args.ticket (c.live-start.result.starts - 1)
      (c.in-Ok.ensures.shared (subst (λ (xs : List ℕ). length xs < 2 ^ 32) c.in-Ok.ensures.same c.in_default-start.ensures.short) z)),
)

pub returns-in-Err-clause-refused : goal.returns-in-Err-clause-refused
returns-in-Err-clause-refused g c = denies_room c.self.invariant.0 c.self.view_is c.in-Err.ensures.refused

pub returns-in-Err-shared-clause-refused : goal.returns-in-Err-shared-clause-refused
returns-in-Err-shared-clause-refused g c = denies_memory c.self.invariant.0 c.self.view_is c.in_default.ensures.fits c.in-Err-shared.ensures.refused

pub returns-in-Err-start-clause-refused : goal.returns-in-Err-start-clause-refused
returns-in-Err-start-clause-refused g c =
    subst (λ (xs : List ℕ). Denies c.args.self.now (Start c.args.rank c.args.ticket xs) c.in-Err-start.refused.why) c.in-Ok.ensures.same
    (denies_core c.self.invariant.0 c.self.view_is c.in_default.ensures.fits c.in-Err-start.ensures.refused)
