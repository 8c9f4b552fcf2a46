use Rattle.std.proofs.Common.{◌∙◌}
use Rattle.coll_traced.proofs.Keepers.{traced_in, kept, retired_reserved, retired_traced, retired_entry}
use Rattle.coll_traced.proofs.traced_core.TracedCore.retire.Goals as goal

pub end-receipt-requires : goal.end-receipt-requires
end-receipt-requires g c =
    let s = c.self.inside in
    let step = rw c.in-Ok-Some.field-0-is at c.in-Ok-Some.ensures.completes in
    retired_reserved s.core c.retire_shared.new.self s.trace.entries s.trace.reserved s.config.trace c.args.rank c.args.ticket
    c.in-Ok-Some.completed.0 (traced_in c.self.invariant.0) step

pub invariant_of-self-2 : goal.invariant_of-self-2
invariant_of-self-2 g c =
    let s = c.self.inside in
    let step = rw c.in-Ok-Some.field-0-is at c.in-Ok-Some.ensures.completes in
    let same = rw c.in-Ok-Some.field-0-is at c.in-Ok-Some.ensures.same in (
      kept s.config s.core _ _ _ _ _ c.self.invariant.0 c.in-Ok-Some.ensures.setting (
          retired_traced s.core c.retire_shared.new.self s.trace.entries c.end-receipt.new.self.entries s.trace.reserved
          c.end-receipt.new.self.reserved s.config.trace c.args.rank c.args.ticket c.in-Ok-Some.completed.0
          (traced_in c.self.invariant.0) c.in-Ok-Some.ensures.setting step
          (retired_entry _ _ _ _ _ _ _ _ _ c.end-receipt.ensures.entries (c.outcome-bytes.ensures ∙ same)) c.end-receipt.ensures.reserved
          ),
      c.self.invariant.1,
    )
