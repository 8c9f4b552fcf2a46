use Rattle.coll_traced.proofs.Keepers.{traced_in, kept, freed_reserved, freed_traced}
use Rattle.coll_traced.proofs.traced_core.TracedCore.free.Goals as goal

pub end-requires : goal.end-requires
end-requires g c =
    let s = c.self.inside in
    freed_reserved s.core c.free.new.self s.trace.entries s.trace.reserved s.config.trace c.args.rank c.args.ticket
    (traced_in c.self.invariant.0) c.in_default.ensures.frees

pub invariant_of-self-2 : goal.invariant_of-self-2
invariant_of-self-2 g c =
    let s = c.self.inside in (
      kept s.config s.core _ _ _ _ _ c.self.invariant.0 c.in_default.ensures.setting (
          freed_traced s.core c.free.new.self s.trace.entries c.end.new.self.entries s.trace.reserved c.end.new.self.reserved
          s.config.trace c.args.rank c.args.ticket (traced_in c.self.invariant.0) c.in_default.ensures.setting c.in_default.ensures.frees
          c.end.ensures.entries c.end.ensures.reserved
          ),
      c.self.invariant.1,
    )
