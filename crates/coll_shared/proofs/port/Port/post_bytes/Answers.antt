use Rattle.std.proofs.Common.{inl, inr, refl, subst}
use Rattle.coll_core.specs.Posts.{post_of}
use Rattle.coll_traced.specs.Denials.{IsDenied}
use Rattle.coll_shared.specs.Ports.{Holding}
use Rattle.coll_shared.proofs.Planning.{unplanned}
use Rattle.coll_shared.proofs.port.Port.post_bytes.Goals as goal

pub returns-in-Err-clause-refused : goal.returns-in-Err-clause-refused
returns-in-Err-clause-refused g c =
    inl (unplanned c.args.self.now c.args.comm c.args.sig.now c.ready_plan.result c.in-Err.why c.in-Err.is c.ready_plan.ensures.unseated
    c.ready_plan.ensures.refused)

pub returns-in-Err-post-clause-refused : goal.returns-in-Err-post-clause-refused
returns-in-Err-post-clause-refused g c =
    inr
    (record {
      offer = record { plan = c.in-Ok.plan; bytes = c.args.bytes };
      sig_is = c.in-Ok.ensures.sig;
      n_is = c.in-Ok.ensures.n;
      member_is = c.in-Ok.ensures.member;
      bytes_are = refl;
      denied = subst (λ (p : Holding). IsDenied g.L.Entries.setting p.made
          (post_of p.rank c.args.comm (record { plan = c.in-Ok.plan; bytes = c.args.bytes })) c.in-Err-post.refused.why)
          c.ready_plan.ensures.same c.in-Err-post.ensures.refused;
    })
