use Rattle.std.proofs.Common.{ap, subst, sym, ◌∙◌}
use Rattle.coll_core.specs.declared.offer.Offer.{Offer}
use Rattle.coll_core.specs.Posts.{post_of}
use Rattle.coll_traced.specs.Traced.{Denies}
use Rattle.coll_traced.proofs.Places.{last_posted}
use Rattle.coll_traced.proofs.post_operation.PostOperation.make.Goals as goal

pub last-requires : goal.last-requires
last-requires g c =
    let e = c.in-Ok.ensures in
    let same = c.of-prepared.ensures.same in
    last_posted _ _ _ _ _ _ _ _ _ _ _ _ e.entry e.receipt.1 c.last_place-place.ensures
    (c.args.self.signed ∙ ap (λ (o : Offer). o.plan.sig) (sym same)) (c.args.self.shared ∙ ap (λ (o : Offer). o.bytes) (sym same))

pub returns-in-Err-clause-refused : goal.returns-in-Err-clause-refused
returns-in-Err-clause-refused g c =
    λ _. (
      c.in-Err.field-0.why,
      record {
        at = c.audit.new.self;
        setting_is = c.audit.ensures.setting;
        moment = c.audit.ensures.moment;
        denies =
            subst (λ (o : Offer). Denies c.audit.new.self (post_of c.args.rank c.args.self.comm o) c.in-Err.field-0.why)
            c.of-prepared.ensures.same c.in-Err.ensures.refused;
      },
    )
