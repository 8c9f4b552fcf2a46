use Rattle.std.proofs.Common.{◌∙◌, Some, ap, sym}
use Rattle.coll_match.specs.Instances.{mail}
use Rattle.coll_core.proofs.step.Wake.{came}
use Rattle.coll_core.proofs.values.Options.{some_at}
use Rattle.coll_core.proofs.request.Request.can_receive.Goals as goal

pub returns-then-eq : goal.returns-then-eq
returns-then-eq c =
    let q = c.args.self.now in
    let s = c.args.sent in
    let r = c.in-Some-Recv in (
      (λ yes. record {
        of = r.of;
        into = r.field-0-1;
        next_is = sym c.next.ensures.is ∙ (r.is ∙ ap Some r.field-0-is);
        came = some_at (λ k m. mail c.args.matches.now k r.of m q.round) c.key.result _ c.member.result _ c.key.ensures c.member.ensures.member
            (came c.args.matches.now c.key.result s.key r.of s.from c.member.result s.to q.round s.round (sym c.eq.ensures ∙ c.if-eq.true) c.requires);
      }),
      (λ can_receive. c.if-eq.true),
    )
