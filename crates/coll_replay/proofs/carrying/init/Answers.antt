use Rattle.std.proofs.Common.{◌≡◌, Option, ap, subst, ◌∙◌}
use Rattle.std.specs.Prelude.{IfSome, Vec}
use Rattle.std.specs.Global.{Global}
use Rattle.coll_kinds.specs.declared.ticket.Ticket.{Ticket}
use Rattle.coll_plans.specs.Plans.{Planned}
use Rattle.coll_replay.specs.Playing.{holding}
use Rattle.coll_replay.proofs.CarriedOut.{made}
use Rattle.coll_replay.proofs.Holdings.{holding_push}
use Rattle.coll_replay.proofs.carrying.init.Goals as goal
use Rattle.coll_replay.proofs.carrying.init.Goals.{in-Ok+in_ok-push-in-Ok, in-Err}

pub returns : goal.returns
returns c =
    let signed = subst (λ (o : Option Planned). IfSome o (λ plan. plan.sig ≡ c.args.sig.now)) c.in-Some.is c.in_ok-plan.ensures in
    elim c.match-init.branch [
      | in-Ok+in_ok-push-in-Ok w ↦ rw w.result-is (λ yes.
          made c.args.core.now c.init.new.self c.args.rank c.init.ensures.setting c.args.comm c.from.result c.args.sig.now c.in-Some.plan w.in-Ok.ticket
          (holding c.args.held.now.items) (holding c.match-init.held.items) c.from.ensures signed
          (ap (λ (v : Vec (Option Ticket) Global). holding v.items) w.held-is
          ∙ (ap holding w.in_ok-push-in-Ok.ensures.items ∙ holding_push c.args.held.now.items w.in-Ok.ticket))
          w.in-Ok.ensures.made)
      | in-Err w ↦ rw w.result-is (λ no. absurd cc)
    ]
