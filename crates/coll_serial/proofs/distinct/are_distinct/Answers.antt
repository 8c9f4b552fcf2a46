use Rattle.std.proofs.Common.{◌≡◌, ◌+◌, ap, sym, Some, arith, refl, ◌∙◌}
use Rattle.std.specs.Prelude.{slice_get}
use Rattle.std.proofs.lemmas.Bool.{false≢true}
use Rattle.std.proofs.lemmas.List.{length-map}
use Rattle.coll_complete.proofs.Distincts.{apart-none, apart-some, distinct-apart}
use Rattle.coll_serial.specs.Parts.{ticket_of, tickets_of}
use Rattle.coll_serial.proofs.Finding.{not_distinct, rest_of, ticket_at}
use Rattle.coll_serial.proofs.distinct.are_distinct.Goals as goal
use Rattle.coll_serial.proofs.distinct.are_distinct.Goals.{in-Some+else-stands_in, in_default}

pub loop-position-preserved : goal.loop-position-preserved
loop-position-preserved c =
    let parts = c.args.parts.now in
    let list = tickets_of parts in
    let i = c.loop-position.position in
    let at : slice_get list i ≡ Some c.request.result = ticket_at parts i _ c.request.result c.loop-position-test.true c.request.ensures in
    elim c.match-ticket.branch [
      | in-Some+else-stands_in w ↦ apart-some list i w.in-Some.ticket c.loop-position.invariant
          (at ∙ ap Some (sym c.ticket.ensures ∙ w.in-Some.is))
          (λ found. false≢true (sym w.if-stands_in.false ∙ w.stands_in.ensures.1 (rest_of parts (i + 1) w.in-Some.ticket found)))
      | in_default w ↦ apart-none list i c.loop-position.invariant
          (at ∙ ap Some (sym c.ticket.ensures ∙ w.in_default.is))
    ]

pub returns-then-stands_in : goal.returns-then-stands_in
returns-then-stands_in c =
    let parts = c.args.parts.now in
    let i = c.loop-position.position in
    let at : slice_get (tickets_of parts) i ≡ Some c.request.result =
    ticket_at parts i _ c.request.result c.loop-position-test.true c.request.ensures in (
      λ yes. absurd (false≢true yes),
      λ distinct. absurd (not_distinct parts i c.in-Some.ticket (at ∙ ap Some (sym c.ticket.ensures ∙ c.in-Some.is))
          (c.stands_in.ensures.0 c.if-stands_in.true) distinct),
    )

pub returns : goal.returns
returns c =
    let e = length-map c.args.parts.now ticket_of in (
      λ yes. distinct-apart (tickets_of c.args.parts.now) c.loop-position.position (omega (arith, e)) c.loop-position.invariant,
      λ distinct. refl,
    )
