use Rattle.std.proofs.Common.{ap, sym, Some, arith, refl, ◌∙◌}
use Rattle.std.proofs.lemmas.Bool.{false≢true}
use Rattle.std.proofs.lemmas.Option.{slice_get_read}
use Rattle.coll_complete.proofs.Distincts.{apart-none, apart-some, distinct-apart}
use Rattle.coll_complete.proofs.distinct.are_distinct.Goals as goal
use Rattle.coll_complete.proofs.distinct.are_distinct.Goals.{in-Some+else-stands_in, in_default}

pub loop-position-preserved : goal.loop-position-preserved
loop-position-preserved c =
    let list = c.args.requests.now in
    let i = c.loop-position.position in
    let at = slice_get_read list _ i c.index-requests-position.result refl c.loop-position-test.true
    c.index-requests-position.is in
    elim c.match-ticket.branch [
      | in-Some+else-stands_in w ↦ apart-some list i w.in-Some.ticket c.loop-position.invariant
          (at ∙ ap Some (sym c.ticket.ensures ∙ w.in-Some.is))
          (λ found. false≢true (sym w.if-stands_in.false ∙ w.stands_in.ensures.1 found))
      | in_default w ↦ apart-none list i c.loop-position.invariant
          (at ∙ ap Some (sym c.ticket.ensures ∙ w.in_default.is))
    ]

pub returns : goal.returns
returns c = (
  λ yes. distinct-apart c.args.requests.now c.loop-position.position (omega arith)
      c.loop-position.invariant,
  λ distinct. refl,
)
