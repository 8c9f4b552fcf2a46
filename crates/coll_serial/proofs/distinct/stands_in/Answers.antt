use Rattle.std.proofs.Common.{sym, arith, ◌∙◌}
use Rattle.std.proofs.lemmas.Bool.{false≢true}
use Rattle.std.proofs.lemmas.List.{length-map}
use Rattle.std.proofs.lemmas.Option.{slice_get_within}
use Rattle.coll_serial.specs.Parts.{ticket_of, tickets_of}
use Rattle.coll_serial.proofs.Finding.{none_more}
use Rattle.coll_serial.proofs.distinct.stands_in.Goals as goal

pub loop-part-preserved : goal.loop-part-preserved
loop-part-preserved c =
    none_more c.args.parts.now c.loop-part.part-index _ c.args.ticket c.loop-part.invariant c.loop-part-test.true
    (λ e. false≢true (sym c.if-names.false ∙ c.names.ensures.1 e))

pub returns : goal.returns
returns c = (
  λ yes. absurd (false≢true yes),
  λ found.
      let low = slice_get_within (tickets_of c.args.parts.now) found.0 _ found.1 in
      let e = length-map c.args.parts.now ticket_of in
      absurd (c.loop-part.invariant found.0 (omega (arith, low, e)) found.1),
)
