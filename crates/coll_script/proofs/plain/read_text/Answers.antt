use Rattle.std.proofs.Common.{subst, sym, arith}
use Rattle.std.specs.Io.KnownBytes.{Consumes}
use Rattle.coll_script.proofs.Consuming.{Consumes-more, take-whole, take-front}
use Rattle.coll_script.proofs.plain.read_text.Goals as goal
use Rattle.coll_script.proofs.plain.read_text.Goals.{then-n-eq0-via-then-n-eq0, then-n-eq0-via-else-n-eq0+then-len-eq-READ_LIMIT}

pub overflow_sub-len : goal.overflow_sub-len
overflow_sub-len g c = omega (arith, c.loop.text.ok.0)

pub returns-then-n-eq0-clause-text : goal.returns-then-n-eq0-clause-text
returns-then-n-eq0-clause-text g c =
    let start = g.R.Read.remaining c.args.reader.now.reader.now in
    let end = g.R.Read.remaining c.read_piece.new.reader.reader.now in
    let text = c.read_piece.new.text.items in
    let parts = Consumes-more _ _ _ _ _ c.loop.invariant.consumed c.in_ok-n.ensures.consumed in
    let all : Consumes start end text = subst (Consumes start end) (sym c.in_ok-n.ensures.text) parts in
    elim c.then-n-eq0.branch [
      | then-n-eq0-via-then-n-eq0 w ↦
          take-whole start end text 1048577 all (c.in_ok-n.ensures.end w.if-n-eq0.true)
          (omega (arith, c.in_ok-n.ensures.bound, c.in_ok-n.ensures.len, c.len.ensures, c.loop.text.ok.0, c.read_piece.new.text.ok.0))
      | then-n-eq0-via-else-n-eq0+then-len-eq-READ_LIMIT w ↦
          take-front start end text 1048577 all (omega (arith, w.if-len-eq-READ_LIMIT.true, w.len-else-n-eq0.ensures, c.read_piece.new.text.ok.0))
    ]
