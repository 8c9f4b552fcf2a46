use Rattle.std.proofs.Common.{◌≡◌, ◌<◌, false, true, length, sym, ◌∙◌, arith}
use Rattle.std.proofs.lemmas.Bool.{eq-eqb, ne_eqb}
use Rattle.std.proofs.lemmas.List.{length-set}
use Rattle.std.proofs.lemmas.Result.{err_from_is_err_and}
use Rattle.coll_kinds.specs.Groups.{is_among}
use Rattle.coll_parser.specs.declared.cause.Cause.TheVariants.{NamedTwice}
use Rattle.coll_parser.specs.Lines.{request_in}
use Rattle.coll_parser.proofs.Numbers.{numbers-more, numbers-stops, numbers-twice, marks-push, below-push}
use Rattle.coll_parser.proofs.requests.several.Goals as goal

pub returns-in_err-q-clause-read : goal.returns-in_err-q-clause-read
returns-in_err-q-clause-read c =
    let p = err_from_is_err_and c.from_residual-in_err-q.result c.from_residual-in_err-q.ensures.1 in
    let count = length c.args.stamps.now in
    rw (p.1, p.2)
    (numbers-stops (request_in count) NamedTwice c.loop-word.named.items c.args.words.now c.loop-word.word-index _ _
    c.loop-word-test.true c.loop-word.invariant.so_far c.in_err-q.field-0.0 (sym c.in_err-q.ensures.given))

pub returns-then-stamps-q-clause-read : goal.returns-then-stamps-q-clause-read
returns-then-stamps-q-clause-read c =
    let count = length c.args.stamps.now in
    let within : c.in_ok-q.q < length c.loop-word.stamps = omega (arith, c.in_ok-q.ensures.known, c.loop-word.auto.stamps) in
    let named : is_among c.in_ok-q.q c.loop-word.named.items ≡ true = sym (c.loop-word.invariant.marks c.in_ok-q.q within) ∙ eq-eqb _ _ c.if-stamps-q.true in
    numbers-twice (request_in count) NamedTwice c.loop-word.named.items c.args.words.now c.loop-word.word-index _ _
    c.loop-word-test.true c.loop-word.invariant.so_far c.in_ok-q.q (sym c.in_ok-q.ensures.given) named

pub loop-word-preserved : goal.loop-word-preserved
loop-word-preserved c =
    let count = length c.args.stamps.now in
    let within : c.in_ok-q.q < length c.loop-word.stamps = omega (arith, c.in_ok-q.ensures.known, c.loop-word.auto.stamps) in
    let free : is_among c.in_ok-q.q c.loop-word.named.items ≡ false = sym (c.loop-word.invariant.marks c.in_ok-q.q within) ∙ ne_eqb _ _ c.if-stamps-q.false in
    record {
      so_far = rw c.in_ok-push.ensures.items
          (numbers-more (request_in count) NamedTwice c.loop-word.named.items c.args.words.now c.loop-word.word-index _ _
          c.loop-word-test.true c.loop-word.invariant.so_far c.in_ok-q.q (sym c.in_ok-q.ensures.given) free);
      marks = λ q lt. rw c.in_ok-push.ensures.items
          (marks-push c.args.line c.loop-word.stamps c.loop-word.named.items c.in_ok-q.q within c.loop-word.invariant.marks q
          (omega (arith, lt, length-set c.loop-word.stamps c.in_ok-q.q c.args.line)));
      below = λ q lt. below-push c.args.line c.loop-word.stamps c.in_ok-q.q within c.loop-word.invariant.below q
          (omega (arith, lt, length-set c.loop-word.stamps c.in_ok-q.q c.args.line));
    }
