use Rattle.std.proofs.Common.{ℕ, List, Bor, rules, arith}
use Rattle.std.proofs.lemmas.List.{length-map}
use Rattle.coll_parser.specs.Code.{texts}
use Rattle.coll_parser.proofs.Valued.{is_value, with_front-more, with_front-stops, with_front-none, with_front-all}
use Rattle.coll_parser.proofs.values.bytes.Goals as goal

pub loop-word-init : goal.loop-word-init
loop-word-init c = rw c.in_ok-bytes.ensures.items (with_front-none _)

pub loop-word-preserved : goal.loop-word-preserved
loop-word-preserved c =
    let value = is_value c.args.ty _ c.in-Some.element c.read_element.result c.read_element.ensures c.in-Some.is in
    rw (c.in_ok-extend_from_slice.ensures.items, c.width-width.ensures)
    (with_front-more c.loop-word.bytes.items c.args.ty c.args.words.now c.loop-word.word-index _ c.in-Some.element _
    c.loop-word-test.true value c.loop-word.invariant)

pub returns-in_default : goal.returns-in_default
returns-in_default c =
    with_front-stops c.loop-word.bytes.items c.args.ty c.args.words.now c.loop-word.word-index _ c.read_element.result _
    c.loop-word-test.true c.read_element.ensures (search rules) c.loop-word.invariant

pub returns : goal.returns
returns c = with_front-all c.loop-word.bytes.items c.args.ty (texts c.args.words.now) c.loop-word.word-index _
    (omega (arith, c.loop-word-test.false, length-map c.args.words.now (λ (word : Bor (List ℕ)). word.now))) c.loop-word.invariant
