use Rattle.std.proofs.Common.{rules, tests, [], ◌∷◌, length, ap, ◌∙◌, arith}
use Rattle.std.proofs.lemmas.List.{length-append}
use Rattle.std.proofs.lemmas.Iterator.Consumers.{YieldsList-at}
use Rattle.std.proofs.lemmas.Iterator.Splits.{YieldsList-from_slice_split}
use Rattle.coll_parser.specs.Cutting.{is_line_feed, body_of, lines_of}
use Rattle.coll_parser.specs.Histories.{History}
use Rattle.coll_parser.specs.Judging.{judged}
use Rattle.coll_parser.specs.Code.{history_of}
use Rattle.coll_parser.proofs.Sounds.{IsHistory-later}
use Rattle.coll_parser.proofs.JudgedLines.{turn_of, end_of, judged-more, judged-stops, judged-ends, length-lines_of}
use Rattle.coll_parser.proofs.history.History.read.Goals as goal

pub read_line-requires-clause-few : goal.read_line-requires-clause-few
read_line-requires-clause-few c =
    let turn = turn_of c.loop-bytes.yielded c.loop-bytes.bytes-iterator c.loop-bytes.yielded_by
    c.next.result c.next.new.self c.next.ensures.steps c.in-Some.bytes c.in-Some.is
    (YieldsList-at (search rules)
    (YieldsList-from_slice_split {s = c.split-bytes-items.result} _ is_line_feed (body_of c.args.text.now)
    (c.split-bytes-items.ensures.rest ∙ c.body.ensures) c.split-bytes-items.ensures.done c.split-bytes-items.ensures.closure
    (λ x b q k. search (rules, tests)))) in
    omega (arith, turn.0, length-lines_of c.args.text.now, c.requires, c.loop-bytes.invariant.number)

pub loop-bytes-init : goal.loop-bytes-init
loop-bytes-init c = record {
  so_far = ap (λ (h : History). judged 1 h (lines_of c.args.text.now)) c.new-reader.ensures.begun;
  number = omega arith;
  reader = c.new-reader.ensures.reader;
  stamped = c.new-reader.ensures.stamped;
}

pub returns-in-Err : goal.returns-in-Err
returns-in-Err c =
    let turn = turn_of c.loop-bytes.yielded c.loop-bytes.bytes-iterator c.loop-bytes.yielded_by
    c.next.result c.next.new.self c.next.ensures.steps c.in-Some.bytes c.in-Some.is
    (YieldsList-at (search rules)
    (YieldsList-from_slice_split {s = c.split-bytes-items.result} _ is_line_feed (body_of c.args.text.now)
    (c.split-bytes-items.ensures.rest ∙ c.body.ensures) c.split-bytes-items.ensures.done c.split-bytes-items.ensures.closure
    (λ x b q k. search (rules, tests)))) in
    rw c.in_line.ensures
    (judged-stops c.in-Err.fault c.loop-bytes.number (history_of c.loop-bytes.reader) (length c.loop-bytes.yielded)
    (lines_of c.args.text.now) _ _ turn.0 turn.1 c.in-Err.ensures.read c.loop-bytes.invariant.so_far)

pub loop-bytes-preserved : goal.loop-bytes-preserved
loop-bytes-preserved c =
    let turn = turn_of c.loop-bytes.yielded c.loop-bytes.bytes-iterator c.loop-bytes.yielded_by
    c.next.result c.next.new.self c.next.ensures.steps c.in-Some.bytes c.in-Some.is
    (YieldsList-at (search rules)
    (YieldsList-from_slice_split {s = c.split-bytes-items.result} _ is_line_feed (body_of c.args.text.now)
    (c.split-bytes-items.ensures.rest ∙ c.body.ensures) c.split-bytes-items.ensures.done c.split-bytes-items.ensures.closure
    (λ x b q k. search (rules, tests)))) in
    let more = length-append c.loop-bytes.yielded (c.in-Some.bytes ∷ []) in
    record {
      so_far = rw more (judged-more c.loop-bytes.number (history_of c.loop-bytes.reader) (history_of c.read_line.new.self)
          (length c.loop-bytes.yielded) (lines_of c.args.text.now) _ _ turn.0 turn.1 c.in-Ok.ensures.read c.loop-bytes.invariant.so_far);
      number = omega (arith, more, c.loop-bytes.invariant.number);
      reader = c.in-Ok.ensures.reader;
      stamped = c.in-Ok.ensures.stamped;
    }

pub overflow_add-number : goal.overflow_add-number
overflow_add-number c =
    let turn = turn_of c.loop-bytes.yielded c.loop-bytes.bytes-iterator c.loop-bytes.yielded_by
    c.next.result c.next.new.self c.next.ensures.steps c.in-Some.bytes c.in-Some.is
    (YieldsList-at (search rules)
    (YieldsList-from_slice_split {s = c.split-bytes-items.result} _ is_line_feed (body_of c.args.text.now)
    (c.split-bytes-items.ensures.rest ∙ c.body.ensures) c.split-bytes-items.ensures.done c.split-bytes-items.ensures.closure
    (λ x b q k. search (rules, tests)))) in
    omega (arith, turn.0, length-lines_of c.args.text.now, c.requires, c.loop-bytes.invariant.number)

pub returns : goal.returns
returns c =
    let end = end_of c.loop-bytes.yielded c.loop-bytes.bytes-iterator c.loop-bytes.yielded_by
    c.next.result c.next.new.self c.next.ensures.steps c.in-None.is
    (YieldsList-at (search rules)
    (YieldsList-from_slice_split {s = c.split-bytes-items.result} _ is_line_feed (body_of c.args.text.now)
    (c.split-bytes-items.ensures.rest ∙ c.body.ensures) c.split-bytes-items.ensures.done c.split-bytes-items.ensures.closure
    (λ x b q k. search (rules, tests)))) in
    judged-ends c.loop-bytes.number (history_of c.loop-bytes.reader) (length c.loop-bytes.yielded)
    (lines_of c.args.text.now) _ (omega (arith, end)) c.loop-bytes.invariant.so_far

pub invariant_of-result : goal.invariant_of-result
invariant_of-result c =
    let end = end_of c.loop-bytes.yielded c.loop-bytes.bytes-iterator c.loop-bytes.yielded_by
    c.next.result c.next.new.self c.next.ensures.steps c.in-None.is
    (YieldsList-at (search rules)
    (YieldsList-from_slice_split {s = c.split-bytes-items.result} _ is_line_feed (body_of c.args.text.now)
    (c.split-bytes-items.ensures.rest ∙ c.body.ensures) c.split-bytes-items.ensures.done c.split-bytes-items.ensures.closure
    (λ x b q k. search (rules, tests)))) in
    IsHistory-later c.loop-bytes.number 1048578 (history_of c.loop-bytes.reader)
    (omega (arith, end, length-lines_of c.args.text.now, c.requires, c.loop-bytes.invariant.number)) c.loop-bytes.invariant.reader.history
