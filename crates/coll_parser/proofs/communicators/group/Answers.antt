use Rattle.std.proofs.Common.{◌≡◌, ℕ, ◌+◌, ◌<◌, false, true, List, [], ◌∷◌, ◌++◌, length, drop, Result, Ok, Err, refl, ap, sym, ◌∙◌, arith}
use Rattle.std.proofs.lemmas.List.{length-set, length-append}
use Rattle.std.proofs.lemmas.Result.{err_from_is_err_and}
use Rattle.coll_kinds.specs.Groups.{is_among}
use Rattle.coll_kinds.proofs.Members.{IsGroup-none, IsGroup-push}
use Rattle.coll_parser.specs.declared.cause.Cause.{Cause}
use Rattle.coll_parser.specs.declared.cause.Cause.TheVariants.{BadRank}
use Rattle.coll_parser.specs.Reading.{and_then, numbers_from, numbers}
use Rattle.coll_parser.specs.Lines.{rank_in}
use Rattle.coll_parser.proofs.Numbers.{numbers-some, numbers-more, numbers-stops, numbers-twice}
use Rattle.coll_parser.proofs.Marks.{AreMarks-none, AreMarks-push, AreMarks-few}
use Rattle.coll_parser.proofs.communicators.group.Goals as goal

-- the loop's fact, over the words as they lie in memory
behind : (n i : ℕ) (named : List ℕ) (words seen : List (List ℕ)) (total : Result (List ℕ) Cause) → seen ≡ words
    → numbers_from (rank_in n) BadRank named (drop i words) ≡ total → numbers_from (rank_in n) BadRank named (drop i seen) ≡ total
behind n i named words seen total e h = ap (λ (ws : List (List ℕ)). numbers_from (rank_in n) BadRank named (drop i ws)) e ∙ h

whole : (n : ℕ) (words : List (List ℕ)) (r : Result (List ℕ) Cause)
    → numbers (rank_in n) BadRank words ≡ and_then (numbers_from (rank_in n) BadRank [] words) (λ ns. Ok (ns, []))
    → numbers_from (rank_in n) BadRank [] words ≡ r → numbers (rank_in n) BadRank words ≡ and_then r (λ ns. Ok (ns, []))
whole n words r is e = is ∙ ap (λ (x : Result (List ℕ) Cause). and_then x (λ ns. Ok (ns, []))) e

pub loop-word-init : goal.loop-word-init
loop-word-init c = record {
  so_far = rw c.new-members.ensures.items refl;
  group = rw c.new-members.ensures.items (IsGroup-none c.args.n);
  places = refl;
  marks = rw c.new-members.ensures.items (AreMarks-none 64);
}

pub returns-in_err-rank-clause-read : goal.returns-in_err-rank-clause-read
returns-in_err-rank-clause-read c =
    let p = err_from_is_err_and c.from_residual.result c.from_residual.ensures.1 in
    let n = c.args.n in
    let some = numbers-some (rank_in n) BadRank c.args.words.now _ (sym c.is_empty.ensures ∙ c.if-is_empty.false) refl in
    let so_far =
    behind n c.loop-word.word-index c.loop-word.members.items c.args.words.now _ _ c.take_rest-word-items.ensures.rest c.loop-word.invariant.so_far in
    rw (p.1, p.2)
    (whole n c.args.words.now (Err c.in_err-rank.field-0.0) some
    (numbers-stops (rank_in n) BadRank c.loop-word.members.items c.take_rest-word-items.result.now c.loop-word.word-index _ _
    c.loop-word-test.true so_far c.in_err-rank.field-0.0 (sym c.in_err-rank.ensures.given)))

pub returns-then-is_member-rank-clause-read : goal.returns-then-is_member-rank-clause-read
returns-then-is_member-rank-clause-read c =
    let n = c.args.n in
    let some = numbers-some (rank_in n) BadRank c.args.words.now _ (sym c.is_empty.ensures ∙ c.if-is_empty.false) refl in
    let so_far =
    behind n c.loop-word.word-index c.loop-word.members.items c.args.words.now _ _ c.take_rest-word-items.ensures.rest c.loop-word.invariant.so_far in
    let twice : is_among c.in_ok-rank.rank c.loop-word.members.items ≡ true =
    sym (c.loop-word.invariant.marks.each c.in_ok-rank.rank) ∙ c.if-is_member-rank.true in
    whole n c.args.words.now (Err BadRank) some
    (numbers-twice (rank_in n) BadRank c.loop-word.members.items c.take_rest-word-items.result.now c.loop-word.word-index _ _
    c.loop-word-test.true so_far c.in_ok-rank.rank (sym c.in_ok-rank.ensures.given) twice)

pub loop-word-preserved : goal.loop-word-preserved
loop-word-preserved c =
    let n = c.args.n in
    let rank = c.in_ok-rank.rank in
    let so_far =
    behind n c.loop-word.word-index c.loop-word.members.items c.args.words.now _ _ c.take_rest-word-items.ensures.rest c.loop-word.invariant.so_far in
    let free : is_among rank c.loop-word.members.items ≡ false = sym (c.loop-word.invariant.marks.each rank) ∙ c.if-is_member-rank.false in
    let more = numbers-more (rank_in n) BadRank c.loop-word.members.items c.take_rest-word-items.result.now
    c.loop-word.word-index _ _ c.loop-word-test.true so_far rank (sym c.in_ok-rank.ensures.given) free in
    let within : rank < length c.loop-word.is_member = omega (arith, c.in_ok-rank.ensures.below, c.requires, c.loop-word.invariant.places) in
    let marks = AreMarks-push c.loop-word.is_member c.loop-word.members.items rank c.loop-word.invariant.marks within c.if-is_member-rank.false in
    let few = AreMarks-few _ _ marks in
    let places = length-set c.loop-word.is_member rank true in
    let grown = length-append c.loop-word.members.items (rank ∷ []) in
    let room : length c.loop-word.members.items < 64 = omega (arith, few, places, grown, c.loop-word.invariant.places) in
    record {
      so_far = rw c.in_ok-push.ensures.items
          (behind n (c.loop-word.word-index + 1) (c.loop-word.members.items ++ rank ∷ []) _ c.args.words.now _ (sym c.take_rest-word-items.ensures.rest) more);
      group = rw c.in_ok-push.ensures.items (IsGroup-push n c.loop-word.members.items rank c.loop-word.invariant.group c.in_ok-rank.ensures.below free room);
      places = places ∙ c.loop-word.invariant.places;
      marks = rw c.in_ok-push.ensures.items marks;
    }
