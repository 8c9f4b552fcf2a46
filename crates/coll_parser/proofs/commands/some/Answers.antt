use Rattle.std.proofs.Common.{◌≡◌, ℕ, ◌+◌, ◌<◌, ◌≤◌, List, length, Result, Ok, Err, OnOk, refl, ap, sym, subst, ◌∙◌, arith}
use Rattle.std.specs.Prelude.{slice_index}
use Rattle.std.proofs.lemmas.List.{with_items_is}
use Rattle.coll_parser.specs.declared.cause.Cause.TheVariants.{NamedTwice}
use Rattle.coll_parser.specs.Reading.{numbers}
use Rattle.coll_parser.specs.Lines.{request_in, made}
use Rattle.coll_parser.specs.Code.{history_of, ReadsSo, AreStamps}
use Rattle.coll_parser.proofs.Readers.{count, section-kept, length-entries, stamps-resized, stamps-at, IsStamped-set}
use Rattle.coll_parser.proofs.commands.some.Goals as goal

if_ok : {A E X : Type 0} (r : Result A E) → X → OnOk r X
if_ok (Ok value) x = x
if_ok (Err fault) x = tt

pub requests-requires-clause-few : goal.requests-requires-clause-few
requests-requires-clause-few c =
    let kept = section-kept c.args.number c.args.rank c.args.reader.now c.index.result.now c.requires.reader c.requires.rank c.index.ensures in
    omega (arith, ap length c.deref_mut.ensures.value, c.in_ok-resize.ensures.len, c.len-count.ensures, kept.1)

pub requests-requires-clause-earlier : goal.requests-requires-clause-earlier
requests-requires-clause-earlier c = λ q lt.
    let are = stamps-at c.args.number c.args.rank c.args.reader.now c.index_mut-stamps.result.now c.requires.stamped
    c.requires.rank c.index_mut-stamps.ensures.value in
    let some : 0 < c.args.number = omega (arith, c.requires.reader.history.few_commands) in
    stamps-resized c.args.number c.len-count.result _ c.index_mut-stamps.result.now.items c.deref_mut.result.now some
    (c.deref_mut.ensures.value ∙ c.in_ok-resize.ensures.items) are.1 q lt

pub returns-clause-read : goal.returns-clause-read
returns-clause-read c =
    let kept = section-kept c.args.number c.args.rank c.args.reader.now c.index.result.now c.requires.reader c.requires.rank c.index.ensures in
    let count : length c.deref_mut.result.now ≡ length (made (history_of c.args.reader.now) c.args.rank) =
    omega (
      arith,
      ap length c.deref_mut.ensures.value,
      c.in_ok-resize.ensures.len,
      c.len-count.ensures,
      length-entries c.args.number c.args.rank c.args.reader.now.commands.items c.index.result.now kept.0,
    ) in
    subst (λ n. ReadsSo (λ (qs : List ℕ). qs) c.requests.result c.requests.new.words (numbers (request_in n) NamedTwice c.args.words.now))
    count c.requests.ensures.read

pub returns-clause-stamped : goal.returns-clause-stamped
returns-clause-stamped c =
    let kept = section-kept c.args.number c.args.rank c.args.reader.now c.index.result.now c.requires.reader c.requires.rank c.index.ensures in
    let long : length c.requests.new.stamps ≡ length c.deref_mut.result.now = omega (arith, c.requests.auto.stamps) in
    let same : length c.requests.new.stamps ≡ c.resize.new.self.len = omega (arith, long, c.deref_mut.ensures.len) in
    let items = with_items_is c.resize.new.self c.requests.new.stamps same in
    let few : length c.requests.new.stamps ≤ count c.args.rank c.args.reader.now.commands.items =
    omega (
      arith,
      long,
      ap length c.deref_mut.ensures.value,
      c.in_ok-resize.ensures.len,
      c.len-count.ensures,
      length-entries c.args.number c.args.rank c.args.reader.now.commands.items c.index.result.now kept.0,
    ) in
    let below : (q : ℕ) → q < length c.requests.new.stamps
    → slice_index c.requests.new.stamps q < c.args.number + 1 =
    λ q lt. (let le = c.requests.ensures.stamps q (omega (arith, lt, long)) in omega (arith, le)) in
    if_ok c.requests.result
    (IsStamped-set c.args.number c.args.rank c.args.reader.now _ _ c.requires.stamped refl refl refl
    (subst (AreStamps (c.args.number + 1) (count c.args.rank c.args.reader.now.commands.items)) (sym items) (few, below)))
