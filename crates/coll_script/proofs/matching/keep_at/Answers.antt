use Rattle.std.proofs.Common.{◌≡◌, ◌<◌, length, refl, ltb, true, false, sym, subst, arith}
use Rattle.std.proofs.lemmas.Bool.Decides.{nat_tests}
use Rattle.std.proofs.lemmas.Option.{slice_get_read}
use Rattle.coll_script.specs.Keeping.{IsKept}
use Rattle.coll_script.proofs.Matched.{IsKept-push, IsKept-set, IsKept-stays, below}
use Rattle.coll_script.proofs.matching.keep_at.Goals as goal

pub returns-in_ok-push : goal.returns-in_ok-push
returns-in_ok-push c =
    subst (IsKept c.args.place c.args.first c.args.firsts.now.items) (sym c.in_ok-push.ensures.items)
    (IsKept-push c.args.place c.args.first c.args.firsts.now.items (omega (arith, c.if-place-len.true, c.len.ensures, c.args.firsts.now.ok)))

pub returns-then-first-index : goal.returns-then-first-index
returns-then-first-index c =
    let firsts = c.args.firsts.now.items in
    let lt : c.args.place < length firsts =
    below c.args.place c.len.result (length firsts) (omega (arith, c.len.ensures, c.args.firsts.now.ok)) c.requires c.if-place-len.false in
    let less : ltb c.args.first.line c.index.result.now.line ≡ true = grind (arith, nat_tests) in
    IsKept-set c.args.place c.args.first c.index.result.now firsts
    (slice_get_read firsts (length firsts) c.args.place c.index.result.now refl lt c.index.ensures) lt less

pub returns-else-first-index : goal.returns-else-first-index
returns-else-first-index c =
    let firsts = c.args.firsts.now.items in
    let lt : c.args.place < length firsts =
    below c.args.place c.len.result (length firsts) (omega (arith, c.len.ensures, c.args.firsts.now.ok)) c.requires c.if-place-len.false in
    let less : ltb c.args.first.line c.index.result.now.line ≡ false = grind (arith, nat_tests) in
    IsKept-stays c.args.place c.args.first c.index.result.now firsts
    (slice_get_read firsts (length firsts) c.args.place c.index.result.now refl lt c.index.ensures) lt less
