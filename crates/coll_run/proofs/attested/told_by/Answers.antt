use Rattle.std.proofs.Common.{◌≡◌, ◌≤◌, ◌<◌, ◌++◌, [], List, Vec, length, map, ap, subst, sym, ◌∙◌, arith}
use Rattle.std.specs.Global.{Global}
use Rattle.std.specs.List.{AllByRecursion}
use Rattle.std.proofs.lemmas.List.{length-map}
use Rattle.std.proofs.lemmas.Result.{err_from_is_err_and}
use Rattle.coll_parser.specs.declared.request.Request as rust
use Rattle.coll_parser.specs.Histories.{History}
use Rattle.coll_parser.specs.Requests.{Request, requests}
use Rattle.coll_parser.specs.Sound.{IsSound}
use Rattle.coll_parser.specs.Code.{request_view, requests_view}
use Rattle.coll_script.specs.Postings.{requests_of}
use Rattle.coll_script.specs.Jobs.{job_of}
use Rattle.coll_machine.specs.Entries.{Entry}
use Rattle.coll_run.specs.Index.{IsFew, handed_in}
use Rattle.coll_run.specs.Lines.{Handed, told, told_lines, told_rank, told_behind}
use Rattle.coll_run.specs.Missing.{Lacks}
use Rattle.coll_script.proofs.Loops.{flat_map_range-done, flat_map_range-more}
use Rattle.coll_script.proofs.Sections.{length-requests}
use Rattle.coll_run.proofs.Asking.{each_few, few_requests, length-view, section-view}
use Rattle.coll_run.proofs.attested.told_by.Goals as goal

pub overflow_cast-rank : goal.overflow_cast-rank
overflow_cast-rank c =
    let h = c.args.script.now in
    let view : requests_view c.deref-requests-items.result.now ≡ requests h =
    ap (λ (rs : List (Vec rust.Request Global)). requests_view rs) c.deref-requests-items.ensures.value
    ∙ c.in_ok-ranks.ensures.view ∙ ap (λ (g : History). requests g) c.history.ensures in
    let sound : IsSound h = subst IsSound c.history.ensures c.in_ok-ranks.ensures.sound in
    let count = length-view h c.deref-requests-items.result.now view in
    let ranks = length-requests h in
    let few = sound.few_ranks in
    omega (arith, few, ranks, count, c.loop-rank-test.true)

pub print_rank-requires-clause-few : goal.print_rank-requires-clause-few
print_rank-requires-clause-few c =
    let h = c.args.script.now in
    let view : requests_view c.deref-requests-items.result.now ≡ requests h =
    ap (λ (rs : List (Vec rust.Request Global)). requests_view rs) c.deref-requests-items.ensures.value
    ∙ c.in_ok-ranks.ensures.view ∙ ap (λ (g : History). requests g) c.history.ensures in
    let sound : IsSound h = subst IsSound c.history.ensures c.in_ok-ranks.ensures.sound in
    let section : map request_view c.deref.result.now ≡ requests_of (requests h) c.loop-rank.rank =
    ap (map request_view) c.deref.ensures.value
    ∙ section-view h c.deref-requests-items.result.now c.loop-rank.rank c.requests-item.result c.loop-rank-test.true
    c.requests-item.is view in
    let few = few_requests h sound c.loop-rank.rank in
    let same : length (map request_view c.deref.result.now) ≡ length (requests_of (requests h) c.loop-rank.rank) =
    ap length section in
    let len : length (map request_view c.deref.result.now) ≡ length c.deref.result.now =
    length-map c.deref.result.now _ in
    omega (arith, few, same, len)

pub print_rank-requires-clause-each : goal.print_rank-requires-clause-each
print_rank-requires-clause-each c =
    let h = c.args.script.now in
    let view : requests_view c.deref-requests-items.result.now ≡ requests h =
    ap (λ (rs : List (Vec rust.Request Global)). requests_view rs) c.deref-requests-items.ensures.value
    ∙ c.in_ok-ranks.ensures.view ∙ ap (λ (g : History). requests g) c.history.ensures in
    let sound : IsSound h = subst IsSound c.history.ensures c.in_ok-ranks.ensures.sound in
    let section : map request_view c.deref.result.now ≡ requests_of (requests h) c.loop-rank.rank =
    ap (map request_view) c.deref.ensures.value
    ∙ section-view h c.deref-requests-items.result.now c.loop-rank.rank c.requests-item.result c.loop-rank-test.true
    c.requests-item.is view in
    subst (AllByRecursion IsFew) (sym section) (each_few h sound c.loop-rank.rank)

pub loop-rank-preserved : goal.loop-rank-preserved
loop-rank-preserved c =
    let h = c.args.script.now in
    let view : requests_view c.deref-requests-items.result.now ≡ requests h =
    ap (λ (rs : List (Vec rust.Request Global)). requests_view rs) c.deref-requests-items.ensures.value
    ∙ c.in_ok-ranks.ensures.view ∙ ap (λ (g : History). requests g) c.history.ensures in
    let section : map request_view c.deref.result.now ≡ requests_of (requests h) c.loop-rank.rank =
    ap (map request_view) c.deref.ensures.value
    ∙ section-view h c.deref-requests-items.result.now c.loop-rank.rank c.requests-item.result c.loop-rank-test.true
    c.requests-item.is view in
    let count = length-view h c.deref-requests-items.result.now view in
    let handed = handed_in c.in_ok-index.index.entries in
    let lt : c.loop-rank.rank < length (requests h) = omega (arith, count, c.loop-rank-test.true) in
    let printed : c.print_rank.new.out.items ≡ c.loop-rank.out.items ++ told_rank handed (job_of h) c.loop-rank.rank =
    c.in_ok-print_rank.ensures.ok
    ∙ ap (λ (rs : List Request). c.loop-rank.out.items ++ told_behind handed c.loop-rank.rank [] rs) section in
    rw printed (flat_map_range-more (told_rank handed (job_of h))
    (length (requests h)) c.loop-rank.rank c.loop-rank.out.items _ lt c.loop-rank.invariant)

pub returns-clause-told : goal.returns-clause-told
returns-clause-told c =
    let h = c.args.script.now in
    let view : requests_view c.deref-requests-items.result.now ≡ requests h =
    ap (λ (rs : List (Vec rust.Request Global)). requests_view rs) c.deref-requests-items.ensures.value
    ∙ c.in_ok-ranks.ensures.view ∙ ap (λ (g : History). requests g) c.history.ensures in
    let count = length-view h c.deref-requests-items.result.now view in
    let handed = handed_in c.in_ok-index.index.entries in
    let past : length (requests h) ≤ c.loop-rank.rank = omega (arith, count, c.loop-rank-test.false) in
    let same : ◌≡◌ {A = Handed} handed (told c.args.report.now.entries) =
    (λ z rank comm place start. c.in_ok-index.ensures rank comm place start z)
    ∙ ap (λ (es : List Entry). told es) c.entries.ensures in
    flat_map_range-done (told_rank handed (job_of h))
    (length (requests h)) c.loop-rank.rank c.loop-rank.out.items _ past c.loop-rank.invariant
    ∙ ap (λ (handed : Handed). told_lines handed (job_of h)) same

pub returns-clause-sound : goal.returns-clause-sound
returns-clause-sound c = subst IsSound c.history.ensures c.in_ok-ranks.ensures.sound

pub returns-in_err-print_rank-clause-torn : goal.returns-in_err-print_rank-clause-torn
returns-in_err-print_rank-clause-torn c =
    let e = err_from_is_err_and c.from_residual-in_err-print_rank.result c.from_residual-in_err-print_rank.ensures.1 in
    let h = c.args.script.now in
    let view : requests_view c.deref-requests-items.result.now ≡ requests h =
    ap (λ (rs : List (Vec rust.Request Global)). requests_view rs) c.deref-requests-items.ensures.value
    ∙ c.in_ok-ranks.ensures.view ∙ ap (λ (g : History). requests g) c.history.ensures in
    let section : map request_view c.deref.result.now ≡ requests_of (requests h) c.loop-rank.rank =
    ap (map request_view) c.deref.ensures.value
    ∙ section-view h c.deref-requests-items.result.now c.loop-rank.rank c.requests-item.result c.loop-rank-test.true
    c.requests-item.is view in
    let same : ◌≡◌ {A = Handed} (handed_in c.in_ok-index.index.entries) (told c.args.report.now.entries) =
    (λ z rank comm place start. c.in_ok-index.ensures rank comm place start z)
    ∙ ap (λ (es : List Entry). told es) c.entries.ensures in
    rw (e.1, e.2)
    (λ is. (
      subst IsSound c.history.ensures c.in_ok-ranks.ensures.sound,
      record {
        rank = c.loop-rank.rank;
        lacks = subst
            (λ (handed : Handed). Lacks handed c.loop-rank.rank (requests_of (requests h) c.loop-rank.rank)) same
            (subst (Lacks (handed_in c.in_ok-index.index.entries) c.loop-rank.rank) section
            (c.in_err-print_rank.ensures.torn is));
      },
    ))
