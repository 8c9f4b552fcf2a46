use Rattle.std.proofs.Common.{◌≡◌, ◌++◌, ℕ, [], List, Vec, length, map, ap, subst, sym, ◌∙◌, arith}
use Rattle.std.specs.Global.{Global}
use Rattle.std.proofs.lemmas.List.{length-map}
use Rattle.coll_parser.specs.declared.request.Request as rust
use Rattle.coll_parser.specs.Histories.{History}
use Rattle.coll_parser.specs.Requests.{Request, requests}
use Rattle.coll_parser.specs.Code.{request_view, requests_view}
use Rattle.coll_script.specs.Postings.{requests_of}
use Rattle.coll_script.specs.PostingViews.{all_lists_view}
use Rattle.coll_script.specs.Jobs.{job_of, all_postings}
use Rattle.coll_script.specs.Outcomes.{group_values, values_view}
use Rattle.coll_script.specs.Prints.{printed_behind, HaveValues}
use Rattle.coll_script.specs.Meaning.{rank_lines}
use Rattle.coll_script.specs.Scripts.{IsJob}
use Rattle.coll_script.proofs.Sections.{requests_of-view}
use Rattle.coll_script.proofs.Ending.{postings-view}
use Rattle.coll_script.proofs.Loops.{flat_map_range-more, flat_map_range-done}
use Rattle.coll_script.proofs.Printed.{values_of, length-values_of, printed-rank_lines, HaveValues-rank}
use Rattle.coll_script.proofs.script.Script.plain_lines.Goals as goal

pub print_rank-requires-clause-groups : goal.print_rank-requires-clause-groups
print_rank-requires-clause-groups c =
    let h = c.args.self.now in
    let job = job_of h in
    let section : map request_view c.deref-in-loop-rank.result.now ≡ requests_of job.requests c.loop-rank.rank =
    ap (map request_view) c.deref-in-loop-rank.ensures.value
    ∙ requests_of-view c.deref-requests-items.result.now c.loop-rank.rank c.requests-item.result c.loop-rank-test.true c.requests-item.is
    ∙ ap (λ (rs : List (Vec rust.Request Global)). requests_of (requests_view rs) c.loop-rank.rank) c.deref-requests-items.ensures.value
    ∙ ap (λ (rs : List (List Request)). requests_of rs c.loop-rank.rank) c.in_ok-ranks.ensures.view
    ∙ ap (λ (g : History). requests_of (requests g) c.loop-rank.rank) c.self.view_is in
    let is : IsJob job = subst (λ (g : History). IsJob (job_of g)) c.self.view_is c.self.invariant in
    let all : all_lists_view c.in_ok-all.all.items ≡ all_postings job =
    c.in_ok-all.ensures ∙ postings-view c.self.inside.history c.deref.result.now c.in_ok-ranks.ranks.items c.groups.result.now
    c.deref.ensures.value c.in_ok-ranks.ensures.view c.groups.ensures.groups
    ∙ ap (λ (g : History). all_postings (job_of g)) c.self.view_is in
    let values : values_view c.deref-in-loop-rank-2.result.now ≡ values_of job =
    ap values_view c.deref-in-loop-rank-2.ensures.value ∙ c.in_ok-values.ensures.ok
    ∙ ap (λ (a : List (Vec (Vec rust.Request Global) Global)). map group_values (all_lists_view a)) c.deref-2.ensures.value ∙ ap (map group_values) all in
    let few = is.few_groups in
    let len : length (values_view c.deref-in-loop-rank-2.result.now) ≡ length c.deref-in-loop-rank-2.result.now =
    length-map c.deref-in-loop-rank-2.result.now _ in
    let count : length (values_view c.deref-in-loop-rank-2.result.now) ≡ length job.groups = ap length values ∙ length-values_of job in
    omega (arith, few, len, count)

pub print_rank-requires-clause-few : goal.print_rank-requires-clause-few
print_rank-requires-clause-few c =
    let h = c.args.self.now in
    let job = job_of h in
    let section : map request_view c.deref-in-loop-rank.result.now ≡ requests_of job.requests c.loop-rank.rank =
    ap (map request_view) c.deref-in-loop-rank.ensures.value
    ∙ requests_of-view c.deref-requests-items.result.now c.loop-rank.rank c.requests-item.result c.loop-rank-test.true c.requests-item.is
    ∙ ap (λ (rs : List (Vec rust.Request Global)). requests_of (requests_view rs) c.loop-rank.rank) c.deref-requests-items.ensures.value
    ∙ ap (λ (rs : List (List Request)). requests_of rs c.loop-rank.rank) c.in_ok-ranks.ensures.view
    ∙ ap (λ (g : History). requests_of (requests g) c.loop-rank.rank) c.self.view_is in
    let is : IsJob job = subst (λ (g : History). IsJob (job_of g)) c.self.view_is c.self.invariant in
    let few = is.few_requests c.loop-rank.rank in
    let count : length (map request_view c.deref-in-loop-rank.result.now) ≡ length (requests_of job.requests c.loop-rank.rank) = ap length section in
    let len : length (map request_view c.deref-in-loop-rank.result.now) ≡ length c.deref-in-loop-rank.result.now =
    length-map c.deref-in-loop-rank.result.now _ in
    omega (arith, few, len, count)

pub print_rank-requires-clause-values : goal.print_rank-requires-clause-values
print_rank-requires-clause-values c =
    let h = c.args.self.now in
    let job = job_of h in
    let section : map request_view c.deref-in-loop-rank.result.now ≡ requests_of job.requests c.loop-rank.rank =
    ap (map request_view) c.deref-in-loop-rank.ensures.value
    ∙ requests_of-view c.deref-requests-items.result.now c.loop-rank.rank c.requests-item.result c.loop-rank-test.true c.requests-item.is
    ∙ ap (λ (rs : List (Vec rust.Request Global)). requests_of (requests_view rs) c.loop-rank.rank) c.deref-requests-items.ensures.value
    ∙ ap (λ (rs : List (List Request)). requests_of rs c.loop-rank.rank) c.in_ok-ranks.ensures.view
    ∙ ap (λ (g : History). requests_of (requests g) c.loop-rank.rank) c.self.view_is in
    let is : IsJob job = subst (λ (g : History). IsJob (job_of g)) c.self.view_is c.self.invariant in
    let all : all_lists_view c.in_ok-all.all.items ≡ all_postings job =
    c.in_ok-all.ensures ∙ postings-view c.self.inside.history c.deref.result.now c.in_ok-ranks.ranks.items c.groups.result.now
    c.deref.ensures.value c.in_ok-ranks.ensures.view c.groups.ensures.groups
    ∙ ap (λ (g : History). all_postings (job_of g)) c.self.view_is in
    let values : values_view c.deref-in-loop-rank-2.result.now ≡ values_of job =
    ap values_view c.deref-in-loop-rank-2.ensures.value ∙ c.in_ok-values.ensures.ok
    ∙ ap (λ (a : List (Vec (Vec rust.Request Global) Global)). map group_values (all_lists_view a)) c.deref-2.ensures.value ∙ ap (map group_values) all in
    subst (λ (v : List (List (List (List (List ℕ))))). HaveValues v (map request_view c.deref-in-loop-rank.result.now))
    (sym values) (subst (HaveValues (values_of job)) (sym section) (HaveValues-rank job is c.loop-rank.rank))

pub loop-rank-preserved : goal.loop-rank-preserved
loop-rank-preserved c =
    let h = c.args.self.now in
    let job = job_of h in
    let section : map request_view c.deref-in-loop-rank.result.now ≡ requests_of job.requests c.loop-rank.rank =
    ap (map request_view) c.deref-in-loop-rank.ensures.value
    ∙ requests_of-view c.deref-requests-items.result.now c.loop-rank.rank c.requests-item.result c.loop-rank-test.true c.requests-item.is
    ∙ ap (λ (rs : List (Vec rust.Request Global)). requests_of (requests_view rs) c.loop-rank.rank) c.deref-requests-items.ensures.value
    ∙ ap (λ (rs : List (List Request)). requests_of rs c.loop-rank.rank) c.in_ok-ranks.ensures.view
    ∙ ap (λ (g : History). requests_of (requests g) c.loop-rank.rank) c.self.view_is in
    let is : IsJob job = subst (λ (g : History). IsJob (job_of g)) c.self.view_is c.self.invariant in
    let all : all_lists_view c.in_ok-all.all.items ≡ all_postings job =
    c.in_ok-all.ensures ∙ postings-view c.self.inside.history c.deref.result.now c.in_ok-ranks.ranks.items c.groups.result.now
    c.deref.ensures.value c.in_ok-ranks.ensures.view c.groups.ensures.groups
    ∙ ap (λ (g : History). all_postings (job_of g)) c.self.view_is in
    let values : values_view c.deref-in-loop-rank-2.result.now ≡ values_of job =
    ap values_view c.deref-in-loop-rank-2.ensures.value ∙ c.in_ok-values.ensures.ok
    ∙ ap (λ (a : List (Vec (Vec rust.Request Global) Global)). map group_values (all_lists_view a)) c.deref-2.ensures.value ∙ ap (map group_values) all in
    let count : length c.deref-requests-items.result.now ≡ length job.requests =
    sym (length-map c.deref-requests-items.result.now (λ requests. map request_view requests.items))
    ∙ ap (λ (rs : List (Vec rust.Request Global)). length (requests_view rs)) c.deref-requests-items.ensures.value
    ∙ ap length c.in_ok-ranks.ensures.view ∙ ap (λ (g : History). length (requests g)) c.self.view_is in
    let printed : c.print_rank.new.out.items ≡ c.loop-rank.out.items ++ rank_lines job c.loop-rank.rank =
    c.in_ok-print_rank.ensures.ok
    ∙ ap (λ (v : List (List (List (List (List ℕ))))). c.loop-rank.out.items
    ++ printed_behind v c.loop-rank.rank [] (map request_view c.deref-in-loop-rank.result.now)) values
    ∙ ap (λ (requests : List Request). c.loop-rank.out.items ++ printed_behind (values_of job) c.loop-rank.rank [] requests) section
    ∙ ap (λ (text : List ℕ). c.loop-rank.out.items ++ text) (printed-rank_lines job is c.loop-rank.rank) in
    rw printed (flat_map_range-more (rank_lines job) (length job.requests) c.loop-rank.rank c.loop-rank.out.items _
    (omega (arith, count, c.loop-rank-test.true)) c.loop-rank.invariant)

pub returns-clause-ok : goal.returns-clause-ok
returns-clause-ok c =
    let h = c.args.self.now in
    let job = job_of h in
    let count : length c.deref-requests-items.result.now ≡ length job.requests =
    sym (length-map c.deref-requests-items.result.now (λ requests. map request_view requests.items))
    ∙ ap (λ (rs : List (Vec rust.Request Global)). length (requests_view rs)) c.deref-requests-items.ensures.value
    ∙ ap length c.in_ok-ranks.ensures.view ∙ ap (λ (g : History). length (requests g)) c.self.view_is in
    flat_map_range-done (rank_lines job) (length job.requests) c.loop-rank.rank c.loop-rank.out.items _
    (omega (arith, count, c.loop-rank-test.false)) c.loop-rank.invariant
