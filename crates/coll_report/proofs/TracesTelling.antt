-- Traces from the beginning.
use Rattle.std.proofs.Common.{◌≡◌, ℕ, ◌+◌, ◌≤◌, List, [], refl, sym, subst, ◌∙◌, arith}
use Rattle.std.specs.List.{count_by}
use Rattle.std.proofs.lemmas.Option.{none-some}
use Rattle.coll_report.specs.Scripts.{Command, Asked, asked, IsAsked}
use Rattle.std.proofs.lemmas.Bool.{false≢true}
use Rattle.coll_machine.specs.Common.{Entry, Setting, State, nothing}
use Rattle.coll_report.proofs.Counted.{Fair, unasked, going, over}
use Rattle.coll_report.proofs.Running.{Ends, run}
use Rattle.coll_machine.proofs.Posted.{are_nothing}
use Rattle.coll_report.proofs.Standing.{stands_nothing}
use Rattle.coll_report.specs.Told.{retires, IsTraceOf, IsIdle, TracesTell, TracesCount}

ends : (g : Setting) (script : ℕ → List Command) (es : List Entry) (u : State) → IsTraceOf g script es u
    → Ends g u (λ rank. asked (script rank)) es (λ r c p n. 0)
ends g script es u is = run g is.groups (λ rank. asked (script rank)) es nothing u (λ r. []) (λ r. []) (λ r c p n. 0) is.leads
    (record { stands = stands_nothing g; fair = λ r c p n. unasked (λ h. none-some h.request h.is) refl })
    (are_nothing g)
    (record { rest = script; says = is.says; whole_is = λ r. refl })

pub traces_tell : TracesTell
traces_tell g script es u is = (ends g script es u is).values

few : (request : _) (xs : List Asked) (count r c p n : ℕ) → Fair request xs count r c p n → count ≤ 1
few request xs count r c p n (unasked d e) = omega arith
few request xs count r c p n (going h w e) = omega arith
few request xs count r c p n (over h d e) = omega arith

none : (request : _) (xs : List Asked) (count r c p n : ℕ) → Fair request xs count r c p n → (IsAsked xs c p n → ⊥) → count ≡ 0
none request xs count r c p n (unasked d e) not = e
none request xs count r c p n (going h w e) not = e
none request xs count r c p n (over h d e) not = absurd (not h)

one : (u : State) (xs : List Asked) (count r c p n : ℕ) → IsIdle u → Fair u.request xs count r c p n → IsAsked xs c p n → count ≡ 1
one u xs count r c p n idle (unasked d e) h = absurd (d h)
one u xs count r c p n idle (going a w e) h = absurd (false≢true (sym (idle w.slot w.by w.is) ∙ w.active))
one u xs count r c p n idle (over a d e) h = e

pub traces_count : TracesCount
traces_count g script es u is = record {
  never_twice = λ r c p n. subst (λ k. k ≤ 1) (same r c p n) (few u.request (e.now r) (e.last r c p n) r c p n (e.good.fair r c p n));
  asked_for = λ r c p n not. sym (same r c p n)
      ∙ none u.request (e.now r) (e.last r c p n) r c p n (e.good.fair r c p n) (λ h. not (subst (λ (l : List Asked). IsAsked l c p n) (e.now_is r) h));
  once = λ idle r c p n h. sym (same r c p n)
      ∙ one u (e.now r) (e.last r c p n) r c p n idle (e.good.fair r c p n) (subst (λ (l : List Asked). IsAsked l c p n) (sym (e.now_is r)) h);
}
  where
    e : Ends g u (λ rank. asked (script rank)) es (λ r c p n. 0)
    e = ends g script es u is

    same : (r c p n : ℕ) → e.last r c p n ≡ count_by (retires r c p n) es
    same r c p n = let f : e.last r c p n ≡ 0 + count_by (retires r c p n) es = e.counts r c p n in omega arith
