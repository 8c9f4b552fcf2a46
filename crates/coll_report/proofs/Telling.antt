-- The outcomes of a closed engine are those of the script.
use Rattle.std.proofs.Common.{◌≡◌, ◌≤◌, ◌+◌, ◌<◌, ℕ, zero, suc, Bool, true, false, cond, eqb, ◌&&◌, List, [], ◌∷◌, length, get_or, Option, Some, None}
use Rattle.std.proofs.Common.{◌⊎◌, inl, inr, refl, sym, ◌∙◌, ap, subst, arith}
use Rattle.std.specs.List.{AllByRecursion, Contains, count_by}
use Rattle.std.proofs.lemmas.Bool.{and_from, and_parts, cases_Bool, cases_lt, eq-eqb, eqb-true, false≢true}
use Rattle.std.proofs.lemmas.Option.{none-some}
use Rattle.std.proofs.lemmas.List.Elements.{All-contains, All-from_recursion}
use Rattle.std.proofs.lemmas.List.Sums.{sum_by-cons}
use Rattle.coll_kinds.specs.declared.ticket.Ticket.{Ticket}
use Rattle.coll_machine.specs.declared.key.Key.{Key}
use Rattle.coll_machine.specs.Common.{State, Entry, Posted, Inited, Started, Retired, Freed, posts_of}
use Rattle.coll_report.specs.Scripts.{Command, Asked, asked, at_place, outcome, Says, IsAsked}
use Rattle.coll_report.specs.Told.{HasValue, retires, IsTraceOf, IsIdle, Counts}
use Rattle.coll_report.proofs.Strangers.{strangers_are_silent}
use Rattle.coll_report.proofs.TracesTelling.{traces_tell, traces_count}
use Rattle.coll_report.specs.Attested.{IsAttested}
use Rattle.coll_report.specs.Reports.{Closed, IsClosed}
use Rattle.coll_report.specs.Scripted.{Follows, IsScripted, Tells, AttestedTells}

-- ---- a closed engine's trace is one of its script

all_say : (r : Closed) (script : ℕ → List Command) → IsClosed r → Follows r script
    → (rank : ℕ) → Says [] (script rank) (posts_of rank r.entries)
all_say r script is follows rank = go (cases_lt rank r.setting.ranks)
  where
    go : (rank < r.setting.ranks) ⊎ (r.setting.ranks ≤ rank) → Says [] (script rank) (posts_of rank r.entries)
    go (inl low) = follows.says rank low
    go (inr high) =
        subst (λ (cs : List Command). Says [] cs (posts_of rank r.entries)) (sym (follows.others rank high))
        (subst (λ (es : List Entry). Says [] [] es)
        (sym (strangers_are_silent r.setting r.entries is.last is.groups is.legal.leads rank high)) tt)

is_trace_of : (r : Closed) (script : ℕ → List Command) (is : IsClosed r) → Follows r script
    → IsTraceOf r.setting script r.entries is.last
is_trace_of r script is follows =
    record { groups = is.groups; leads = is.legal.leads; says = all_say r script is follows }

-- ---- counting completions

one_more : (p : Entry → Bool) (e : Entry) (es : List Entry) → p e ≡ true → count_by p (e ∷ es) ≡ 1 + count_by p es
one_more p e es is =
    sum_by-cons (λ x. cond (p x) 1 0) e es ∙ ap (λ (b : Bool). cond {A = ℕ} b 1 0 + count_by p es) is

no_more : (p : Entry → Bool) (e : Entry) (es : List Entry) → p e ≡ false → count_by p (e ∷ es) ≡ count_by p es
no_more p e es is =
    sum_by-cons (λ x. cond (p x) 1 0) e es ∙ ap (λ (b : Bool). cond {A = ℕ} b 1 0 + count_by p es) is
    ∙ omega arith

-- what is among the entries is counted
counted : (p : Entry → Bool) (es : List Entry) (n : ℕ) (e : Entry) → n < length es → get_or es n e ≡ e → p e ≡ true
    → 1 ≤ count_by p es
counted p [] n e low at is = absurd (omega (arith, low))
counted p (x ∷ es) zero e low at is =
    let more = one_more p x es (ap p at ∙ is) in omega (arith, more)
counted p (x ∷ es) (suc n) e low at is = go (cases_Bool (p x)) (counted p es n e (omega (arith, low)) at is)
  where
    go : (p x ≡ true) ⊎ (p x ≡ false) → 1 ≤ count_by p es → 1 ≤ count_by p (x ∷ es)
    go (inl is_so) rest = let more = one_more p x es is_so in omega (arith, more, rest)
    go (inr not) rest = let more = no_more p x es not in omega (arith, more, rest)

retires-Retired : (r c p s : ℕ) (t : Ticket) (b : List ℕ) → retires r c p s (Retired r t c p s b) ≡ true
retires-Retired r c p s t b =
    and_from _ _ (eq-eqb r r refl) (and_from _ _ (eq-eqb c c refl) (and_from _ _ (eq-eqb p p refl) (eq-eqb s s refl)))

retires-true : (r c p s : ℕ) (e : Entry) → retires r c p s e ≡ true
    → (t : Ticket) × (b : List ℕ) × (e ≡ Retired r t c p s b)
retires-true r c p s (Posted rank t comm place sig bytes) at = absurd (false≢true at)
retires-true r c p s (Inited rank t comm place sig) at = absurd (false≢true at)
retires-true r c p s (Started rank t start bytes) at = absurd (false≢true at)
retires-true r c p s (Freed rank t) at = absurd (false≢true at)
retires-true r c p s (Retired rank t comm place start bytes) at =
    let w = and_parts (eqb rank r) (eqb comm c && (eqb place p && eqb start s)) at in
    let x = and_parts (eqb comm c) (eqb place p && eqb start s) w.1 in
    let y = and_parts (eqb place p) (eqb start s) x.1 in
    let rank_is = eqb-true rank r w.0 in
    let comm_is = eqb-true comm c x.0 in
    let place_is = eqb-true place p y.0 in
    let start_is = eqb-true start s y.1 in
    (t, bytes, λ i. Retired (rank_is i) t (comm_is i) (place_is i) (start_is i) bytes)

-- what is counted is among the entries
found : (r c p s : ℕ) (es : List Entry) → 1 ≤ count_by (retires r c p s) es
    → (t : Ticket) × (b : List ℕ) × Contains es (Retired r t c p s b)
found r c p s [] some = absurd (omega (arith, some))
found r c p s (e ∷ es) some = go (cases_Bool (retires r c p s e)) (found r c p s es)
  where
    go : (retires r c p s e ≡ true) ⊎ (retires r c p s e ≡ false)
        → (1 ≤ count_by (retires r c p s) es → (t : Ticket) × (b : List ℕ) × Contains es (Retired r t c p s b))
        → (t : Ticket) × (b : List ℕ) × Contains (e ∷ es) (Retired r t c p s b)
    go (inl is_so) rest = let w = retires-true r c p s e is_so in (w.0, w.1, (0, omega arith, w.2))
    go (inr not) rest =
        let same = no_more (retires r c p s) e es not in
        let w = rest (omega (arith, same, some)) in
        (w.0, w.1, (suc w.2.0, omega (arith, w.2.1), w.2.2))

-- ---- whether a start is asked for

abbrev starts_of : Option Asked → ℕ
starts_of None = 0
starts_of (Some x) = length x.starts

not_so_many : (xs : List Asked) (comm place start : ℕ) (x : Asked) → at_place xs comm place ≡ Some x
    → length x.starts ≤ start → IsAsked xs comm place start → ⊥
not_so_many xs comm place start x is high h =
    let long : length x.starts ≡ length h.request.starts = ap starts_of (sym is ∙ h.is) in
    omega (arith, h.low, high, long)

asked_or_not : (xs : List Asked) (comm place start : ℕ)
    → IsAsked xs comm place start ⊎ (IsAsked xs comm place start → ⊥)
asked_or_not xs comm place start = go (at_place xs comm place) refl
  where
    go : (o : Option Asked) → at_place xs comm place ≡ o
        → IsAsked xs comm place start ⊎ (IsAsked xs comm place start → ⊥)
    go None is = inr (λ h. none-some h.request (sym is ∙ h.is))
    go (Some x) is = some x is (cases_lt start (length x.starts))
      where
        some : (x : Asked) → at_place xs comm place ≡ Some x → (start < length x.starts) ⊎ (length x.starts ≤ start)
            → IsAsked xs comm place start ⊎ (IsAsked xs comm place start → ⊥)
        some x is (inl low) = inl (record { request = x; is = is; low = low })
        some x is (inr high) = inr (not_so_many xs comm place start x is high)

-- ---- the law

value_is : (r : Closed) (requests : ℕ → List Asked) → AllByRecursion (HasValue r.setting requests) r.entries
    → (rank : ℕ) (k : Key) (bytes : List ℕ) → IsAttested r.entries rank k bytes
    → bytes ≡ outcome r.setting requests rank k
value_is r requests all rank k bytes at =
    All-contains (HasValue r.setting requests) r.entries (Retired rank at.0 k.comm k.place k.start bytes)
    (All-from_recursion (HasValue r.setting requests) r.entries all) at.1

asked_for : (r : Closed) (requests : ℕ → List Asked) (u : State) → Counts requests r.entries u
    → (rank : ℕ) (k : Key) (bytes : List ℕ) → IsAttested r.entries rank k bytes
    → IsAsked (requests rank) k.comm k.place k.start
asked_for r requests u counts rank k bytes at = go (asked_or_not (requests rank) k.comm k.place k.start)
  where
    some : 1 ≤ count_by (retires rank k.comm k.place k.start) r.entries
    some =
        counted (retires rank k.comm k.place k.start) r.entries at.1.0
        (Retired rank at.0 k.comm k.place k.start bytes)
        at.1.1 at.1.2 (retires-Retired rank k.comm k.place k.start at.0 bytes)

    go : IsAsked (requests rank) k.comm k.place k.start ⊎ (IsAsked (requests rank) k.comm k.place k.start → ⊥)
        → IsAsked (requests rank) k.comm k.place k.start
    go (inl is_so) = is_so
    go (inr not) = let none = counts.asked_for rank k.comm k.place k.start not in absurd (omega (arith, some, none))

handed_out : (r : Closed) (requests : ℕ → List Asked) (u : State) → IsIdle u
    → AllByRecursion (HasValue r.setting requests) r.entries → Counts requests r.entries u
    → (rank : ℕ) (k : Key) (bytes : List ℕ) → IsScripted r requests rank k bytes → IsAttested r.entries rank k bytes
handed_out r requests u idle all counts rank k bytes is =
    let one = counts.once idle rank k.comm k.place k.start is.0 in
    let w = found rank k.comm k.place k.start r.entries (omega (arith, one)) in
    let same = value_is r requests all rank k w.1 (w.0, w.2) ∙ sym is.1 in
    (w.0, subst (λ (b : List ℕ). Contains r.entries (Retired rank w.0 k.comm k.place k.start b)) same w.2)

tells : (r : Closed) (requests : ℕ → List Asked) (is : IsClosed r)
    → AllByRecursion (HasValue r.setting requests) r.entries → Counts requests r.entries is.last → Tells r requests
tells r requests is values counts = record {
  attested = λ rank k bytes. (
    λ at. (asked_for r requests is.last counts rank k bytes at, value_is r requests values rank k bytes at),
    handed_out r requests is.last is.idle values counts rank k bytes,
  );
  once = λ rank k. counts.once is.idle rank k.comm k.place k.start;
  values = values;
}

pub attested_tells : AttestedTells
attested_tells r script is follows =
    let trace = is_trace_of r script is follows in
    tells r (λ rank. asked (script rank)) is (traces_tell r.setting script r.entries is.last trace)
    (traces_count r.setting script r.entries is.last trace)
