-- What the tests of requests tell once the hold of a lock has ended.
use Rattle.std.proofs.Common.{◌≡◌, ◌+◌, ◌≤◌, ◌++◌, ℕ, Bool, true, false, not, List, [], ◌∷◌, length, drop, map, Option, Some, None, Vec, is_some}
use Rattle.std.proofs.Common.{refl, sym, ap, subst, ◌∙◌, arith, length-append}
use Rattle.std.specs.Prelude.{All, IfNone, IfSome, OnSome, filter, position, slice_index_or, if◌then◌else◌}
use Rattle.std.specs.Bool.{OnFalse, OnTrue}
use Rattle.std.specs.Global.{Global}
use Rattle.std.specs.List.{list_any, range_with_len}
use Rattle.std.proofs.lemmas.Bool.{false≢true}
use Rattle.std.proofs.lemmas.Grind.{flat_map-append}
use Rattle.std.proofs.lemmas.List.{append-nil, length-map}
use Rattle.std.proofs.lemmas.List.Elements.{All-head, All-tail, filter_passes}
use Rattle.std.proofs.lemmas.List.Quantifiers.{position-Some}
use Rattle.std.proofs.Math.Seq.{drop-append_seam}
use Rattle.coll_kinds.specs.declared.refusal.Refusal.{Refusal}
use Rattle.coll_kinds.specs.declared.ticket.Ticket.{Ticket}
use Rattle.coll_machine.specs.Common.{Entry, Event, Runs, Setting, Machine, LegalTrace}
use Rattle.coll_core.specs.declared.outcome.Outcome.{Outcome}
use Rattle.coll_core.specs.declared.phase.Phase.{Phase}
use Rattle.coll_core.specs.declared.phase.Phase.TheVariants.{Idle, Pending, Done}
use Rattle.coll_core.specs.Cores.{seen, setting}
use Rattle.coll_core.specs.Phases.{phase_in}
use Rattle.coll_complete.specs.declared.any.Any.{Any}
use Rattle.coll_complete.specs.declared.any.Any.TheVariants.{Undefined, Unfinished, At}
use Rattle.coll_complete.specs.Anys.{completion_any, is_undefined, left_at, position_of}
use Rattle.coll_complete.specs.Completing.{CompletesBy, Pushes, completion, completion_if, completions, done_positions}
use Rattle.coll_complete.specs.Requests.{done_by, free_refusal, hold_after, is_active, is_done, is_pending, left_of, list_refusal, pending_by, refusal_at}
use Rattle.coll_traced.specs.Awaiting.{IsUnfinished}
use Rattle.coll_traced.specs.Doing.{DidTraced}
use Rattle.coll_traced.specs.Endings.{ending, endings}
use Rattle.coll_traced.specs.Moments.{IsMoment}
use Rattle.coll_traced.specs.Tests.{CompletesAll, RefusesFree, RefusesList, RefusesOne, TestsAll, TestsAny, TestsOne, TestsSome}
use Rattle.coll_traced.specs.Traced.{Traced}
use Rattle.coll_traced.specs.Unfinished.{HadPending, WasPending, WasUnfinished}

abbrev Outcomes : Type 0
Outcomes = Vec (ℕ × Outcome) Global

abbrev Tickets : Type 0
Tickets = List (Option Ticket)

-- what a caller knows of what lies under the lock, when it tests
abbrev Moment : Setting → Traced → ℕ → Type 0
Moment g h a = (setting h.core ≡ g) × LegalTrace g h.entries (seen h.core).state × (a ≤ length h.entries)

moment_of : (g : Setting) (h : Traced) (a : ℕ) → Moment g h a → IsMoment g a h.entries (seen h.core).state
moment_of g h a m = record { legal = m.1; has_made = m.2 }

-- what was appended
pub appended : {X : Type 0} (before old new es : List X) → before ≡ old → new ≡ old ++ es → drop (length before) new ≡ es
appended before old new es was is = (λ z. drop (length (was z)) (is z)) ∙ drop-append_seam old es

none_more : {X : Type 0} (es : List X) → drop (length es) es ≡ []
none_more es = ap (drop (length es)) (sym (append-nil es)) ∙ drop-append_seam es []

accepted_one : (g : Setting) (h : Traced) (rank : ℕ) (r : Option Ticket) → setting h.core ≡ g
    → None ≡ refusal_at (setting h.core) (seen h.core).state rank r → refusal_at g (seen h.core).state rank r ≡ None
accepted_one g h rank r set fits = ap (λ (g : Setting). refusal_at g (seen h.core).state rank r) (sym set) ∙ sym fits

accepted_list : (g : Setting) (h : Traced) (rank : ℕ) (list : Tickets) → setting h.core ≡ g
    → None ≡ list_refusal (setting h.core) (seen h.core).state rank list → list_refusal g (seen h.core).state rank list ≡ None
accepted_list g h rank list set fits = ap (λ (g : Setting). list_refusal g (seen h.core).state rank list) (sym set) ∙ sym fits

ran : (g : Setting) (h k : Traced) (a b : ℕ) (es : List Event) → setting h.core ≡ g → DidTraced h a es k b
    → Runs g (seen h.core) es (seen k.core)
ran g h k a b es set did = subst (λ (g : Setting). Runs g (seen h.core) es (seen k.core)) set did.core_did.1

-- what was appended since then is what was completed
shown : (h k : Traced) (a b : ℕ) (es : List Event) (before made : List Entry) → DidTraced h a es k b → before ≡ h.entries
    → made ≡ drop (length before) k.entries → made ≡ endings es
shown h k a b es before made did was is = is ∙ appended before h.entries k.entries (endings es) was did.entries_are

-- the trace has just what is shown more
pub one_appended : (h k : Traced) (a b : ℕ) (es : List Event) (before made : List Entry) → DidTraced h a es k b → before ≡ h.entries
    → made ≡ drop (length before) k.entries → k.entries ≡ h.entries ++ made
one_appended h k a b es before made did was is =
    did.entries_are ∙ ap (λ (xs : List Entry). h.entries ++ xs) (sym (shown h k a b es before made did was is))

-- ---- refusals

pub refuses_one : (g : Setting) (h : Traced) (a rank : ℕ) (r : Option Ticket) (why : Option Refusal) → Moment g h a
    → why ≡ refusal_at (setting h.core) (seen h.core).state rank r → RefusesOne g a rank r why
refuses_one g h a rank r why m is = record {
  before = h.entries;
  engine = seen h.core;
  moment = moment_of g h a m;
  why_is = is ∙ ap (λ (g : Setting). refusal_at g (seen h.core).state rank r) m.0;
}

pub refuses_list : (g : Setting) (h : Traced) (a rank : ℕ) (list : Tickets) (why : Option Refusal) → Moment g h a
    → why ≡ list_refusal (setting h.core) (seen h.core).state rank list → RefusesList g a rank list why
refuses_list g h a rank list why m is = record {
  before = h.entries;
  engine = seen h.core;
  moment = moment_of g h a m;
  why_is = is ∙ ap (λ (g : Setting). list_refusal g (seen h.core).state rank list) m.0;
}

pub refuses_free : (g : Setting) (h : Traced) (a rank : ℕ) (r : Option Ticket) (why : Option Refusal) → Moment g h a
    → why ≡ free_refusal (setting h.core) (seen h.core).state rank r → RefusesFree g a rank r why
refuses_free g h a rank r why m is = record {
  before = h.entries;
  engine = seen h.core;
  moment = moment_of g h a m;
  why_is = is ∙ ap (λ (g : Setting). free_refusal g (seen h.core).state rank r) m.0;
}

-- ---- one request

not_done : (o : Option Phase) → pending_by o ≡ true → done_by o ≡ false
not_done None p = refl
not_done (Some Idle) p = refl
not_done (Some Pending) p = refl
not_done (Some Done) p = absurd (false≢true p)

left_pending : (m : Machine) (r : Option Ticket) → is_pending m r ≡ true → left_of m r ≡ r
left_pending m None p = refl
left_pending m (Some t) p = ap (λ b. if b then hold_after m.state t else Some t) (not_done (phase_in m t) p)

none_done : (m : Machine) (r : Option Ticket) → is_pending m r ≡ true → is_done m r ≡ false
none_done m None p = refl
none_done m (Some t) p = not_done (phase_in m t) p

negated : (b : Bool) → false ≡ not b → b ≡ true
negated true e = refl
negated false e = absurd (false≢true e)

no_outcome : (o : Option Outcome) → is_some o ≡ false → o ≡ None
no_outcome None e = refl
no_outcome (Some o) e = absurd (false≢true (sym e))

-- a test of one request that is Pending changes nothing
pub one_pending : (h k : Traced) (a b rank : ℕ) (old new : Option Ticket) (flag : Bool) (o : Option Outcome)
    → flag ≡ not (is_pending (seen h.core) old) → is_some o ≡ is_done (seen h.core) old
    → DidTraced h a (completion_if rank old o) k b → new ≡ left_of (seen h.core) old → flag ≡ false → (new ≡ old) × (b ≡ a)
one_pending h k a b rank old new flag o flag_is done did left e =
    let pending = negated (is_pending (seen h.core) old) (sym e ∙ flag_is) in
    let none = no_outcome o (done ∙ none_done (seen h.core) old pending) in
    let counted : b ≡ a + 0 = subst (λ (o : Option Outcome). b ≡ a + length (endings (completion_if rank old o))) none did.counted in
    (left ∙ left_pending (seen h.core) old pending, omega arith)

pub tests_one : (g : Setting) (h k : Traced) (a b rank : ℕ) (old new : Option Ticket) (flag : Bool) (o : Option Outcome)
    (before made : List Entry) → Moment g h a → None ≡ refusal_at (setting h.core) (seen h.core).state rank old
    → flag ≡ not (is_pending (seen h.core) old) → is_some o ≡ is_done (seen h.core) old
    → DidTraced h a (completion_if rank old o) k b → new ≡ left_of (seen h.core) old → before ≡ h.entries
    → made ≡ drop (length before) k.entries → TestsOne g a rank old new flag o made
tests_one g h k a b rank old new flag o before made m fits flag_is done did left was is = record {
  before = h.entries;
  engine = seen h.core;
  moment = moment_of g h a m;
  after = seen k.core;
  accepted = accepted_one g h rank old m.0 fits;
  flag_is = flag_is;
  outcome_is = done;
  runs = ran g h k a b (completion_if rank old o) m.0 did;
  request = left;
  entries_are = shown h k a b (completion_if rank old o) before made did was is;
}

-- an outcome is that of one entry
one_ending : (m : Machine) (rank : ℕ) (r : Option Ticket) (o : Outcome) → is_done m r ≡ true → length (endings (completion rank r o)) ≡ 1
one_ending m rank None o e = absurd (false≢true e)
one_ending m rank (Some t) o e = refl

pub one_counted : (h k : Traced) (a b rank : ℕ) (r : Option Ticket) (o : Option Outcome) → is_some o ≡ is_done (seen h.core) r
    → DidTraced h a (completion_if rank r o) k b → IfSome o (λ x. b ≡ a + 1)
one_counted h k a b rank r None e did = tt
one_counted h k a b rank r (Some o) e did = did.counted ∙ ap (λ n. a + n) (one_ending (seen h.core) rank r o (sym e))

-- ---- a list for one request

pub tests_any : (g : Setting) (h k : Traced) (a b rank : ℕ) (old new : Tickets) (any : Any) (before made : List Entry)
    → Moment g h a → None ≡ list_refusal (setting h.core) (seen h.core).state rank old
    → is_undefined any ≡ not (list_any (is_active (seen h.core)) old) → position_of any ≡ position (is_done (seen h.core)) old
    → DidTraced h a (completion_any rank old any) k b → new ≡ left_at (seen h.core) (position_of any) old → before ≡ h.entries
    → made ≡ drop (length before) k.entries → TestsAny g a rank old new any made
tests_any g h k a b rank old new any before made m fits undefined lowest did left was is = record {
  before = h.entries;
  engine = seen h.core;
  moment = moment_of g h a m;
  after = seen k.core;
  accepted = accepted_list g h rank old m.0 fits;
  undefined = undefined;
  lowest = lowest;
  runs = ran g h k a b (completion_any rank old any) m.0 did;
  requests = left;
  entries_are = shown h k a b (completion_any rank old any) before made did was is;
}

pub any_counted : (h k : Traced) (a b rank : ℕ) (list : Tickets) (any : Any) → position_of any ≡ position (is_done (seen h.core)) list
    → DidTraced h a (completion_any rank list any) k b → IfSome (position_of any) (λ at. b ≡ a + 1)
any_counted h k a b rank list Undefined e did = tt
any_counted h k a b rank list Unfinished e did = tt
any_counted h k a b rank list (At i o) e did =
    did.counted
    ∙ ap (λ n. a + n) (one_ending (seen h.core) rank (slice_index_or list i None) o (position-Some (is_done (seen h.core)) list i None (sym e)).1)

-- ---- a list for all

all_told : (g : Setting) (h k : Traced) (a b rank : ℕ) (old new : Tickets) (was is : List (ℕ × Outcome)) (before made : List Entry)
    → setting h.core ≡ g → Pushes was is (CompletesBy rank old (seen h.core) (λ es. DidTraced h a es k b))
    → new ≡ map (left_of (seen h.core)) old → before ≡ h.entries → made ≡ drop (length before) k.entries
    → Pushes was is (CompletesAll g rank old new (seen h.core) made)
all_told g h k a b rank old new was is before made set p left begun made_is = (
  p.0,
  p.1,
  record {
    after = seen k.core;
    completes = record { positions = p.2.positions; runs = ran g h k a b (completions rank old p.0) set p.2.did };
    requests = left;
    entries_are = shown h k a b (completions rank old p.0) before made p.2.did begun made_is;
  },
)

-- what was pushed has as many entries
each_ending : (m : Machine) (rank : ℕ) (list : Tickets) (outs : List (ℕ × Outcome))
    → All (λ i. is_done m (slice_index_or list i None) ≡ true) (map (λ (out : ℕ × Outcome). out.0) outs)
    → length (endings (completions rank list outs)) ≡ length outs
each_ending m rank list [] all = refl
each_ending m rank list (out ∷ outs) all =
    let first = completion rank (slice_index_or list out.0 None) out.1 in
    let rest = completions rank list outs in
    let both : endings (first ++ rest) ≡ endings first ++ endings rest = flat_map-append (λ (e : Event). ending e.call e.reply) first rest in
    let long : length (endings (first ++ rest)) ≡ length (endings first) + length (endings rest) =
    ap (λ (xs : List Entry). length xs) both ∙ length-append (endings first) (endings rest) in
    let one : length (endings first) ≡ 1 =
    one_ending m rank (slice_index_or list out.0 None) out.1
    (All-head (λ i. is_done m (slice_index_or list i None) ≡ true) out.0 (map (λ (out : ℕ × Outcome). out.0) outs) all) in
    let others : length (endings rest) ≡ length outs =
    each_ending m rank list outs
    (All-tail (λ i. is_done m (slice_index_or list i None) ≡ true) out.0 (map (λ (out : ℕ × Outcome). out.0) outs) all) in
    omega (arith, long, one, others)

-- what passes a filter passes it
filtered : {X : Type 0} (p : X → Bool) (xs : List X) → All (λ x. p x ≡ true) (filter p xs)
filtered p xs = filter_passes p xs

pub all_counted : (h k : Traced) (a b rank : ℕ) (list : Tickets) (was is : List (ℕ × Outcome))
    → Pushes was is (CompletesBy rank list (seen h.core) (λ es. DidTraced h a es k b)) → b + length was ≡ a + length is
all_counted h k a b rank list was is p =
    let m = seen h.core in
    let done = subst (All (λ i. is_done m (slice_index_or list i None) ≡ true)) (sym p.2.positions)
    (filtered (λ i. is_done m (slice_index_or list i None)) (range_with_len 0 (length list))) in
    let many : length (endings (completions rank list p.0)) ≡ length p.0 = each_ending m rank list p.0 done in
    let counted : b ≡ a + length (endings (completions rank list p.0)) = p.2.did.counted in
    let long : length is ≡ length was + length p.0 = ap length p.1 ∙ length-append was p.0 in
    omega (arith, many, counted, long)

abbrev Unchanged : Traced → Traced → ℕ → ℕ → Tickets → Tickets → Outcomes → Outcomes → Type 0
Unchanged h k a b old new was is = (k ≡ h) × (b ≡ a) × (new ≡ old) × (is ≡ was)

none_shown : (h k : Traced) (before made : List Entry) → k ≡ h → before ≡ h.entries → made ≡ drop (length before) k.entries → made ≡ []
none_shown h k before made same was is =
    is ∙ (ap (λ (es : List Entry). drop (length es) k.entries) was
    ∙ (ap (λ (x : Traced). drop (length h.entries) x.entries) same ∙ none_more h.entries))

pub tests_all : (g : Setting) (h k : Traced) (a b rank : ℕ) (old new : Tickets) (was is : Outcomes) (flag : Bool) (before made : List Entry)
    → Moment g h a → None ≡ list_refusal (setting h.core) (seen h.core).state rank old
    → flag ≡ not (list_any (is_pending (seen h.core)) old) → OnFalse flag (Unchanged h k a b old new was is)
    → OnTrue flag (Pushes was.items is.items (CompletesBy rank old (seen h.core) (λ es. DidTraced h a es k b)))
    → OnTrue flag (new ≡ map (left_of (seen h.core)) old) → before ≡ h.entries → made ≡ drop (length before) k.entries
    → TestsAll g a rank old new was.items is.items flag made
tests_all g h k a b rank old new was is true before made m fits flag_is off p left begun made_is = record {
  before = h.entries;
  engine = seen h.core;
  moment = moment_of g h a m;
  accepted = accepted_list g h rank old m.0 fits;
  flag_is = flag_is;
  unfinished = λ e. absurd (false≢true (sym e));
  completes = λ e. all_told g h k a b rank old new was.items is.items before made m.0 p left begun made_is;
}
tests_all g h k a b rank old new was is false before made m fits flag_is off p left begun made_is = record {
  before = h.entries;
  engine = seen h.core;
  moment = moment_of g h a m;
  accepted = accepted_list g h rank old m.0 fits;
  flag_is = flag_is;
  unfinished = λ e. (off.2, ap (λ (v : Outcomes). v.items) off.3, none_shown h k before made off.0 begun made_is);
  completes = λ e. absurd (false≢true e);
}

pub all_count : (h k : Traced) (a b rank : ℕ) (old new : Tickets) (was is : Outcomes) (flag : Bool)
    → OnFalse flag (Unchanged h k a b old new was is)
    → OnTrue flag (Pushes was.items is.items (CompletesBy rank old (seen h.core) (λ es. DidTraced h a es k b)))
    → b + length was.items ≡ a + length is.items
all_count h k a b rank old new was is true off p = all_counted h k a b rank old was.items is.items p
all_count h k a b rank old new was is false off p = λ z. off.1 z + length (sym off.3 z).items

-- who waits for what stays
pub all_waits_stay : (h k : Traced) (a b rank : ℕ) (old new : Tickets) (was is : Outcomes) (flag : Bool)
    → OnFalse flag (Unchanged h k a b old new was is)
    → OnTrue flag (Pushes was.items is.items (CompletesBy rank old (seen h.core) (λ es. DidTraced h a es k b)))
    → (k.waits ≡ h.waits) × (k.stalled ≡ h.stalled)
all_waits_stay h k a b rank old new was is true off p = (p.2.did.waits_are, p.2.did.stalled_is)
all_waits_stay h k a b rank old new was is false off p = (ap (λ (x : Traced). x.waits) off.0, ap (λ (x : Traced). x.stalled) off.0)

none_appended : (h k : Traced) (before made : List Entry) → k ≡ h → before ≡ h.entries → made ≡ drop (length before) k.entries
    → k.entries ≡ h.entries ++ made
none_appended h k before made same was is =
    ap (λ (x : Traced). x.entries) same
    ∙ (sym (append-nil h.entries) ∙ ap (λ (xs : List Entry). h.entries ++ xs) (sym (none_shown h k before made same was is)))

pub all_appended : (h k : Traced) (a b rank : ℕ) (old new : Tickets) (was is : Outcomes) (flag : Bool) (before made : List Entry)
    → OnFalse flag (Unchanged h k a b old new was is)
    → OnTrue flag (Pushes was.items is.items (CompletesBy rank old (seen h.core) (λ es. DidTraced h a es k b)))
    → before ≡ h.entries → made ≡ drop (length before) k.entries → k.entries ≡ h.entries ++ made
all_appended h k a b rank old new was is true before made off p begun made_is =
    one_appended h k a b (completions rank old p.0) before made p.2.did begun made_is
all_appended h k a b rank old new was is false before made off p begun made_is =
    none_appended h k before made off.0 begun made_is

-- ---- a list for some

pub some_appended : (h k : Traced) (a b rank : ℕ) (old new : Tickets) (was is : Outcomes) (count : Option ℕ) (before made : List Entry)
    → IfNone count (Unchanged h k a b old new was is)
    → OnSome count (Pushes was.items is.items (CompletesBy rank old (seen h.core) (λ es. DidTraced h a es k b)))
    → before ≡ h.entries → made ≡ drop (length before) k.entries → k.entries ≡ h.entries ++ made
some_appended h k a b rank old new was is (Some n) before made off p begun made_is =
    one_appended h k a b (completions rank old p.0) before made p.2.did begun made_is
some_appended h k a b rank old new was is None before made off p begun made_is =
    none_appended h k before made off.0 begun made_is

pub tests_some : (g : Setting) (h k : Traced) (a b rank : ℕ) (old new : Tickets) (was is : Outcomes) (count : Option ℕ) (before made : List Entry)
    → Moment g h a → None ≡ list_refusal (setting h.core) (seen h.core).state rank old
    → is_some count ≡ list_any (is_active (seen h.core)) old → IfSome count (λ n. n ≡ length (done_positions (seen h.core) old))
    → IfNone count (Unchanged h k a b old new was is)
    → OnSome count (Pushes was.items is.items (CompletesBy rank old (seen h.core) (λ es. DidTraced h a es k b)))
    → OnSome count (new ≡ map (left_of (seen h.core)) old) → before ≡ h.entries → made ≡ drop (length before) k.entries
    → TestsSome g a rank old new was.items is.items count made
tests_some g h k a b rank old new was is (Some n) before made m fits undefined count_is off p left begun made_is = record {
  before = h.entries;
  engine = seen h.core;
  moment = moment_of g h a m;
  accepted = accepted_list g h rank old m.0 fits;
  undefined = undefined;
  count_is = count_is;
  inactive = λ e. absurd (false≢true (sym e));
  completes = λ e. all_told g h k a b rank old new was.items is.items before made m.0 p left begun made_is;
}
tests_some g h k a b rank old new was is None before made m fits undefined count_is off p left begun made_is = record {
  before = h.entries;
  engine = seen h.core;
  moment = moment_of g h a m;
  accepted = accepted_list g h rank old m.0 fits;
  undefined = undefined;
  count_is = count_is;
  inactive = λ e. (off.2, ap (λ (v : Outcomes). v.items) off.3, none_shown h k before made off.0 begun made_is);
  completes = λ e. absurd (false≢true e);
}

-- the answer counts the entries
pub some_count : (h k : Traced) (a b rank : ℕ) (old : Tickets) (was is : Outcomes) (count : Option ℕ)
    → IfSome count (λ n. n ≡ length (done_positions (seen h.core) old))
    → OnSome count (Pushes was.items is.items (CompletesBy rank old (seen h.core) (λ es. DidTraced h a es k b)))
    → IfSome count (λ n. b ≡ a + n)
some_count h k a b rank old was is None count_is p = tt
some_count h k a b rank old was is (Some n) count_is p =
    let counted : b + length was.items ≡ a + length is.items = all_counted h k a b rank old was.items is.items p in
    let long : length is.items ≡ length was.items + length p.0 = ap length p.1 ∙ length-append was.items p.0 in
    let many : n ≡ length p.0 = count_is ∙ (ap length (sym p.2.positions) ∙ length-map p.0 (λ (out : ℕ × Outcome). out.0)) in
    omega (arith, counted, long, many)

pub some_waits_stay : (h k : Traced) (a b rank : ℕ) (old new : Tickets) (was is : Outcomes) (count : Option ℕ)
    → IfNone count (Unchanged h k a b old new was is)
    → OnSome count (Pushes was.items is.items (CompletesBy rank old (seen h.core) (λ es. DidTraced h a es k b)))
    → (k.waits ≡ h.waits) × (k.stalled ≡ h.stalled)
some_waits_stay h k a b rank old new was is (Some n) off p = (p.2.did.waits_are, p.2.did.stalled_is)
some_waits_stay h k a b rank old new was is None off p = (ap (λ (x : Traced). x.waits) off.0, ap (λ (x : Traced). x.stalled) off.0)

-- ---- what isn't finished

pub was_pending : (g : Setting) (a rank : ℕ) (old new : Option Ticket) (flag : Bool) (o : Option Outcome) (es : List Entry)
    → TestsOne g a rank old new flag o es → flag ≡ false → WasPending g a rank old
was_pending g a rank old new flag o es k none = record {
  before = k.before;
  engine = k.engine;
  moment = k.moment;
  accepted = k.accepted;
  pending = negated (is_pending k.engine old) (sym none ∙ k.flag_is);
}

pub had_pending : (g : Setting) (a rank : ℕ) (old new : Tickets) (was is : List (ℕ × Outcome)) (flag : Bool) (es : List Entry)
    → TestsAll g a rank old new was is flag es → flag ≡ false → HadPending g a rank old
had_pending g a rank old new was is flag es k none = record {
  before = k.before;
  engine = k.engine;
  moment = k.moment;
  accepted = k.accepted;
  pending = negated (list_any (is_pending k.engine) old) (sym none ∙ k.flag_is);
}

pub was_unfinished : (g : Setting) (a rank : ℕ) (old new : Tickets) (any : Any) (es : List Entry) → TestsAny g a rank old new any es
    → any ≡ Unfinished → WasUnfinished g a rank old
was_unfinished g a rank old new any es k none = record {
  before = k.before;
  engine = k.engine;
  moment = k.moment;
  accepted = k.accepted;
  unfinished = record {
    active = negated (list_any (is_active k.engine) old) (ap is_undefined (sym none) ∙ k.undefined);
    none_done = sym k.lowest ∙ ap position_of none;
  };
}

-- and where the list was looked at by itself
pub surveyed : (g : Setting) (h : Traced) (a rank : ℕ) (list : Tickets) → Moment g h a
    → None ≡ list_refusal (setting h.core) (seen h.core).state rank list → IsUnfinished (seen h.core) list → WasUnfinished g a rank list
surveyed g h a rank list m fits u = record {
  before = h.entries;
  engine = seen h.core;
  moment = moment_of g h a m;
  accepted = accepted_list g h rank list m.0 fits;
  unfinished = u;
}
