-- A list whose Done requests are completed one after the other.
use Rattle.std.proofs.Common.{◌≡◌, ℕ, zero, suc, ◌+◌, ◌<◌, ◌≤◌, Bool, List, [], ◌∷◌, ◌++◌, length, get_or, set, take, drop, map, Option, Some, None}
use Rattle.std.proofs.Common.{refl, sym, ap, subst, ◌∙◌, arith, cond, append_assoc}
use Rattle.std.specs.Prelude.{filter, is_some, slice_get, slice_index_or, slice_set, option_map, unwrap_or, if◌then◌else◌}
use Rattle.std.specs.List.{range_with_len}
use Rattle.std.proofs.lemmas.Grind.{flat_map-append}
use Rattle.std.proofs.lemmas.List.{append-nil, map-append}
use Rattle.std.proofs.lemmas.List.Elements.{filter-append}
use Rattle.std.proofs.lemmas.Option.{get_or_from_slice_get, slice_get-get_or, slice_get_within}
use Rattle.coll_kinds.specs.declared.ticket.Ticket.{Ticket}
use Rattle.coll_machine.specs.Common.{Setting, Machine, Request, State, found, first_of, naming_refusals, Event, Runs}
use Rattle.coll_core.specs.declared.outcome.Outcome.{Outcome}
use Rattle.coll_core.specs.Phases.{phase_by, phase_of}
use Rattle.coll_complete.specs.Requests.{AreDistinct, done_by, is_done, left_of, list_refusal, refusal_at, hold_after, hold_by}
use Rattle.coll_complete.specs.Completing.{Pushes, completion_if, completion, completions}
use Rattle.coll_complete.proofs.Firsts.{first_of-map}
use Rattle.coll_complete.proofs.Retiring.{Same, named, one_slot, same_retired, same_self, same_then}

-- ---- runs and positions, one more at the end

range-more : (a n : ℕ) → range_with_len a (suc n) ≡ range_with_len a n ++ (a + n) ∷ []
range-more a zero = let e : a ≡ a + 0 = omega arith in ap (λ k. k ∷ []) e
range-more a (suc n) =
    let e : (a + 1) + n ≡ a + suc n = omega arith in
    ap (λ xs. a ∷ xs) (range-more (a + 1) n ∙ ap (λ k. range_with_len (a + 1) n ++ k ∷ []) e)

filter-range : (p : ℕ → Bool) (n : ℕ)
    → filter p (range_with_len 0 (n + 1)) ≡ filter p (range_with_len 0 n) ++ cond (p n) (n ∷ []) []
filter-range p n =
    let e : n + 1 ≡ suc n = omega arith in
    let z : 0 + n ≡ n = omega arith in
    ap (λ k. filter p (range_with_len 0 k)) e
    ∙ (ap (filter p) (range-more 0 n)
    ∙ (filter-append p (range_with_len 0 n) ((0 + n) ∷ [])
    ∙ ap (λ k. filter p (range_with_len 0 n) ++ cond (p k) (k ∷ []) []) z))

-- ---- what is told of a request rests on what its ticket names

abbrev SameAt : Machine → Machine → Option Ticket → Type 0
SameAt m n None = Unit {0}
SameAt m n (Some t) = Same m n t

phase_same : (m n : Machine) (t : Ticket) (o : Option Request) → n.done t.slot ≡ m.done t.slot
    → phase_of n t o ≡ phase_of m t o
phase_same m n t None e = refl
phase_same m n t (Some q) e = ap (λ b. Some (phase_by q.active b)) e

done_same : (m n : Machine) (r : Option Ticket) → SameAt m n r → is_done n r ≡ is_done m r
done_same m n None h = refl
done_same m n (Some t) h = ap done_by (phase_same m n t (found n.state t) h.done_is ∙ ap (phase_of m t) h.found_is)

left_same : (m n : Machine) (r : Option Ticket) → SameAt m n r → left_of n r ≡ left_of m r
left_same m n None h = refl
left_same m n (Some t) h =
    ap (λ b. if b then hold_after n.state t else Some t) (done_same m n (Some t) h)
    ∙ ap (λ (o : Option Request). if is_done m (Some t) then unwrap_or
    (option_map (λ (q : Request). hold_by q.mode t) o) (Some t) else Some t) h.found_is

refusal_same : (g : Setting) (m n : Machine) (rank : ℕ) (r : Option Ticket) → SameAt m n r
    → refusal_at g n.state rank r ≡ refusal_at g m.state rank r
refusal_same g m n rank None h = refl
refusal_same g m n rank (Some t) h = ap (λ (o : Option Request). first_of (naming_refusals o rank)) h.found_is

-- ---- a list's requests, of which those below position i are completed where they are Done

abbrev done_in : Machine → List (Option Ticket) → ℕ → Bool
done_in m list i = is_done m (slice_index_or list i None)

pub record Swept (rank : ℕ) (list : List (Option Ticket)) (m n : Machine) (i : ℕ)
    (Did : List Event → Type 0) (outs : List (ℕ × Outcome)) : Type 0 where
  pub positions : map (λ out. out.0) outs ≡ filter (done_in m list) (range_with_len 0 i)
  pub did : Did (completions rank list outs)
  pub rest : (j : ℕ) (t : Ticket) → i ≤ j → slice_get list j ≡ Some (Some t) → Same m n t

pub swept_none : (rank : ℕ) (list : List (Option Ticket)) (m : Machine) (Did : List Event → Type 0) → Did []
    → Swept rank list m m 0 Did []
swept_none rank list m Did stays =
    record { positions = refl; did = stays; rest = λ j t le is. same_self m t }

-- what the next request adds to the outcomes
abbrev pub noted : ℕ → Option Outcome → List (ℕ × Outcome)
noted i None = []
noted i (Some o) = (i, o) ∷ []

pub noted-none : (i : ℕ) (r : Option Outcome) (outs : List (ℕ × Outcome)) → ((o : Outcome) → r ≡ Some o → ⊥)
    → outs ++ noted i r ≡ outs
noted-none i None outs off = append-nil outs
noted-none i (Some o) outs off = absurd (off o refl)

noted-positions : (i : ℕ) (r : Option Outcome) (b : Bool) → is_some r ≡ b
    → map (λ (out : ℕ × Outcome). out.0) (noted i r) ≡ cond b (i ∷ []) []
noted-positions i None b e = ap (λ b. cond b (i ∷ []) []) e
noted-positions i (Some o) b e = ap (λ b. cond b (i ∷ []) []) e

noted-completions : (rank : ℕ) (list : List (Option Ticket)) (i : ℕ) (x : Option Ticket) (r : Option Outcome)
    → slice_get list i ≡ Some x → completions rank list (noted i r) ≡ completion_if rank x r
noted-completions rank list i x None is = refl
noted-completions rank list i x (Some o) is =
    append-nil (completion rank (slice_index_or list i None) o)
    ∙ ap (λ (x : Option Ticket). completion rank x o) (get_or_from_slice_get list i x None is)

-- the ticket at a position of an accepted list names a request
live : (g : Setting) (rank : ℕ) (list : List (Option Ticket)) (s : State) → list_refusal g s rank list ≡ None
    → (i : ℕ) (t : Ticket) → slice_get list i ≡ Some (Some t) → (q : Request) × (found s t ≡ Some q)
live g rank list s fits i t is =
    let at : refusal_at g s rank (get_or list i None) ≡ None =
    first_of-map (refusal_at g s rank) list i None fits (slice_get_within list i (Some t) is) in
    named g s rank t (ap (refusal_at g s rank) (sym (get_or_from_slice_get list i (Some t) None is)) ∙ at)

-- tickets at two positions have two slots
apart : (g : Setting) (rank : ℕ) (list : List (Option Ticket)) (s : State) → AreDistinct list
    → list_refusal g s rank list ≡ None
    → (i j : ℕ) (u t : Ticket) → slice_get list i ≡ Some (Some u) → slice_get list j ≡ Some (Some t) → i < j
    → t.slot ≡ u.slot → ⊥
apart g rank list s distinct fits i j u t at_i at_j lt e =
    let p = live g rank list s fits j t at_j in
    let q = live g rank list s fits i u at_i in
    let same : t ≡ u = one_slot s t u p.0 q.0 p.1 q.1 e in
    let one : i ≡ j = distinct i j t (at_i ∙ ap (λ (t : Ticket). Some (Some t)) (sym same)) at_j in
    omega arith

-- the completion of one leaves the other
other_same : (g : Setting) (rank : ℕ) (x : Option Ticket) (r : Option Outcome) (t : Ticket) (n k : Machine)
    → Runs g n (completion_if rank x r) k
    → ((u : Ticket) → x ≡ Some u → t.slot ≡ u.slot → ⊥) → Same n k t
other_same g rank x None t n k run off = subst (λ (k : Machine). Same n k t) run (same_self n t)
other_same g rank None (Some o) t n k run off = subst (λ (k : Machine). Same n k t) run (same_self n t)
other_same g rank (Some u) (Some o) t n k run off =
    subst (λ (k : Machine). Same n k t) run.2
    (same_retired g rank u t o.rank o.comm o.place o.start o.bytes n run.0 run.1 (off u refl))

-- the request at position i is seen as at first
pub same_at : (rank : ℕ) (list : List (Option Ticket)) (m n : Machine) (i : ℕ) (Did : List Event → Type 0)
    (outs : List (ℕ × Outcome)) (x : Option Ticket)
    → Swept rank list m n i Did outs → slice_get list i ≡ Some x → SameAt m n x
same_at rank list m n i Did outs None h is = tt
same_at rank list m n i Did outs (Some t) h is = h.rest i t (omega arith) is

-- and may be completed
pub swept-fits : (g : Setting) (rank : ℕ) (list : List (Option Ticket)) (m n : Machine) (i : ℕ)
    (Did : List Event → Type 0) (outs : List (ℕ × Outcome)) (x : Option Ticket)
    → Swept rank list m n i Did outs → list_refusal g m.state rank list ≡ None
    → slice_get list i ≡ Some x → refusal_at g n.state rank x ≡ None
swept-fits g rank list m n i Did outs x h fits is =
    refusal_same g m n rank x (same_at rank list m n i Did outs x h is)
    ∙ (ap (refusal_at g m.state rank) (sym (get_or_from_slice_get list i x None is))
    ∙ first_of-map (refusal_at g m.state rank) list i None fits (slice_get_within list i x is))

pub swept-left : (rank : ℕ) (list : List (Option Ticket)) (m n : Machine) (i : ℕ)
    (Did : List Event → Type 0) (outs : List (ℕ × Outcome)) (x : Option Ticket)
    → Swept rank list m n i Did outs → slice_get list i ≡ Some x
    → left_of n x ≡ left_of m x
swept-left rank list m n i Did outs x h is = left_same m n x (same_at rank list m n i Did outs x h is)

-- one request more
pub swept_more : (g h : Setting) (rank : ℕ) (list : List (Option Ticket)) (m n k : Machine) (i : ℕ)
    (Before After : List Event → Type 0) (outs : List (ℕ × Outcome)) (x : Option Ticket) (r : Option Outcome)
    → AreDistinct list → list_refusal g m.state rank list ≡ None → Swept rank list m n i Before outs
    → slice_get list i ≡ Some x → is_some r ≡ is_done n x → Runs h n (completion_if rank x r) k
    → ((es : List Event) → Before es → After (es ++ completion_if rank x r))
    → Swept rank list m k (i + 1) After (outs ++ noted i r)
swept_more g h rank list m n k i Before After outs x r distinct fits s is done run more =
    let here : is_some r ≡ done_in m list i =
    done ∙ (done_same m n x (same_at rank list m n i Before outs x s is)
    ∙ ap (is_done m) (sym (get_or_from_slice_get list i x None is))) in
    record {
      positions =
          map-append (λ (out : ℕ × Outcome). out.0) outs (noted i r)
          ∙ (ap (λ xs. xs ++ map (λ (out : ℕ × Outcome). out.0) (noted i r)) s.positions
          ∙ (ap (λ xs. filter (done_in m list) (range_with_len 0 i) ++ xs)
          (noted-positions i r (done_in m list i) here) ∙ sym (filter-range (done_in m list) i)));
      did =
          let es = flat_map-append (λ (out : ℕ × Outcome). completion rank (slice_index_or list out.0 None) out.1)
          outs (noted i r) ∙ ap (λ es. completions rank list outs ++ es) (noted-completions rank list i x r is) in
          subst After (sym es) (more (completions rank list outs) s.did);
      rest = λ j t le at.
          same_then m n k t (s.rest j t (omega arith) at)
          (other_same h rank x r t n k run
          (λ u e. apart g rank list m.state distinct fits i j u t (is ∙ ap (λ (x : Option Ticket). Some x) e) at
          (omega arith)));
    }

-- ---- the list itself

abbrev pub swept_list : Machine → List (Option Ticket) → ℕ → List (Option Ticket)
swept_list m list i = map (left_of m) (take i list) ++ drop i list

set_swept : (f : Option Ticket → Option Ticket) (list : List (Option Ticket)) (i : ℕ) (d : Option Ticket)
    → i < length list
    → set (map f (take i list) ++ drop i list) i (f (get_or list i d)) ≡ map f (take (suc i) list) ++ drop (suc i) list
set_swept f [] i d lt = absurd (omega arith)
set_swept f (x ∷ xs) zero d lt = refl
set_swept f (x ∷ xs) (suc i) d lt = ap (λ ys. f x ∷ ys) (set_swept f xs i d (omega arith))

get_swept : (f : Option Ticket → Option Ticket) (list : List (Option Ticket)) (i : ℕ) (d : Option Ticket)
    → i < length list → get_or (map f (take i list) ++ drop i list) i d ≡ get_or list i d
get_swept f [] i d lt = absurd (omega arith)
get_swept f (x ∷ xs) zero d lt = refl
get_swept f (x ∷ xs) (suc i) d lt = get_swept f xs i d (omega arith)

all_swept : (f : Option Ticket → Option Ticket) (list : List (Option Ticket)) (i : ℕ) → length list ≤ i
    → map f (take i list) ++ drop i list ≡ map f list
all_swept f [] zero le = refl
all_swept f [] (suc i) le = refl
all_swept f (x ∷ xs) zero le = absurd (omega arith)
all_swept f (x ∷ xs) (suc i) le = ap (λ ys. f x ∷ ys) (all_swept f xs i (omega arith))

-- the request at position i is still there
pub swept-at : (m : Machine) (list now : List (Option Ticket)) (i : ℕ) (d : Option Ticket) → now ≡ swept_list m list i
    → i < length list → slice_get list i ≡ Some (slice_index_or now i d)
swept-at m list now i d is lt =
    slice_get-get_or list i d lt
    ∙ ap (λ (x : Option Ticket). Some x)
    (sym (ap (λ (xs : List (Option Ticket)). get_or xs i d) is ∙ get_swept (left_of m) list i d lt))

pub swept_list-set : (m n : Machine) (list now : List (Option Ticket)) (i : ℕ) (x y : Option Ticket)
    → now ≡ swept_list m list i → slice_get list i ≡ Some x → y ≡ left_of n x → left_of n x ≡ left_of m x
    → slice_set now i y ≡ swept_list m list (i + 1)
swept_list-set m n list now i x y is at left same =
    let e : suc i ≡ i + 1 = omega arith in
    let here : y ≡ left_of m (get_or list i None) =
    left ∙ (same ∙ ap (left_of m) (sym (get_or_from_slice_get list i x None at))) in
    ap (λ (xs : List (Option Ticket)). set xs i y) is
    ∙ (ap (λ (y : Option Ticket). set (swept_list m list i) i y) here
    ∙ (set_swept (left_of m) list i None (slice_get_within list i x at) ∙ ap (swept_list m list) e))

pub swept_list-all : (m : Machine) (list now : List (Option Ticket)) (i : ℕ) → now ≡ swept_list m list i
    → length list ≤ i → now ≡ map (left_of m) list
swept_list-all m list now i is le = is ∙ all_swept (left_of m) list i le

-- what is pushed with one request more
pub swept_pushed : (g h : Setting) (rank : ℕ) (list : List (Option Ticket)) (m n k : Machine) (i : ℕ)
    (Before After : List Event → Type 0) (old now new : List (ℕ × Outcome)) (x : Option Ticket) (r : Option Outcome)
    → AreDistinct list → list_refusal g m.state rank list ≡ None → Pushes old now (Swept rank list m n i Before)
    → slice_get list i ≡ Some x
    → is_some r ≡ is_done n x → Runs h n (completion_if rank x r) k
    → ((es : List Event) → Before es → After (es ++ completion_if rank x r)) → new ≡ now ++ noted i r
    → Pushes old new (Swept rank list m k (i + 1) After)
swept_pushed g h rank list m n k i Before After old now new x r distinct fits p at done run more is = (
  p.0 ++ noted i r,
  is ∙ (ap (λ xs. xs ++ noted i r) p.1 ∙ append_assoc old p.0 (noted i r)),
  swept_more g h rank list m n k i Before After p.0 x r distinct fits p.2 at done run more,
)
