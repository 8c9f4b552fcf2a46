-- What a port that waits for some of its requests is told.
use Rattle.std.proofs.Common.{◌≡◌, ℕ, zero, suc, ◌<◌, ◌+◌, ◌≤◌, ◌++◌, Bool, true, false, cond, List, [], ◌∷◌, length, get_or, take, drop, Option}
use Rattle.std.proofs.Common.{Some, None, is_some, refl, sym, ap, subst, ◌∙◌, arith}
use Rattle.std.specs.Prelude.{IfSome, filter, position}
use Rattle.std.specs.List.{cons_option, list_any, range_with_len}
use Rattle.std.proofs.lemmas.Bool.{false≢true}
use Rattle.std.proofs.lemmas.List.{append-nil, length-append, take-append-drop, take_more}
use Rattle.std.proofs.lemmas.List.Elements.{filter_map-append}
use Rattle.std.proofs.lemmas.List.FromFn.{get_or-range_with_len, length-range_with_len}
use Rattle.std.proofs.lemmas.List.Quantifiers.{position-Some}
use Rattle.coll_kinds.specs.declared.ticket.Ticket.{Ticket}
use Rattle.coll_machine.specs.States.{Machine}
use Rattle.coll_complete.specs.Completing.{done_positions}
use Rattle.coll_complete.specs.Requests.{is_active, is_done}
use Rattle.coll_traced.specs.Awaiting.{tickets_in}

-- a filter keeps an element that passes
some_kept : {X : Type 0} (p : X → Bool) (xs : List X) (i : ℕ) (d : X) → i < length xs → p (get_or xs i d) ≡ true
    → 0 < length (filter p xs)
some_kept p [] i d lt e = absurd (omega arith)
some_kept p (x ∷ xs) zero d lt e =
    let one : length (filter p (x ∷ xs)) ≡ suc (length (filter p xs)) = ap (λ b. length (cond b (x ∷ filter p xs) (filter p xs))) e in
    omega arith
some_kept p (x ∷ xs) (suc i) d lt e = go (p x) (some_kept p xs i d (omega arith) e)
  where
    go : (b : Bool) → 0 < length (filter p xs) → 0 < length (cond b (x ∷ filter p xs) (filter p xs))
    go true h = omega arith
    go false h = h

some_done : (m : Machine) (list : List (Option Ticket)) (i : ℕ) → position (is_done m) list ≡ Some i
    → 0 < length (done_positions m list)
some_done m list i e =
    let found = position-Some (is_done m) list i None e in
    let low : i < length (range_with_len 0 (length list)) = subst (λ n. i < n) (sym (length-range_with_len 0 (length list))) found.0 in
    let at : get_or (range_with_len 0 (length list)) i 0 ≡ i = get_or-range_with_len 0 (length list) i 0 found.0 ∙ omega arith in
    some_kept (λ k. is_done m (get_or list k None)) (range_with_len 0 (length list)) i 0 low
    (ap (λ k. is_done m (get_or list k None)) at ∙ found.1)

-- where none is active the answer is none
pub none_active : (m : Machine) (list : List (Option Ticket)) (count : Option ℕ) → list_any (is_active m) list ≡ false
    → is_some count ≡ list_any (is_active m) list → IfSome count (λ n. 0 < n)
none_active m list None e is = tt
none_active m list (Some n) e is = absurd (false≢true (sym (is ∙ e)))

-- and where one is Done it isn't zero
pub some_counted : (m : Machine) (list : List (Option Ticket)) (first count : Option ℕ) → first ≡ position (is_done m) list
    → is_some first ≡ true → IfSome count (λ n. n ≡ length (done_positions m list)) → IfSome count (λ n. 0 < n)
some_counted m list first None e found is = tt
some_counted m list None (Some n) e found is = absurd (false≢true found)
some_counted m list (Some i) (Some n) e found is = subst (λ k. 0 < k) (sym is) (some_done m list i (sym e))

-- ---- the tickets of a list

pub tickets_more : (list : List (Option Ticket)) (i : ℕ) (r : Option Ticket) (ticket : Option Ticket) → i < length list
    → r ≡ get_or list i r → ticket ≡ r → tickets_in (take (i + 1) list) ≡ tickets_in (take i list) ++ cons_option ticket []
tickets_more list i r ticket lt is same =
    ap tickets_in (take_more list i r lt)
    ∙ (filter_map-append (λ request. request) (take i list) (get_or list i r ∷ [])
    ∙ ap (λ o. tickets_in (take i list) ++ cons_option o []) (sym (same ∙ is)))

no_ticket : (ticket : Option Ticket) → ((t : Ticket) → ticket ≡ Some t → ⊥) → ticket ≡ None
no_ticket None none = refl
no_ticket (Some t) none = absurd (none t refl)

-- nothing is added where there is none
pub none_added : (ts : List Ticket) (ticket : Option Ticket) → ((t : Ticket) → ticket ≡ Some t → ⊥)
    → ts ++ cons_option ticket [] ≡ ts
none_added ts ticket none = ap (λ o. ts ++ cons_option o []) (no_ticket ticket none) ∙ append-nil ts

-- the first requests have no more tickets than all
pub length-tickets_in-take : (list : List (Option Ticket)) (i : ℕ) → length (tickets_in (take i list)) ≤ length (tickets_in list)
length-tickets_in-take list i =
    let whole : tickets_in list ≡ tickets_in (take i list) ++ tickets_in (drop i list) =
    ap tickets_in (sym (take-append-drop i list)) ∙ filter_map-append (λ request. request) (take i list) (drop i list) in
    let sum : length (tickets_in list) ≡ length (tickets_in (take i list)) + length (tickets_in (drop i list)) =
    ap length whole ∙ length-append (tickets_in (take i list)) (tickets_in (drop i list)) in
    omega arith

-- a ticket that comes after the first makes one more
pub length-tickets_more : (list : List (Option Ticket)) (i : ℕ) (r : Option Ticket) (t : Ticket) → i < length list
    → r ≡ get_or list i r → Some t ≡ r → length (tickets_in (take i list)) < length (tickets_in list)
length-tickets_more list i r t lt is same =
    let more = ap length (tickets_more list i r (Some t) lt is same) ∙ length-append (tickets_in (take i list)) (t ∷ []) in
    let whole = length-tickets_in-take list (i + 1) in
    omega arith
