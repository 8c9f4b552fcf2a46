-- Where ranks pass to their ends in the checker's order, no run of the job stalls.
use Rattle.std.proofs.Common.{◌≡◌, ℕ, zero, suc, ◌+◌, ◌-◌, ◌<◌, ◌≤◌, ◌⊎◌, inl, inr, Bool, true, false, not, cond, eqb, leb, ltb, ◌&&◌, ◌||◌, List, []}
use Rattle.std.proofs.Common.{◌∷◌, length, count_by, set, get_or, Option, Some, None, Vec, Global, refl, sym, ap, subst, ◌∙◌, arith, eqb-true}
use Rattle.std.proofs.Common.{leb-true, length-set}
use Rattle.std.proofs.lemmas.Bool.{cases_eq, and_parts, not-true, false≢true, ltb-true}
use Rattle.std.proofs.lemmas.Option.{same_Some, slice_get_within}
use Rattle.std.specs.Prelude.{slice_get, slice_index, IfSome, unwrap_or}
use Rattle.std.specs.List.{list_any, list_all, range_with_len}
use Rattle.coll_kinds.specs.declared.signature.Signature.{Signature}
use Rattle.coll_kinds.specs.Common.{member_of, is_among, needs, put}
use Rattle.coll_kinds.proofs.Puts.{put_cases}
use Rattle.coll_machine.specs.Settings.{Setting, group}
use Rattle.coll_machine.proofs.Members.{member_at}
use Rattle.coll_parser.specs.declared.command.Command.{Command}
use Rattle.coll_parser.specs.declared.command.Command.TheVariants.{Post, Init, Start, Wait, Test, Free, WaitAny, WaitSome, WaitAll}
use Rattle.coll_parser.specs.Code.{rows_view}
use Rattle.coll_parser.specs.Histories.{History, commands_of}
use Rattle.coll_verdict.specs.declared.known.KnownRequest.{KnownRequest}
use Rattle.coll_verdict.specs.declared.stood.Stood.{Stood}
use Rattle.coll_verdict.specs.declared.library.Library.{Library}
use Rattle.coll_verdict.specs.declared.library.Library.TheVariants.{Any, Hears}
use Rattle.coll_verdict.specs.declared.library.HeardRows.{HeardRows}
use Rattle.coll_verdict.specs.Waiting.{Hearing, awaits}
use Rattle.coll_verdict.specs.Stalls.{lines_of, makes_in, made_by, HasCome, StallsNever}
use Rattle.coll_verdict.specs.Sketches.{Sketch, sketched_if, sketch_at}
use Rattle.coll_verdict.specs.Stands.{sketches}
use Rattle.coll_verdict.specs.Passes.{Rule, everyone, only, HasBegun, IsJoined, Awaits, AreJoined, IsFree, HasSure, AllCome, SomeFree, CanPass, Passes}
use Rattle.coll_verdict.specs.Passes as passes
use Rattle.coll_verdict.specs.Checking.{is_member, is_seat, has_seat, is_apart, apart_at, are_apart, has_begun, begun_in, begun_as, begun_on}
use Rattle.coll_verdict.specs.Checking.{rank_has_begun, peer_has_begun, member_has_begun, says, is_no, says_no, is_of, joined_told, joined_heard}
use Rattle.coll_verdict.specs.Checking.{joined_member, joined_by, all_have_begun, is_joined, init_returns, is_at, made_as, made_on, has_made}
use Rattle.coll_verdict.specs.Checking.{has_made_before, is_come, peer_is_come, are_come, all_come, is_free, is_sure, free_at, sure_at, can_pass}
use Rattle.coll_verdict.specs.Checking.{next_can_pass, is_at_beginning, is_at_end}
use Rattle.coll_verdict.specs.Code.{AreTrue, AreAllTrue, Follows, any, hears, NeverFor, CanCome, IsSketch, IsStood, AreStood, stand_in, stand_of}
use Rattle.coll_verdict.specs.Code.{IsAhead, Advances}
use Rattle.coll_verdict.proofs.Listed.{some_at, all_at, any_at, all_among, any_among, get_at, get_changed, get_none}
use Rattle.coll_verdict.proofs.Checked.{of_is, group_is, lines_at, stood_at, said_at, sketched_at}
use Rattle.coll_verdict.proofs.Placing.{lt_at, sketch_placed, posted_is}
use Rattle.coll_verdict.proofs.Passing.{passes_dont_stall, passes_dont_stall_by}

-- ---- lists

all_range : (f : ℕ → Bool) (a n i : ℕ) → list_all f (range_with_len a n) ≡ true → a ≤ i → i < a + n → f i ≡ true
all_range f a zero i e low high = absurd (omega arith)
all_range f a (suc n) i e low high = go (λ l h. all_range f (a + 1) n i (and_parts (f a) (list_all f (range_with_len (a + 1) n)) e).1 l h) (cases_eq i a)
  where
    go : (a + 1 ≤ i → i < (a + 1) + n → f i ≡ true) → (i ≡ a) ⊎ (i ≡ a → ⊥) → f i ≡ true
    go rest (inl x) = ap f x ∙ (and_parts (f a) (list_all f (range_with_len (a + 1) n)) e).0
    go rest (inr d) = rest (omega arith) (omega arith)

get_set : {X : Type 0} (xs : List X) (q : ℕ) (y : X) → q < length xs → slice_get (set xs q y) q ≡ Some y
get_set [] q y low = absurd (omega arith)
get_set (x ∷ xs) zero y low = refl
get_set (x ∷ xs) (suc q) y low = let less : q < length xs = omega arith in get_set xs q y less

get_other : {X : Type 0} (xs : List X) (q : ℕ) (y : X) (i : ℕ) → (i ≡ q → ⊥) → slice_get (set xs q y) i ≡ slice_get xs i
get_other [] q y i d = refl
get_other (x ∷ xs) zero y zero d = absurd (d refl)
get_other (x ∷ xs) zero y (suc i) d = refl
get_other (x ∷ xs) (suc q) y zero d = refl
get_other (x ∷ xs) (suc q) y (suc i) d = get_other xs q y i (λ e. d (ap suc e))

member_so : (i : ℕ) (o : Option ℕ) → is_member i o ≡ true → o ≡ Some i
member_so i None e = absurd (false≢true e)
member_so i (Some m) e = ap Some (eqb-true m i e)

le_at : (a b c d : ℕ) → a ≡ b → b ≤ c → c ≡ d → a ≤ d
le_at a b c d x l y = omega arith

lt_length : (i n m : ℕ) → i < n → n ≡ m → i < 0 + m
lt_length i n m l e = omega arith

nothing_below : (i : ℕ) → 0 ≤ i
nothing_below i = omega arith

some_index : (xs : List ℕ) (i : ℕ) → i < length xs → slice_get xs i ≡ Some (slice_index xs i)
some_index [] i low = absurd (omega arith)
some_index (x ∷ xs) zero low = refl
some_index (x ∷ xs) (suc i) low = let less : i < length xs = omega arith in some_index xs i less

lt_more : (p m x : ℕ) → p < m → p < m + x
lt_more p m x low = omega arith

-- where all before it have been made, and one is made next
lt_next : (p m : ℕ) (c : Bool) → p ≤ m → c ≡ true → p < m + cond c 1 0
lt_next p m true low is = omega arith
lt_next p m false low is = absurd (false≢true is)

zero_low : (p m : ℕ) → p ≡ 0 → p ≤ m
zero_low p m e = omega arith

pred_low : (p m : ℕ) → p - 1 < m → p ≤ m
pred_low p m low = omega arith

-- the member of that number is no earlier one
seated : (groups : List (Vec ℕ Global)) (comm : ℕ) (v : Vec ℕ Global) → are_apart groups ≡ true → slice_get groups comm ≡ Some v
    → (i peer : ℕ) → slice_get v.items i ≡ Some peer → member_of peer v.items ≡ Some i
seated groups comm v apart some i peer at =
    let here : apart_at groups comm ≡ true =
    all_range (apart_at groups) 0 (length groups) comm apart (nothing_below comm)
    (lt_length comm (length groups) (length groups) (slice_get_within groups comm v some) refl) in
    let seats : list_all (has_seat v.items) (range_with_len 0 (length v.items)) ≡ true = sym (ap is_apart some) ∙ here in
    let seat : has_seat v.items i ≡ true =
    all_range (has_seat v.items) 0 (length v.items) i seats (nothing_below i)
    (lt_length i (length v.items) (length v.items) (slice_get_within v.items i peer at) refl) in
    member_so i (member_of peer v.items) (sym (ap (is_seat v.items i) at) ∙ seat)

-- ---- what the tests found

-- a request that was started so often
abbrev AnyBegun : KnownRequest → List KnownRequest → Type 0
AnyBegun own xs = (q : ℕ) × (x : KnownRequest) × (slice_get xs q ≡ Some x) × (has_begun own.comm own.place own.starts x ≡ true)

find_begun : (own : KnownRequest) (xs : List KnownRequest) (o : Option (Vec ℕ Global)) → begun_on own xs o ≡ true → AnyBegun own xs
find_begun own xs None e = absurd (false≢true e)
find_begun own xs (Some numbers) e = numbered (slice_get numbers.items own.place) e
  where
    there : (q : ℕ) (o : Option KnownRequest) → slice_get xs q ≡ o → begun_in own o ≡ true → AnyBegun own xs
    there q None at e = absurd (false≢true e)
    there q (Some x) at e = (q, x, at, e)

    numbered : (o : Option ℕ) → begun_as own xs o ≡ true → AnyBegun own xs
    numbered None e = absurd (false≢true e)
    numbered (Some q) e = there q (slice_get xs q) refl e

module _ (h : History) (xs : List Stood) (groups : List (Vec ℕ Global)) (s : AreStood h xs) where
  abbrev said : ℕ → Sketch
  said = sketches (lines_of h) (stand_of xs)

  module _ (rule : Rule) (library : Library) (follows : Follows rule library) (g : Setting)
      (same_groups : g.groups ≡ rows_view groups) (apart : are_apart groups ≡ true) where
    begun_so : (rank : ℕ) (x : Stood) (q : ℕ) (own : KnownRequest) → slice_get xs rank ≡ Some x
        → slice_get x.requests.items q ≡ Some own → (peer : ℕ) (o : Option Stood) → slice_get xs peer ≡ o → rank_has_begun own o ≡ true
        → HasBegun (said peer) ((said rank).comm q) ((said rank).place q) ((said rank).starts q)
    begun_so rank x q own some at peer None there e = absurd (false≢true e)
    begun_so rank x q own some at peer (Some y) there e =
        let t = sketched_at h xs groups s rank x q own some at in
        let f = find_begun own y.requests.items (slice_get y.numbers.items own.comm) e in
        let z = sketched_at h xs groups s peer y f.0 f.1 there f.2 in
        let parts = and_parts ((eqb f.1.comm own.comm) && (eqb f.1.place own.place)) (leb own.starts f.1.starts) f.3 in
        let places = and_parts (eqb f.1.comm own.comm) (eqb f.1.place own.place) parts.0 in
        record {
          p = f.0;
          low = subst (λ n. f.0 < n) (said_at h xs groups s peer y there).made (slice_get_within y.requests.items f.0 f.1 f.2);
          comm_is = z.comm ∙ (eqb-true f.1.comm own.comm places.0 ∙ sym t.comm);
          place_is = z.place ∙ (eqb-true f.1.place own.place places.1 ∙ sym t.place);
          begun = le_at ((said rank).starts q) own.starts f.1.starts ((said peer).starts f.0) t.starts (leb-true own.starts f.1.starts parts.1) (sym z.starts);
        }

    -- one that has come to the request's start is a member
    one_joined : (rank : ℕ) (x : Stood) (q : ℕ) (own : KnownRequest) → slice_get xs rank ≡ Some x
        → slice_get x.requests.items q ≡ Some own → (v : Vec ℕ Global) → slice_get groups own.comm ≡ Some v
        → (i : ℕ) → i < length v.items → member_has_begun xs own (slice_get v.items i) ≡ true → IsJoined g said rank q i
    one_joined rank x q own some at v there i low e =
        let t = sketched_at h xs groups s rank x q own some at in
        let here : group g ((said rank).comm q) ≡ v.items = ap (group g) t.comm ∙ group_is g groups own.comm v same_groups there in
        let is : slice_get v.items i ≡ Some (get_or v.items i 0) = get_at v.items i 0 low in
        let come : peer_has_begun xs own (get_or v.items i 0) ≡ true = ap (member_has_begun xs own) (sym is) ∙ e in
        record {
          peer = get_or v.items i 0;
          member_is = ap (member_of (get_or v.items i 0)) here ∙ seated groups own.comm v apart there i (get_or v.items i 0) is;
          begun = begun_so rank x q own some at (get_or v.items i 0) (slice_get xs (get_or v.items i 0)) refl come;
        }

    -- a table that says no of a member on whom the request waits isn't true
    not_awaited : (table : HeardRows) → AreTrue rule.hears table → (sig : Signature) (n member i : ℕ)
        → (table.sig ≡ sig) × (length table.rows.items ≡ n) → member < n → i < n → awaits rule.hears sig n member i ≡ true → says_no table member i ≡ true → ⊥
    not_awaited table true_is sig n member i of low_member low awaited said = false≢true (sym said_no ∙ hears_it)
      where
        is_no_so : (o : Option Bool) → is_no o ≡ true → o ≡ Some false
        is_no_so None e = absurd (false≢true e)
        is_no_so (Some b) e = ap Some (not-true b e)

        said_no : rule.hears table.sig (length table.rows.items) member i ≡ false
        said_no = true_is.said member i false (subst (λ (n : ℕ). i < n) (sym of.1) low) (is_no_so (says table member i) said)

        there : (b : Bool) → needs sig n member i ≡ b → (b || rule.hears sig n member i) ≡ true → rule.hears table.sig (length table.rows.items) member i ≡ true
        there true need e = true_is.needed member i (subst (λ (n : ℕ). member < n) (sym of.1) low_member) ((λ z. needs (of.0 z) (of.1 z) member i) ∙ need)
        there false need e = (λ z. rule.hears (of.0 z) (of.1 z) member i) ∙ e

        hears_it : rule.hears table.sig (length table.rows.items) member i ≡ true
        hears_it = there (needs sig n member i) refl awaited

    told_so : (rank : ℕ) (x : Stood) (q : ℕ) (own : KnownRequest) → slice_get xs rank ≡ Some x
        → slice_get x.requests.items q ≡ Some own → (v : Vec ℕ Global) → slice_get groups own.comm ≡ Some v
        → (tables : List HeardRows) → AreAllTrue rule.hears tables → (o : Option ℕ) → member_of rank v.items ≡ o
        → joined_member tables xs v.items own o ≡ true → AreJoined rule.hears g said rank q
    told_so rank x q own some at v there tables true_are None own_is e = absurd (false≢true e)
    told_so rank x q own some at v there tables true_are (Some member) own_is e = λ i low awaited.
        let t = sketched_at h xs groups s rank x q own some at in
        let here : group g ((said rank).comm q) ≡ v.items = ap (group g) t.comm ∙ group_is g groups own.comm v same_groups there in
        let seat : member_of rank (group g ((said rank).comm q)) ≡ Some member = ap (member_of rank) here ∙ own_is in
        let within : i < length v.items = subst (λ n. i < n) (ap length here) low in
        let own_low : member < length v.items = subst (λ n. member < n) (ap length here) (member_at g ((said rank).comm q) rank member seat).0 in
        let found = any_at (joined_heard xs v.items own member) tables e in
        let parts = and_parts (is_of own.sig (length v.items) found.1)
        (list_all (joined_told xs v.items own member found.1) (range_with_len 0 (length v.items))) found.3 in
        let told : joined_told xs v.items own member found.1 i ≡ true =
        all_range (joined_told xs v.items own member found.1) 0 (length v.items) i parts.1 (nothing_below i)
        (lt_length i (length v.items) (length v.items) within refl) in
        let true_is : AreTrue rule.hears found.1 = some_at (AreTrue rule.hears) (slice_get tables found.0) found.1 (true_are found.0) found.2 in
        let waited : awaits rule.hears own.sig (length v.items) member i ≡ true =
        ap (λ (ys : List ℕ). awaits rule.hears own.sig (length ys) member i) (sym here) ∙ awaited own.sig member t.sig seat in
        one_joined rank x q own some at v there i within
        (otherwise (says_no found.1 member i) (member_has_begun xs own (slice_get v.items i)) told
        (not_awaited found.1 true_is own.sig (length v.items) member i (of_is own.sig (length v.items) found.1 parts.0) own_low within waited))
      where
        otherwise : (a b : Bool) → (a || b) ≡ true → (a ≡ true → ⊥) → b ≡ true
        otherwise true b e other = absurd (other refl)
        otherwise false b e other = e

    joined_so : (rank : ℕ) (x : Stood) (q : ℕ) (own : KnownRequest) → slice_get xs rank ≡ Some x
        → slice_get x.requests.items q ≡ Some own → (o : Option (Vec ℕ Global)) → slice_get groups own.comm ≡ o → all_have_begun library xs rank own o ≡ true
        → AreJoined rule.hears g said rank q
    joined_so rank x q own some at None there e = absurd (false≢true e)
    joined_so rank x q own some at (Some v) there e = go library follows e
      where
        here : group g ((said rank).comm q) ≡ v.items
        here = ap (group g) (sketched_at h xs groups s rank x q own some at).comm ∙ group_is g groups own.comm v same_groups there

        all : list_all (peer_has_begun xs own) v.items ≡ true → (i : ℕ) → i < length v.items → IsJoined g said rank q i
        all e i low =
            let is : slice_get v.items i ≡ Some (get_or v.items i 0) = get_at v.items i 0 low in
            one_joined rank x q own some at v there i low (ap (member_has_begun xs own) is ∙ all_at (peer_has_begun xs own) v.items i (get_or v.items i 0) e is)

        go : (library : Library) → Follows rule library → joined_by library xs v.items rank own ≡ true → AreJoined rule.hears g said rank q
        go _ any e = λ i low awaited. all e i (subst (λ n. i < n) (ap length here) low)
        go _ (hears tables holds true_are) e = told_so rank x q own some at v there tables.items true_are (member_of rank v.items) refl e

    free_so : (rank : ℕ) (x : Stood) (q : ℕ) → slice_get xs rank ≡ Some x → free_at library xs groups x q ≡ true → IsFree rule.hears g said rank q
    free_so rank x q some e = go (slice_get x.requests.items q) refl e
      where
        own_rank : (own : KnownRequest) → is_joined library xs groups x.rank own ≡ true → is_joined library xs groups rank own ≡ true
        own_rank own e = ap (λ (r : ℕ). is_joined library xs groups r own) (sym (stood_at h xs groups s rank x some).rank_is) ∙ e

        either : (own : KnownRequest) → slice_get x.requests.items q ≡ Some own → (b c : Bool) → eqb own.starts 0 ≡ b
            → own.is_rested ≡ c → (b || c || is_joined library xs groups x.rank own) ≡ true → IsFree rule.hears g said rank q
        either own at true c is rests e = inl (inl ((sketched_at h xs groups s rank x q own some at).starts ∙ eqb-true own.starts 0 is))
        either own at false true is rests e = inl (inr ((sketched_at h xs groups s rank x q own some at).rested ∙ rests))
        either own at false false is rests e = inr (joined_so rank x q own some at (slice_get groups own.comm) refl (own_rank own e))

        go : (o : Option KnownRequest) → slice_get x.requests.items q ≡ o → is_free library xs groups x.rank o ≡ true → IsFree rule.hears g said rank q
        go None at e = absurd (false≢true e)
        go (Some own) at e = either own at (eqb own.starts 0) own.is_rested refl refl e

    all_so : (rank : ℕ) (x : Stood) (qs : List ℕ) → slice_get xs rank ≡ Some x → list_all (free_at library xs groups x) qs ≡ true
        → (q : ℕ) → is_among q qs ≡ true → IsFree rule.hears g said rank q
    all_so rank x qs some e q among = free_so rank x q some (all_among (free_at library xs groups x) qs e q among)

    sure_so : (rank : ℕ) (x : Stood) (qs : List ℕ) (q : ℕ) → slice_get xs rank ≡ Some x → is_among q qs ≡ true
        → sure_at library xs groups x q ≡ true → HasSure rule.hears g said rank qs
    sure_so rank x qs q some among e = go (slice_get x.requests.items q) refl e
      where
        go : (o : Option KnownRequest) → slice_get x.requests.items q ≡ o → is_sure library xs groups x.rank o ≡ true → HasSure rule.hears g said rank qs
        go None at e = absurd (false≢true e)
        go (Some own) at e =
            let t = sketched_at h xs groups s rank x q own some at in
            let parts = and_parts (ltb 0 own.starts && not own.is_named) (is_joined library xs groups x.rank own) e in
            let active = and_parts (ltb 0 own.starts) (not own.is_named) parts.0 in
            record {
              q = q;
              among = among;
              sure = record { begun = subst (λ n. 0 < n) (sym t.starts) (ltb-true 0 own.starts active.0); unnamed = t.named ∙ not-true own.is_named active.1 };
              joined = joined_so rank x q own some at (slice_get groups own.comm) refl
                  (ap (λ (r : ℕ). is_joined library xs groups r own) (sym (stood_at h xs groups s rank x some).rank_is) ∙ parts.1);
            }

    some_so : (rank : ℕ) (x : Stood) (qs : List ℕ) → slice_get xs rank ≡ Some x
        → (list_all (free_at library xs groups x) qs || list_any (sure_at library xs groups x) qs) ≡ true → SomeFree rule.hears g said rank qs
    some_so rank x qs some e = go (list_all (free_at library xs groups x) qs) refl e
      where
        go : (b : Bool) → list_all (free_at library xs groups x) qs ≡ b → (b || list_any (sure_at library xs groups x) qs) ≡ true
            → SomeFree rule.hears g said rank qs
        go true is e = inl (all_so rank x qs some is)
        go false is e = let one = any_among (sure_at library xs groups x) qs e in inr (sure_so rank x qs one.0 some one.1 one.2)

    -- members that have come

    line_at : (rank : ℕ) (x : Stood) → slice_get xs rank ≡ Some x → slice_get x.commands.items x.stand ≡ slice_get (lines_of h rank) (stand_of xs rank)
    line_at rank x some = λ z. slice_get (((stood_at h xs groups s rank x some).commands ∙ sym (lines_at h xs groups s rank x some)) z) (stand_in (sym some z))

    made_at : (rank : ℕ) (x : Stood) (comm : ℕ) → slice_get xs rank ≡ Some x
        → count_by (λ y. eqb y.comm comm) x.requests.items ≡ made_by comm (lines_of h rank) (stand_of xs rank)
    made_at rank x comm some = (said_at h xs groups s rank x some).posted comm ∙ posted_is comm (lines_of h rank) (stand_of xs rank)

    made_so : (comm place peer : ℕ) (y : Stood) → slice_get xs peer ≡ Some y → has_made comm place y ≡ true
        → place < made_by comm (lines_of h peer) (stand_of xs peer)
    made_so comm place peer y at e = listed (slice_get y.numbers.items comm) e
      where
        found : (q : ℕ) (o : Option KnownRequest) → slice_get y.requests.items q ≡ o → is_at comm place o ≡ true
            → place < made_by comm (lines_of h peer) (stand_of xs peer)
        found q None there is = absurd (false≢true is)
        found q (Some x) there is =
            let z = sketched_at h xs groups s peer y q x at there in
            let parts = and_parts (eqb x.comm comm) (eqb x.place place) is in
            let low : q < (said peer).made = subst (λ n. q < n) (said_at h xs groups s peer y at).made (slice_get_within y.requests.items q x there) in
            lt_at place (made_by comm (lines_of h peer) (stand_of xs peer)) ((said peer).place q) ((said peer).posted ((said peer).comm q))
            (sym (z.place ∙ eqb-true x.place place parts.1))
            (sym (posted_is comm (lines_of h peer) (stand_of xs peer)) ∙ ap (said peer).posted (sym (z.comm ∙ eqb-true x.comm comm parts.0)))
            ((sketch_placed (lines_of h peer) (stand_of xs peer)).low q low)

        numbered : (o : Option ℕ) → made_as comm place y.requests.items o ≡ true → place < made_by comm (lines_of h peer) (stand_of xs peer)
        numbered None is = absurd (false≢true is)
        numbered (Some q) is = found q (slice_get y.requests.items q) refl is

        listed : (o : Option (Vec ℕ Global)) → made_on comm place y.requests.items o ≡ true → place < made_by comm (lines_of h peer) (stand_of xs peer)
        listed None is = absurd (false≢true is)
        listed (Some numbers) is = numbered (slice_get numbers.items place) is

    before_so : (comm place peer : ℕ) (y : Stood) → slice_get xs peer ≡ Some y → has_made_before comm place y ≡ true
        → place ≤ made_by comm (lines_of h peer) (stand_of xs peer)
    before_so comm place peer y at e = go (eqb place 0) refl e
      where
        go : (b : Bool) → eqb place 0 ≡ b → (b || has_made comm (place - 1) y) ≡ true → place ≤ made_by comm (lines_of h peer) (stand_of xs peer)
        go true is e = zero_low place (made_by comm (lines_of h peer) (stand_of xs peer)) (eqb-true place 0 is)
        go false is e = pred_low place (made_by comm (lines_of h peer) (stand_of xs peer)) (made_so comm (place - 1) peer y at e)

    come_so : (comm place peer : ℕ) (o : Option Stood) → slice_get xs peer ≡ o → is_come comm place o ≡ true
        → HasCome (lines_of h) (stand_of xs) peer comm place
    come_so comm place peer None at e = absurd (false≢true e)
    come_so comm place peer (Some y) at e = go (has_made comm place y) refl e
      where
        go : (b : Bool) → has_made comm place y ≡ b
            → (b || (makes_in comm (slice_get y.commands.items y.stand) && has_made_before comm place y)) ≡ true
            → HasCome (lines_of h) (stand_of xs) peer comm place
        go true is e =
            lt_more place (made_by comm (lines_of h peer) (stand_of xs peer))
            (cond (makes_in comm (slice_get (lines_of h peer) (stand_of xs peer))) 1 0) (made_so comm place peer y at is)
        go false is e =
            let parts = and_parts (makes_in comm (slice_get y.commands.items y.stand)) (has_made_before comm place y) e in
            lt_next place (made_by comm (lines_of h peer) (stand_of xs peer)) (makes_in comm (slice_get (lines_of h peer) (stand_of xs peer)))
            (before_so comm place peer y at parts.1) (sym (ap (makes_in comm) (line_at peer y at)) ∙ parts.0)

    all_come_so : (rank : ℕ) (x : Stood) (comm : ℕ) → slice_get xs rank ≡ Some x → all_come xs groups x comm ≡ true
        → AllCome g (lines_of h) (stand_of xs) rank comm
    all_come_so rank x comm some e = go (slice_get groups comm) refl e
      where
        go : (o : Option (Vec ℕ Global)) → slice_get groups comm ≡ o
            → are_come xs comm (count_by (λ y. eqb y.comm comm) x.requests.items) o ≡ true → AllCome g (lines_of h) (stand_of xs) rank comm
        go None at e = absurd (false≢true e)
        go (Some v) at e = λ peer member is.
            let here : group g comm ≡ v.items = group_is g groups comm v same_groups at in
            let m = member_at g comm peer member is in
            let low : member < length v.items = subst (λ n. member < n) (ap length here) m.0 in
            let value : slice_index v.items member ≡ peer = ap (λ (ys : List ℕ). slice_index ys member) (sym here) ∙ m.1 in
            let come : peer_is_come xs comm (count_by (λ y. eqb y.comm comm) x.requests.items) peer ≡ true =
            all_at (peer_is_come xs comm (count_by (λ y. eqb y.comm comm) x.requests.items)) v.items member peer e
            (some_index v.items member low ∙ ap Some value) in
            subst (λ (place : ℕ). HasCome (lines_of h) (stand_of xs) peer comm place) (made_at rank x comm some)
            (come_so comm (count_by (λ y. eqb y.comm comm) x.requests.items) peer (slice_get xs peer) refl come)

    one_of : (b : Bool) → b ≡ true → (b && true) ≡ true
    one_of true e = refl
    one_of false e = e

    can_so : (rank : ℕ) (x : Stood) (c : Command) → slice_get xs rank ≡ Some x → can_pass library xs groups x c ≡ true
        → CanPass rule g (lines_of h) (stand_of xs) rank c
    can_so rank x (Post comm sig given) some e = tt
    can_so rank x (Init comm sig) some e = go library follows e
      where
        go : (library : Library) → Follows rule library → init_returns library xs groups x comm ≡ true → rule.holds ≡ true
            → AllCome g (lines_of h) (stand_of xs) rank comm
        go _ any e holds = all_come_so rank x comm some e
        go _ (hears tables returns true_are) e holds = absurd (false≢true (sym returns ∙ holds))
    can_so rank x (Start q given) some e = tt
    can_so rank x (Wait q) some e = all_so rank x (q ∷ []) some (one_of (free_at library xs groups x q) e)
    can_so rank x (Test q) some e = tt
    can_so rank x (Free q) some e = tt
    can_so rank x (WaitAny qs) some e = some_so rank x qs some e
    can_so rank x (WaitSome qs) some e = some_so rank x qs some e
    can_so rank x (WaitAll qs) some e = all_so rank x qs some e

-- ---- one command more

module _ (library : Library) (h : History) (xs : List Stood) (groups : List (Vec ℕ Global)) (s : AreStood h xs)
    (same : rows_view groups ≡ h.groups) (apart : are_apart groups ≡ true) (rank : ℕ) (x y : Stood)
    (some : slice_get xs rank ≡ Some x) (ahead : IsAhead x y) where
  moved : IsStood h rank y
  moved =
      let st = stood_at h xs groups s rank x some in
      let next = ahead.sketched (sketch_at (commands_of h rank) x.stand) st.sketched in
      let there : sketched_if (slice_get x.commands.items x.stand) (sketch_at (commands_of h rank) x.stand) ≡ sketch_at (commands_of h rank) (suc x.stand) =
      ap (λ (cs : List Command). sketched_if (slice_get cs x.stand) (sketch_at (commands_of h rank) x.stand)) st.commands in
      record {
        rank_is = ahead.rank_is ∙ st.rank_is;
        commands = ahead.commands ∙ st.commands;
        sketched = subst (λ (n : ℕ). IsSketch y.requests.items (sketch_at (commands_of h rank) n)) (sym ahead.stand)
            (subst (IsSketch y.requests.items) there next);
      }

  all_moved : AreStood h (set xs rank y)
  all_moved = record { ranks = length-set xs rank y ∙ s.ranks; each = λ r. each r (slice_get (set xs rank y) r) refl }
    where
      each : (r : ℕ) (o : Option Stood) → slice_get (set xs rank y) r ≡ o → IfSome o (IsStood h r)
      each r None e = tt
      each r (Some z) e = go (get_changed xs rank y r z e)
        where
          go : ((r ≡ rank) × (y ≡ z)) ⊎ ((r ≡ rank → ⊥) × (slice_get xs r ≡ Some z)) → IsStood h r z
          go (inl a) = subst (IsStood h r) a.1 (subst (λ (r : ℕ). IsStood h r y) (sym a.0) moved)
          go (inr a) = stood_at h xs groups s r z a.1

  stands_are : put (stand_of xs) rank (suc (stand_of xs rank)) ≡ stand_of (set xs rank y)
  stands_are = λ z r. each r (put_cases (stand_of xs) rank (suc (stand_of xs rank)) r) z
    where
      own : stand_of (set xs rank y) rank ≡ suc (stand_of xs rank)
      own = ap stand_in (get_set xs rank y (slice_get_within xs rank x some)) ∙ (ahead.stand ∙ ap (λ (o : Option Stood). suc (stand_in o)) (sym some))

      each : (r : ℕ) → ((r ≡ rank) × (put (stand_of xs) rank (suc (stand_of xs rank)) r ≡ suc (stand_of xs rank)))
          ⊎ ((r ≡ rank → ⊥) × (put (stand_of xs) rank (suc (stand_of xs rank)) r ≡ stand_of xs r))
          → put (stand_of xs) rank (suc (stand_of xs rank)) r ≡ stand_of (set xs rank y) r
      each r (inl a) = a.1 ∙ (sym own ∙ ap (stand_of (set xs rank y)) (sym a.0))
      each r (inr a) = a.1 ∙ sym (ap stand_in (get_other xs rank y r a.0))

  advanced : next_can_pass library xs groups x (slice_get x.commands.items x.stand) ≡ true → Advances library h xs (set xs rank y)
  advanced can =
      record {
        stood = all_moved;
        passes =
            λ passed rule follows g e. go rule follows g e (passed rule follows g e) (slice_get x.commands.items x.stand) refl can;
      }
    where
      go : (rule : Rule) → Follows rule library → (g : Setting) → g.groups ≡ h.groups → Passes rule g (lines_of h) (stand_of xs)
          → (o : Option Command) → slice_get x.commands.items x.stand ≡ o → next_can_pass library xs groups x o ≡ true
          → Passes rule g (lines_of h) (stand_of (set xs rank y))
      go rule follows g e passed None at can = absurd (false≢true can)
      go rule follows g e passed (Some c) at can =
          let line = line_at h xs groups s rule library follows g (e ∙ sym same) apart rank x some in
          subst (Passes rule g (lines_of h)) stands_are
          (passes.one_more rank c passed (sym line ∙ at) (can_so h xs groups s rule library follows g (e ∙ sym same) apart rank x c some can))

pub advances : (library : Library) (h : History) (xs : List Stood) (groups : List (Vec ℕ Global)) (rank : ℕ) (x y : Stood)
    → slice_get xs rank ≡ Some x → IsAhead x y → next_can_pass library xs groups x (slice_get x.commands.items x.stand) ≡ true
    → AreStood h xs → rows_view groups ≡ h.groups → are_apart groups ≡ true → Advances library h xs (set xs rank y)
advances library h xs groups rank x y some ahead can s same apart = advanced library h xs groups s same apart rank x y some ahead can

-- ---- from the beginning to the end

pub has_begun_so : (rule : Rule) (h : History) (xs : List Stood) → list_all is_at_beginning xs ≡ true → (g : Setting) → Passes rule g (lines_of h) (stand_of xs)
has_begun_so rule h xs e g = subst (Passes rule g (lines_of h)) (λ z r. sym (each r (slice_get xs r) refl) z) passes.none
  where
    each : (r : ℕ) (o : Option Stood) → slice_get xs r ≡ o → stand_in o ≡ 0
    each r None is = refl
    each r (Some x) is = eqb-true x.stand 0 (all_at is_at_beginning xs r x e is)

module _ (h : History) (xs : List Stood) (groups : List (Vec ℕ Global)) (s : AreStood h xs) (e : list_all is_at_end xs ≡ true) where
  none : (r : ℕ) → slice_get xs r ≡ None → (b : Bool) → ltb r (unwrap_or h.ranks 0) ≡ b → length (cond b (commands_of h r) []) ≡ 0
  none r is true low = absurd (get_none xs r (subst (λ n. r < n) (sym s.ranks) (ltb-true r (unwrap_or h.ranks 0) low)) is)
  none r is false low = refl

  each : (r : ℕ) (o : Option Stood) → slice_get xs r ≡ o → stand_of xs r ≡ length (lines_of h r)
  each r None is = ap stand_in is ∙ sym (none r is (ltb r (unwrap_or h.ranks 0)) refl)
  each r (Some x) is =
      ap stand_in is ∙ (eqb-true x.stand (length x.commands.items) (all_at is_at_end xs r x e is)
      ∙ ap length ((stood_at h xs groups s r x is).commands ∙ sym (lines_at h xs groups s r x is)))

pub has_ended_so : (library : Library) (h : History) (xs : List Stood) (groups : List (Vec ℕ Global)) → AreStood h xs
    → CanCome library h xs → list_all is_at_end xs ≡ true → NeverFor library h
has_ended_so Any h xs groups s passed e =
    λ g same. passes_dont_stall g (lines_of h) (stand_of xs) (passed everyone any g same) (λ r. each h xs groups s e r (slice_get xs r) refl)
has_ended_so (Hears tables) h xs groups s passed e =
    λ hearing are g same. passes_dont_stall_by hearing g (lines_of h) (stand_of xs)
    (passed (only hearing) (hears tables refl are) g same) (λ r. each h xs groups s e r (slice_get xs r) refl)

-- as `advances`, of the rank as it was read twice
pub passed_on : (library : Library) (h : History) (xs ys : List Stood) (groups : List (Vec ℕ Global)) (rank : ℕ) (x z y : Stood)
    → rank < length xs → x ≡ get_or xs rank x → z ≡ get_or xs rank z → ys ≡ xs → IsAhead x y
    → next_can_pass library ys groups z (slice_get z.commands.items z.stand) ≡ true → AreStood h xs → rows_view groups ≡ h.groups
    → are_apart groups ≡ true → Advances library h xs (set xs rank y)
passed_on library h xs ys groups rank x z y low is also lists ahead can s same apart =
    let some : slice_get xs rank ≡ Some x = get_at xs rank x low ∙ ap Some (sym is) in
    let again : slice_get xs rank ≡ Some z = get_at xs rank z low ∙ ap Some (sym also) in
    let one : z ≡ x = same_Some z x (sym again ∙ some) in
    let now : next_can_pass library ys groups z (slice_get z.commands.items z.stand) ≡ next_can_pass library xs groups x (slice_get x.commands.items x.stand) =
    λ t. next_can_pass library (lists t) groups (one t) (slice_get (one t).commands.items (one t).stand) in
    advances library h xs groups rank x y some ahead (sym now ∙ can) s same apart
