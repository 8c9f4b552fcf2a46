-- Each request of a rank stands at the place that those before it leave.
use Rattle.std.proofs.Common.{◌≡◌, ◌≢◌, ℕ, zero, suc, ◌+◌, ◌≤◌, cond, eqb, List, [], ◌∷◌, ◌++◌, map, take, Some, refl, sym, ap, subst, ◌∙◌, append_assoc, arith}
use Rattle.std.specs.Prelude.{fold, filter, slice_get}
use Rattle.std.specs.Option.{option_map}
use Rattle.std.proofs.lemmas.Bool.{eq-eqb, ne_eqb}
use Rattle.std.proofs.lemmas.List.{append-nil, length-take, map-append, take-map}
use Rattle.std.proofs.lemmas.List.Sums.{count_by-le-length, count_by_more_no, count_by_more_yes}
use Rattle.std.proofs.lemmas.Option.{get_or_from_slice_get, same_Some, slice_get-map, slice_get_within}
use Rattle.coll_parser.specs.declared.command.Command.{Command}
use Rattle.coll_parser.specs.declared.command.Command.TheVariants.{Post, Init, Start, Wait, Test, Free, WaitAny, WaitSome, WaitAll}
use Rattle.coll_parser.specs.declared.issued_command.IssuedCommand.{IssuedCommand}
use Rattle.coll_parser.specs.Requests.{Request, place_on, request, started, changed_at, requests_after, requests_of}
use Rattle.coll_parser.specs.Code.{spot, places_left, ArePlaced, ArePlacedAfter}

-- as many on a communicator, whether they are seen as requests or as spots
left-from : (comm n : ℕ) (ps : List Request) → fold (λ a s. a + cond (eqb s.0 comm) 1 0) n (map spot ps) ≡ fold (λ a p. a + cond (eqb p.comm comm) 1 0) n ps
left-from comm n [] = refl
left-from comm n (p ∷ ps) = left-from comm (n + cond (eqb p.comm comm) 1 0) ps

pub places_left-spots : (comm : ℕ) (ps : List Request) → places_left comm (map spot ps) ≡ place_on comm ps
places_left-spots comm ps = left-from comm 0 ps

after-push : (before spots : List (ℕ × ℕ)) (s : ℕ × ℕ) → ArePlacedAfter before spots → s.1 ≡ places_left s.0 (before ++ spots)
    → ArePlacedAfter before (spots ++ s ∷ [])
after-push before [] s are is = (is ∙ ap (places_left s.0) (append-nil before), tt)
after-push before (t ∷ spots) s are is =
    (are.0, after-push (before ++ t ∷ []) spots s are.1 (is ∙ ap (places_left s.0) (sym (append_assoc before (t ∷ []) spots))))

pub after-at : (before spots : List (ℕ × ℕ)) (k : ℕ) (s : ℕ × ℕ) → slice_get spots k ≡ Some s → ArePlacedAfter before spots
    → s.1 ≡ places_left s.0 (before ++ take k spots)
after-at before [] k s e are = absurd cc
after-at before (t ∷ spots) zero s e are =
    subst (λ (u : ℕ × ℕ). u.1 ≡ places_left u.0 (before ++ [])) (same_Some t s e) (are.0 ∙ ap (places_left t.0) (sym (append-nil before)))
after-at before (t ∷ spots) (suc k) s e are = after-at (before ++ t ∷ []) spots k s e are.1 ∙ ap (places_left s.0) (append_assoc before (t ∷ []) (take k spots))

-- ---- what a look back finds

-- the place of a request is the number of those before it on its communicator
pub placed-at : (requests : List Request) (k : ℕ) (p : Request) → slice_get requests k ≡ Some p → ArePlaced requests
    → p.place ≡ place_on p.comm (take k requests)
placed-at requests k p at are =
    after-at [] (map spot requests) k (spot p) (slice_get-map spot requests k ∙ ap (option_map spot) at) are
    ∙ ap (places_left p.comm) (take-map spot k requests)
    ∙ places_left-spots p.comm (take k requests)

pub place-few : (requests : List Request) (k : ℕ) (p : Request) → slice_get requests k ≡ Some p → ArePlaced requests → p.place ≤ k
place-few requests k p at are =
    omega (arith, placed-at requests k p at are, count_by-le-length (λ q. eqb q.comm p.comm) (take k requests), length-take k requests)

pub looks-past : (comm k : ℕ) (requests : List Request) (p : Request) → slice_get requests k ≡ Some p → p.comm ≢ comm
    → place_on comm (take (k + 1) requests) ≡ place_on comm (take k requests)
looks-past comm k requests p at other =
    count_by_more_no (λ q. eqb q.comm comm) requests k p (slice_get_within requests k p at)
    (ap (λ (q : Request). eqb q.comm comm) (get_or_from_slice_get requests k p p at) ∙ ne_eqb p.comm comm other)

pub looks-at : (comm k : ℕ) (requests : List Request) (p : Request) → slice_get requests k ≡ Some p → p.comm ≡ comm
    → ArePlaced requests → place_on comm (take (k + 1) requests) ≡ p.place + 1
looks-at comm k requests p at same are =
    count_by_more_yes (λ q. eqb q.comm comm) requests k p (slice_get_within requests k p at)
    (ap (λ (q : Request). eqb q.comm comm) (get_or_from_slice_get requests k p p at) ∙ eq-eqb p.comm comm same)
    ∙ ap (λ n. n + 1) (sym (placed-at requests k p at are ∙ ap (λ c. place_on c (take k requests)) same))

-- ---- all requests of a rank are placed

one-more : (requests : List Request) (p : Request) → p.place ≡ place_on p.comm requests → ArePlaced requests → ArePlaced (requests ++ p ∷ [])
one-more requests p is are =
    subst (ArePlacedAfter []) (sym (map-append spot requests (p ∷ [])))
    (after-push [] (map spot requests) (spot p) are (is ∙ sym (places_left-spots p.comm requests)))

spots-changed : (q line : ℕ) (given : List ℕ) (requests : List Request) → map spot (changed_at q (started line given) requests) ≡ map spot requests
spots-changed q line given [] = refl
spots-changed zero line given (p ∷ requests) = refl
spots-changed (suc q) line given (p ∷ requests) = ap (λ (spots : List (ℕ × ℕ)). spot p ∷ spots) (spots-changed q line given requests)

placed-after : (groups : List (List ℕ)) (line rank : ℕ) (c : Command) (requests : List Request) → ArePlaced requests
    → ArePlaced (requests_after groups line rank c requests)
placed-after groups line rank (Post comm sig given) requests are =
    one-more requests (started line given (request groups line rank comm (place_on comm requests) sig)) refl are
placed-after groups line rank (Init comm sig) requests are = one-more requests (request groups line rank comm (place_on comm requests) sig) refl are
placed-after groups line rank (Start q given) requests are = subst (ArePlacedAfter []) (sym (spots-changed q line given requests)) are
placed-after groups line rank (Wait q) requests are = are
placed-after groups line rank (Test q) requests are = are
placed-after groups line rank (Free q) requests are = are
placed-after groups line rank (WaitAny qs) requests are = are
placed-after groups line rank (WaitSome qs) requests are = are
placed-after groups line rank (WaitAll qs) requests are = are

placed-fold : (groups : List (List ℕ)) (issued : List IssuedCommand) (requests : List Request) → ArePlaced requests
    → ArePlaced (fold (λ rs t. requests_after groups t.line t.rank t.command rs) requests issued)
placed-fold groups [] requests are = are
placed-fold groups (t ∷ issued) requests are =
    placed-fold groups issued (requests_after groups t.line t.rank t.command requests) (placed-after groups t.line t.rank t.command requests are)

pub placed-of : (groups : List (List ℕ)) (rank : ℕ) (issued : List IssuedCommand) → ArePlaced (requests_of groups rank issued)
placed-of groups rank issued = placed-fold groups (filter (λ t. eqb t.rank rank) issued) [] tt
