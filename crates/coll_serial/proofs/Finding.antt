-- What stands at a position of a list of requests with their spans.
use Rattle.std.proofs.Common.{◌≡◌, ℕ, zero, suc, ◌+◌, ◌-◌, ◌<◌, ◌≤◌, ◌⊎◌, inl, inr, true, List, [], ◌∷◌, length, get_or, take, drop, Option, Some}
use Rattle.std.proofs.Common.{None, refl, sym, ap, subst, ◌∙◌, arith}
use Rattle.std.specs.Prelude.{option_map, position, slice_get, slice_set}
use Rattle.std.proofs.lemmas.Bool.{cases_eq}
use Rattle.std.proofs.lemmas.List.{drop-map, length-map, take_rest}
use Rattle.std.proofs.lemmas.List.Quantifiers.{position-Some}
use Rattle.std.proofs.lemmas.Option.{get_or_from_slice_get, same_Some, slice_get-get_or, slice_get-map, slice_get_within}
use Rattle.coll_kinds.specs.declared.refusal.Refusal.{Refusal}
use Rattle.coll_kinds.specs.declared.refusal.Refusal.TheVariants.{BadLength}
use Rattle.coll_kinds.specs.declared.ticket.Ticket.{Ticket}
use Rattle.coll_kinds.specs.Lengths.{got_len}
use Rattle.coll_machine.proofs.Accepted.{found_is}
use Rattle.coll_machine.specs.Common.{Setting, size, Machine}
use Rattle.coll_core.specs.declared.phase.Phase.TheVariants.{Done}
use Rattle.coll_core.specs.Cores.{Parts, seen, setting}
use Rattle.coll_core.specs.Phases.{phase_in}
use Rattle.coll_complete.specs.declared.survey.Survey.{Survey}
use Rattle.coll_complete.specs.Requests.{AreDistinct, is_done, list_refusal, refusal_at}
use Rattle.coll_complete.specs.Starting.{Begun, StartsAll, StartsAt}
use Rattle.coll_complete.proofs.Firsts.{first_of-map}
use Rattle.coll_complete.proofs.Surveys.{Surveyed, surveyed_done}
use Rattle.coll_serial.specs.declared.part.Part.{Part}
use Rattle.coll_serial.specs.Calls.{DeniesStart, DeniesTest, IsShortAt}
use Rattle.coll_serial.specs.Lengths.{AreMeasured, IsOutcomeLengthAt}
use Rattle.coll_serial.specs.Lists.{CompletesOne, CompletesPart, Fits, IsStopped, begun_of}
use Rattle.coll_serial.specs.Parts.{span_len, span_of, ticket_of, tickets_of}
use Rattle.coll_serial.proofs.Completing.{not_denied}
use Rattle.coll_serial.proofs.Outcomes.{is_short}

pub tickets_get : (parts : List Part) (k : ℕ) → slice_get (tickets_of parts) k ≡ option_map ticket_of (slice_get parts k)
tickets_get parts k = slice_get-map ticket_of parts k

pub ticket_at : (parts : List Part) (i : ℕ) (d : Part) (x : Option Ticket) → i < length parts → x ≡ ticket_of (get_or parts i d)
    → slice_get (tickets_of parts) i ≡ Some x
ticket_at parts i d x lt e =
    tickets_get parts i ∙ (ap (option_map ticket_of) (slice_get-get_or parts i d lt) ∙ ap Some (sym e))

-- ---- a list without a request that stands twice

rest_list : (parts : List Part) (m : ℕ) → tickets_of (take (length parts - m) (drop m parts)) ≡ drop m (tickets_of parts)
rest_list parts m = ap tickets_of (take_rest parts m) ∙ sym (drop-map ticket_of m parts)

pub rest_of : (parts : List Part) (m : ℕ) (u : Ticket)
    → (k : ℕ) × (slice_get (take (length (tickets_of parts) - m) (drop m (tickets_of parts))) k ≡ Some (Some u))
    → (k : ℕ) × (slice_get (tickets_of (take (length parts - m) (drop m parts))) k ≡ Some (Some u))
rest_of parts m u (k, is) = (
  k,
  ap (λ (xs : List (Option Ticket)). slice_get xs k) (rest_list parts m ∙ sym (take_rest (tickets_of parts) m)) ∙ is,
)

get-drop : (xs : List (Option Ticket)) (m k : ℕ) → slice_get (drop m xs) k ≡ slice_get xs (m + k)
get-drop xs zero k = let e : k ≡ 0 + k = omega arith in ap (slice_get xs) e
get-drop [] (suc m) k = refl
get-drop (x ∷ xs) (suc m) k =
    let e : suc (m + k) ≡ suc m + k = omega arith in get-drop xs m k ∙ ap (slice_get (x ∷ xs)) e

pub not_distinct : (parts : List Part) (i : ℕ) (u : Ticket) → slice_get (tickets_of parts) i ≡ Some (Some u)
    → (k : ℕ) × (slice_get (tickets_of (take (length parts - (i + 1)) (drop (i + 1) parts))) k ≡ Some (Some u))
    → AreDistinct (tickets_of parts) → ⊥
not_distinct parts i u at (k, is) distinct =
    let further : slice_get (tickets_of parts) ((i + 1) + k) ≡ Some (Some u) =
    sym (get-drop (tickets_of parts) (i + 1) k)
    ∙ (ap (λ (xs : List (Option Ticket)). slice_get xs k) (sym (rest_list parts (i + 1))) ∙ is) in
    let e : i ≡ (i + 1) + k = distinct i ((i + 1) + k) u at further in
    omega (arith, e)

pub none_more : (parts : List Part) (i : ℕ) (d : Part) (t : Ticket)
    → ((k : ℕ) → k < i → slice_get (tickets_of parts) k ≡ Some (Some t) → ⊥) → i < length parts
    → (ticket_of (get_or parts i d) ≡ Some t → ⊥)
    → (k : ℕ) → k < i + 1 → slice_get (tickets_of parts) k ≡ Some (Some t) → ⊥
none_more parts i d t before lt off k less at = go (cases_eq k i)
  where
    go : (k ≡ i) ⊎ (k ≡ i → ⊥) → ⊥
    go (inl e) =
        off (same_Some _ (Some t) (sym (ticket_at parts i d (ticket_of (get_or parts i d)) lt refl) ∙ (ap (slice_get (tickets_of parts)) (sym e) ∙ at)))
    go (inr d) = before k (omega arith) at

-- ---- a survey

pub surveyed : (g : Setting) (m : Machine) (rank : ℕ) (parts : List Part) (i : ℕ) (v : Survey)
    → Surveyed g m rank (tickets_of parts) (tickets_of (drop i parts)) i v → length parts ≤ i
    → v.done ≡ position (is_done m) (tickets_of parts)
surveyed g m rank parts i v h le =
    let e = length-map parts ticket_of in
    surveyed_done g m rank (tickets_of parts) i v
    (subst (λ (rest : List (Option Ticket)). Surveyed g m rank (tickets_of parts) rest i v) (sym (drop-map ticket_of i parts)) h)
    (omega (arith, e))

-- ---- spans

pub short_at : (p v : Parts) → p ≡ v → (r : Option Ticket) (t : Ticket) → r ≡ Some t → (lengths : List ℕ) (want room got : ℕ)
    → AreMeasured (setting p) (seen p).state lengths → slice_get lengths t.slot ≡ Some want
    → phase_in (seen p) t ≡ Some Done → got ≡ room → room < want
    → IsShortAt (setting v) (seen v) r room (BadLength want got)
short_at p v same r t is lengths want room got a want_is phase got_is lt =
    let at : IsShortAt (setting p) (seen p) (Some t) room (BadLength want room) =
    is_short (setting p) (seen p) t lengths want room a want_is phase lt in
    subst (λ k. IsShortAt (setting v) (seen v) r room (BadLength want k)) (sym got_is)
    (subst (λ (k : Parts). IsShortAt (setting k) (seen k) r room (BadLength want room)) same
    (subst (λ (q : Option Ticket). IsShortAt (setting p) (seen p) q room (BadLength want room)) (sym is) at))

pub fits_at : (p v : Parts) → p ≡ v → (r : Option Ticket) (t : Ticket) → r ≡ Some t → (lengths : List ℕ) (want room : ℕ)
    → AreMeasured (setting p) (seen p).state lengths → slice_get lengths t.slot ≡ Some want → want ≤ room
    → (w : ℕ) → IsOutcomeLengthAt (setting v) (seen v).state r w → w ≤ room
fits_at p v same r t is lengths want room a want_is le w at =
    let here : IsOutcomeLengthAt (setting p) (seen p).state (Some t) w =
    subst (λ (q : Option Ticket). IsOutcomeLengthAt (setting p) (seen p).state q w) is
    (subst (λ (k : Parts). IsOutcomeLengthAt (setting k) (seen k).state r w) (sym same) at) in
    let k = a.each t.slot here.request (found_is (seen p).state t here.request here.found_is).1 in
    let sig : k.sig ≡ here.sig = same_Some k.sig here.sig (sym k.sig_is ∙ here.sig_is) in
    let measured : got_len k.sig (size (setting p) here.request.comm) here.request.member ≡ want =
    same_Some _ want (sym k.is ∙ want_is) in
    let e : w ≡ want =
    here.is ∙ ((λ z. got_len (sym sig z) (size (setting p) here.request.comm) here.request.member) ∙ measured) in
    omega (arith, e, le)

pub unrefused : (g : Setting) (m : Machine) (rank : ℕ) (held : Option Ticket) (p : Part) (len room : ℕ) (why : Refusal)
    → held ≡ ticket_of p → refusal_at g m.state rank (ticket_of p) ≡ None
    → (is_done m (ticket_of p) ≡ true → Fits g m.state p len) → room ≡ span_len p len
    → DeniesTest g m rank held room why → ⊥
unrefused g m rank held p len room why is none fits room_is denied =
    not_denied g m rank (ticket_of p) (span_len p len) why none fits
    (subst (λ k. DeniesTest g m rank (ticket_of p) k why) room_is
    (subst (λ (r : Option Ticket). DeniesTest g m rank r room why) is denied))

-- the request at a position of an accepted list is accepted
pub accepted_at : (g : Setting) (m : Machine) (rank : ℕ) (parts : List Part) (i : ℕ) (d : Part)
    → list_refusal g m.state rank (tickets_of parts) ≡ None → i < length parts
    → refusal_at g m.state rank (ticket_of (get_or parts i d)) ≡ None
accepted_at g m rank parts i d fits lt =
    let x = ticket_of (get_or parts i d) in
    let at : slice_get (tickets_of parts) i ≡ Some x = ticket_at parts i d x lt refl in
    ap (refusal_at g m.state rank) (sym (get_or_from_slice_get (tickets_of parts) i x None at))
    ∙ first_of-map (refusal_at g m.state rank) (tickets_of parts) i None fits (slice_get_within (tickets_of parts) i x at)

-- one position more of which the outcome fits
pub more_fit : (g : Setting) (m : Machine) (rank : ℕ) (parts : List Part) (len i : ℕ) (d : Part)
    → list_refusal g m.state rank (tickets_of parts) ≡ None → i < length parts
    → ((k : ℕ) (p : Part) → k < i → slice_get parts k ≡ Some p → is_done m (ticket_of p) ≡ true → Fits g m.state p len)
    → (is_done m (ticket_of (get_or parts i d)) ≡ true → refusal_at g m.state rank (ticket_of (get_or parts i d)) ≡ None
    → Fits g m.state (get_or parts i d) len)
    → (k : ℕ) (p : Part) → k < i + 1 → slice_get parts k ≡ Some p → is_done m (ticket_of p) ≡ true → Fits g m.state p len
more_fit g m rank parts len i d fits lt before here k p less at done = go (cases_eq k i)
  where
    go : (k ≡ i) ⊎ (k ≡ i → ⊥) → Fits g m.state p len
    go (inl e) =
        let same : get_or parts i d ≡ p = get_or_from_slice_get parts i p d (ap (slice_get parts) (sym e) ∙ at) in
        subst (λ (p : Part). Fits g m.state p len) same
        (here (ap (λ (p : Part). is_done m (ticket_of p)) same ∙ done) (accepted_at g m rank parts i d fits lt))
    go (inr off) = before k p (omega arith) at done

-- the lowest request that is Done
pub lowest_low : (m : Machine) (parts : List Part) (i : ℕ) → position (is_done m) (tickets_of parts) ≡ Some i → i < length parts
lowest_low m parts i is =
    let h = position-Some (is_done m) (tickets_of parts) i None is in
    let e = length-map parts ticket_of in
    let l = h.0 in
    omega (arith, l, e)

pub lowest_done : (m : Machine) (parts : List Part) (i : ℕ) (d : Part) → position (is_done m) (tickets_of parts) ≡ Some i
    → (i < length parts) × (is_done m (ticket_of (get_or parts i d)) ≡ true)
lowest_done m parts i d is =
    let h = position-Some (is_done m) (tickets_of parts) i (ticket_of d) is in
    let e = length-map parts ticket_of in
    let low : i < length parts = let l = h.0 in omega (arith, l, e) in
    let at : slice_get (tickets_of parts) i ≡ Some (ticket_of (get_or parts i d)) = ticket_at parts i d (ticket_of (get_or parts i d)) low refl in
    (low, ap (is_done m) (sym (get_or_from_slice_get (tickets_of parts) i _ (ticket_of d) at)) ∙ h.1)

pub completes_one : (g : Setting) (rank : ℕ) (m n : Machine) (i : ℕ) (was now : List Part) (d q : Part) (old new : List ℕ)
    → position (is_done m) (tickets_of was) ≡ Some i → CompletesPart g rank m n (get_or was i d) q old new
    → now ≡ slice_set was i q → CompletesOne g rank m n i was now old new
completes_one g rank m n i was now d q old new at c is =
    let low = lowest_done m was i d at in
    record {
      part = get_or was i d;
      after = q;
      there = slice_get-get_or was i d low.0;
      done = low.1;
      completes = c;
      others = is;
    }

-- ---- starts

begun_at : (parts : List Part) (given : List ℕ) (i : ℕ) (d : Part) (x : Option Ticket) (bytes : List ℕ) → i < length parts
    → x ≡ ticket_of (get_or parts i d) → bytes ≡ span_of (get_or parts i d) given
    → let b : Begun = (x, bytes) in slice_get (begun_of parts given) i ≡ Some b
begun_at parts given i d x bytes lt x_is bytes_is =
    slice_get-map (λ (p : Part). (ticket_of p, span_of p given)) parts i
    ∙ (ap (option_map (λ (p : Part). (ticket_of p, span_of p given))) (slice_get-get_or parts i d lt)
    ∙ (λ z. Some (sym x_is z, sym bytes_is z)))

starts_take : (g : Setting) (rank : ℕ) (bs : List Begun) (i : ℕ) (b : Begun) (m n k : Machine) → slice_get bs i ≡ Some b
    → StartsAll g rank m (take i bs) n → StartsAt g rank n b k → StartsAll g rank m (take (suc i) bs) k
starts_take g rank [] i b m n k is h at = absurd (none_is is)
  where
    none_is : slice_get {X = Begun} [] i ≡ Some b → ⊥
    none_is e = let l = slice_get_within [] i b e in omega (arith, l)
starts_take g rank (c ∷ bs) zero b m n k is h at =
    let same : c ≡ b = same_Some c b is in
    (k, subst (λ (m : Machine). StartsAt g rank m c k) (sym h) (subst (λ (b : Begun). StartsAt g rank n b k) (sym same) at), refl)
starts_take g rank (c ∷ bs) (suc i) b m n k is h at = (h.0, h.1, starts_take g rank bs i b h.0 n k is h.2 at)

pub started_more : (g h : Setting) (rank : ℕ) (m n k : Machine) (parts : List Part) (given : List ℕ) (i : ℕ) (d : Part)
    (x : Option Ticket) (bytes : List ℕ) → h ≡ g → i < length parts
    → x ≡ ticket_of (get_or parts i d) → bytes ≡ span_of (get_or parts i d) given
    → StartsAll g rank m (take i (begun_of parts given)) n → StartsAt h rank n (x, bytes) k
    → StartsAll g rank m (take (i + 1) (begun_of parts given)) k
started_more g h rank m n k parts given i d x bytes set lt x_is bytes_is before at =
    let e : suc i ≡ i + 1 = omega arith in
    subst (λ i. StartsAll g rank m (take i (begun_of parts given)) k) e
    (starts_take g rank (begun_of parts given) i (x, bytes) m n k (begun_at parts given i d x bytes lt x_is bytes_is) before
    (subst (λ (g : Setting). StartsAt g rank n (x, bytes) k) set at))

pub stopped_at : (g h : Setting) (rank : ℕ) (m n k : Machine) (parts : List Part) (given : List ℕ) (i : ℕ) (d : Part)
    (x : Option Ticket) (bytes : List ℕ) (why : Refusal) → h ≡ g → k ≡ n → i < length parts
    → x ≡ ticket_of (get_or parts i d) → bytes ≡ span_of (get_or parts i d) given
    → StartsAll g rank m (take i (begun_of parts given)) n → DeniesStart h rank n (x, bytes) why
    → IsStopped g rank m (begun_of parts given) k (record { at = i; why = why })
stopped_at g h rank m n k parts given i d x bytes why set same lt x_is bytes_is before denies = record {
  refused = (x, bytes);
  there = begun_at parts given i d x bytes lt x_is bytes_is;
  before = subst (λ (n : Machine). StartsAll g rank m (take i (begun_of parts given)) n) (sym same) before;
  denies =
      subst (λ (n : Machine). DeniesStart g rank n (x, bytes) why) (sym same)
      (subst (λ (g : Setting). DeniesStart g rank n (x, bytes) why) set denies);
}
