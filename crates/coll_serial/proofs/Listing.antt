-- A list whose Done requests are completed one after the other, into one memory.
use Rattle.std.proofs.Common.{◌≡◌, ℕ, suc, ◌+◌, ◌<◌, ◌≤◌, inl, inr, Bool, true, false, List, [], ◌∷◌, ◌++◌, length, get_or, set, take, map, Option}
use Rattle.std.proofs.Common.{Some, None, refl, sym, ap, subst, ◌∙◌, arith, cond, append_assoc}
use Rattle.std.specs.List.{range_with_len}
use Rattle.std.specs.Prelude.{filter, is_some, option_map, slice_get, slice_index, slice_index_or, slice_set}
use Rattle.std.proofs.lemmas.List.{append-nil, length-append, length-map, length-take, map-append, map-set, take_all, take_more_set}
use Rattle.std.proofs.lemmas.Option.{get_or_from_slice_get, slice_get-get_or, slice_get-map, slice_get_within}
use Rattle.std.proofs.Math.Seq.{map-set_same}
use Rattle.coll_kinds.specs.declared.signature.Signature.{Signature}
use Rattle.coll_kinds.specs.declared.ticket.Ticket.{Ticket}
use Rattle.coll_machine.specs.Calls as calls
use Rattle.coll_machine.specs.Common.{holding, rested, MachineStep, retire, Event, Runs, Setting, Machine, Request, State, found, key_of, Clears}
use Rattle.coll_core.specs.declared.outcome.Outcome.{Outcome}
use Rattle.coll_core.specs.Phases.{phase_by, phase_of}
use Rattle.coll_complete.specs.Completing.{completion_if, done_positions}
use Rattle.coll_complete.specs.Doing.{runs-append}
use Rattle.coll_complete.specs.Requests.{AreDistinct, done_by, is_done, list_refusal, refusal_at}
use Rattle.coll_complete.proofs.Retiring.{Same}
use Rattle.coll_complete.proofs.Sweeps.{Swept, noted, swept-fits, swept-left, swept_list, swept_list-all, swept_list-set, swept_more, swept_none}
use Rattle.coll_serial.specs.declared.part.Part.{Part}
use Rattle.coll_serial.specs.Lengths.{IsOutcomeLengthAt}
use Rattle.coll_serial.specs.Lists.{CompletesPart, CompletesParts, DoFit, Fits, completed_from, count_if, counts_of, laid, spans_of, written, written_if}
use Rattle.coll_serial.specs.Parts.{span_len, ticket_of, tickets_of}
use Rattle.coll_serial.proofs.Sets.{as_many, elsewhere}

-- ---- what a completion leaves

-- the posting lists
posts_cleared : (g : Setting) (s u : State) (slot : ℕ) (q : Request) (start : ℕ)
    → Clears g (holding s slot (rested q)) (key_of q start) u → u.posts ≡ s.posts
posts_cleared g s u slot q start (inl a) = ap (λ (u : State). u.posts) a.1
posts_cleared g s u slot q start (inr a) = ap (λ (u : State). u.posts) a.1

posts_retired : (g : Setting) (rank who : ℕ) (t : Ticket) (comm place start : ℕ) (bytes : List ℕ) (m n : Machine)
    → MachineStep g m (calls.Retire rank t) (calls.Outcome who comm place start bytes) n
    → n.state.posts ≡ m.state.posts
posts_retired g rank who t comm place start bytes _ _ (retire {s} {u} {done} _ _ _ _ _ _ h is) =
    posts_cleared g s u t.slot h.request start h.leaves

pub posts_completed : (g : Setting) (rank : ℕ) (r : Option Ticket) (o : Option Outcome) (m n : Machine)
    → Runs g m (completion_if rank r o) n → n.state.posts ≡ m.state.posts
posts_completed g rank r None m n runs = sym (ap (λ (k : Machine). k.state.posts) runs)
posts_completed g rank None (Some o) m n runs = sym (ap (λ (k : Machine). k.state.posts) runs)
posts_completed g rank (Some t) (Some o) m n (mid, step, same) =
    sym (ap (λ (k : Machine). k.state.posts) same)
    ∙ posts_retired g rank o.rank t o.comm o.place o.start o.bytes m mid step

-- whether other requests are Done
phase_same : (m n : Machine) (t : Ticket) (o : Option Request) → n.done t.slot ≡ m.done t.slot
    → phase_of n t o ≡ phase_of m t o
phase_same m n t None e = refl
phase_same m n t (Some q) e = ap (λ b. Some (phase_by q.active b)) e

done_same : (m n : Machine) (r : Option Ticket) → ((t : Ticket) → r ≡ Some t → Same m n t)
    → is_done n r ≡ is_done m r
done_same m n None h = refl
done_same m n (Some t) h =
    let same = h t refl in
    ap done_by (phase_same m n t (found n.state t) same.done_is ∙ ap (phase_of m t) same.found_is)

-- and how long their outcomes are
length_same : (g : Setting) (m n : Machine) (r : Option Ticket) (want : ℕ)
    → ((t : Ticket) → r ≡ Some t → Same m n t) → n.state.posts ≡ m.state.posts
    → IsOutcomeLengthAt g n.state r want → IsOutcomeLengthAt g m.state r want
length_same g m n None want h posts is = is
length_same g m n (Some t) want h posts is = record {
  request = is.request;
  sig = is.sig;
  found_is = sym (h t refl).found_is ∙ is.found_is;
  sig_is = ap (λ (posts : ℕ → ℕ → List Signature). slice_get (posts is.request.comm is.request.member) is.request.place)
      (sym posts) ∙ is.sig_is;
  is = is.is;
}

-- ---- what is laid out

laid-append : (parts : List Part) (xs ys : List (ℕ × Outcome)) (memory : List ℕ)
    → laid parts (xs ++ ys) memory ≡ laid parts ys (laid parts xs memory)
laid-append parts [] ys memory = refl
laid-append parts (x ∷ xs) ys memory =
    laid-append parts xs ys (written (slice_index (map (λ (p : Part). p.at) parts) x.0) x.1.bytes memory)

at_index : (parts : List Part) (i : ℕ) (p : Part) → slice_get parts i ≡ Some p
    → slice_index (map (λ (p : Part). p.at) parts) i ≡ p.at
at_index parts i p is =
    get_or_from_slice_get (map (λ (p : Part). p.at) parts) i p.at 0
    (slice_get-map (λ (p : Part). p.at) parts i ∙ ap (option_map (λ (p : Part). p.at)) is)

laid-noted : (parts : List Part) (i : ℕ) (p : Part) (o : Option Outcome) (memory : List ℕ)
    → slice_get parts i ≡ Some p → laid parts (noted i o) memory ≡ written_if p.at o memory
laid-noted parts i p None memory is = refl
laid-noted parts i p (Some o) memory is = ap (λ at. written at o.bytes memory) (at_index parts i p is)

completed_from-append : (i : ℕ) (xs ys : List Part)
    → completed_from i (xs ++ ys) ≡ completed_from i xs ++ completed_from (i + length xs) ys
completed_from-append i [] ys = let e : i ≡ i + 0 = omega arith in ap (λ k. completed_from k ys) e
completed_from-append i (x ∷ xs) ys =
    let e : (i + 1) + length xs ≡ i + suc (length xs) = omega arith in
    let first = cond x.completed ((i, x.count) ∷ []) [] in
    ap (λ ps. first ++ ps)
    (completed_from-append (i + 1) xs ys ∙ ap (λ k. completed_from (i + 1) xs ++ completed_from k ys) e)
    ∙ sym (append_assoc first (completed_from (i + 1) xs) (completed_from (i + suc (length xs)) ys))

completed_one : (i : ℕ) (q : Part) (o : Option Outcome) → q.completed ≡ is_some o → q.count ≡ count_if o
    → completed_from i (q ∷ []) ≡ counts_of (noted i o)
completed_one i q None e n = append-nil _ ∙ ap (λ b. cond b ((i, q.count) ∷ []) []) e
completed_one i q (Some o) e n =
    append-nil _ ∙ (ap (λ b. cond b ((i, q.count) ∷ []) []) e ∙ ap (λ k. (i, k) ∷ []) n)

length-noted : (i : ℕ) (o : Option Outcome) (b : Bool) → b ≡ is_some o → length (noted i o) ≡ cond b 1 0
length-noted i None b e = ap (λ b. cond b 1 0) (sym e)
length-noted i (Some o) b e = ap (λ b. cond b 1 0) (sym e)

-- ---- the parts below position i are done with, and that many requests were completed

pub record Going (g : Setting) (rank : ℕ) (m n : Machine) (was now : List Part) (old new : List ℕ) (i many : ℕ) : Type 0 where
  pub outcomes : List (ℕ × Outcome)
  pub swept : Swept rank (tickets_of was) m n i (λ es. Runs g m es n) outcomes
  pub posts : n.state.posts ≡ m.state.posts
  pub memory : new ≡ laid was outcomes old
  pub told : completed_from 0 (take i now) ≡ counts_of outcomes
  pub requests : tickets_of now ≡ swept_list m (tickets_of was) i
  pub spans : spans_of now ≡ spans_of was
  pub many_is : many ≡ length outcomes
  pub long : length now ≡ length was
  pub rest : (j : ℕ) → i ≤ j → slice_get now j ≡ slice_get was j

pub going_none : (g : Setting) (rank : ℕ) (m : Machine) (was : List Part) (old : List ℕ)
    → Going g rank m m was was old old 0 0
going_none g rank m was old = record {
  outcomes = [];
  swept = swept_none rank (tickets_of was) m (λ es. Runs g m es m) refl;
  posts = refl;
  memory = refl;
  told = refl;
  requests = refl;
  spans = refl;
  many_is = refl;
  long = refl;
  rest = λ j le. refl;
}

-- the request at position i
there : (g : Setting) (rank : ℕ) (m n : Machine) (was now : List Part) (old new : List ℕ) (i many : ℕ) (p : Part)
    → Going g rank m n was now old new i many → slice_get now i ≡ Some p → slice_get was i ≡ Some p
there g rank m n was now old new i many p h at = sym (h.rest i (omega arith)) ∙ at

listed : (parts : List Part) (i : ℕ) (p : Part) → slice_get parts i ≡ Some p
    → slice_get (tickets_of parts) i ≡ Some (ticket_of p)
listed parts i p is = slice_get-map ticket_of parts i ∙ ap (option_map ticket_of) is

same_there : (rank : ℕ) (list : List (Option Ticket)) (m n : Machine) (i : ℕ) (Did : List Event → Type 0)
    (outs : List (ℕ × Outcome)) (x : Option Ticket) → Swept rank list m n i Did outs → slice_get list i ≡ Some x
    → (t : Ticket) → x ≡ Some t → Same m n t
same_there rank list m n i Did outs x h is t e = h.rest i t (omega arith) (is ∙ ap (λ (x : Option Ticket). Some x) e)

-- it may be completed
pub going-accepted : (g h : Setting) (rank : ℕ) (m n : Machine) (was now : List Part) (old new : List ℕ) (i many : ℕ) (p : Part)
    → h ≡ g → Going g rank m n was now old new i many → slice_get now i ≡ Some p
    → list_refusal g m.state rank (tickets_of was) ≡ None → refusal_at h n.state rank (ticket_of p) ≡ None
going-accepted g h rank m n was now old new i many p set k at fits =
    ap (λ (g : Setting). refusal_at g n.state rank (ticket_of p)) set
    ∙ swept-fits g rank (tickets_of was) m n i (λ es. Runs g m es n) k.outcomes (ticket_of p) k.swept fits
    (listed was i p (there g rank m n was now old new i many p k at))

-- and its outcome fits
pub going-fits : (g h : Setting) (rank : ℕ) (m n : Machine) (was now : List Part) (old new : List ℕ) (i many : ℕ) (p : Part)
    (len : ℕ) → h ≡ g → len ≡ length old → Going g rank m n was now old new i many → slice_get now i ≡ Some p
    → DoFit g m was (length old) → is_done n (ticket_of p) ≡ true → Fits h n.state p len
going-fits g h rank m n was now old new i many p len set long k at fits done want is =
    let here : slice_get was i ≡ Some p = there g rank m n was now old new i many p k at in
    let same = same_there rank (tickets_of was) m n i (λ es. Runs g m es n) k.outcomes (ticket_of p) k.swept (listed was i p here) in
    let was_done : is_done m (ticket_of p) ≡ true = sym (done_same m n (ticket_of p) same) ∙ done in
    subst (λ k. want ≤ span_len p k) (sym long)
    (fits i p here was_done want
    (length_same g m n (ticket_of p) want same k.posts
    (subst (λ (g : Setting). IsOutcomeLengthAt g n.state (ticket_of p) want) set is)))

spans-set : (now : List Part) (i : ℕ) (p q : Part) → slice_get now i ≡ Some p → q.at ≡ p.at → q.room ≡ p.room
    → spans_of (slice_set now i q) ≡ spans_of now
spans-set now i p q is at room =
    let same : get_or now i p ≡ p = get_or_from_slice_get now i p p is in
    map-set_same (λ (p : Part). (p.at, p.room)) now i q p
    ((λ z. (at z, room z)) ∙ ap (λ (p : Part). (p.at, p.room)) (sym same))

-- one position more
pub going_more : (g h : Setting) (rank : ℕ) (m n k : Machine) (was now : List Part) (old new next : List ℕ) (i many more : ℕ)
    (p q : Part)
    → h ≡ g → AreDistinct (tickets_of was) → list_refusal g m.state rank (tickets_of was) ≡ None
    → Going g rank m n was now old new i many → slice_get now i ≡ Some p
    → CompletesPart h rank n k p q new next → more ≡ many + cond q.completed 1 0
    → Going g rank m k was (slice_set now i q) old next (i + 1) more
going_more g h rank m n k was now old new next i many more p q set distinct fits go at c more_is =
    let list = tickets_of was in
    let x = ticket_of p in
    let o = c.outcome in
    let here_is : slice_get was i ≡ Some p = there g rank m n was now old new i many p go at in
    let in_list : slice_get list i ≡ Some x = listed was i p here_is in
    let low : i < length now = slice_get_within now i p at in
    let runs : Runs g n (completion_if rank x o) k = subst (λ (g : Setting). Runs g n (completion_if rank x o) k) set c.runs in
    record {
      outcomes = go.outcomes ++ noted i o;
      swept =
          swept_more g g rank list m n k i (λ es. Runs g m es n) (λ es. Runs g m es k) go.outcomes x o distinct fits go.swept
          in_list c.done runs (λ es before. runs-append g es (completion_if rank x o) m n k before runs);
      posts = posts_completed g rank x o n k runs ∙ go.posts;
      memory =
          c.memory ∙ (sym (laid-noted was i p o new here_is)
          ∙ (ap (laid was (noted i o)) go.memory ∙ sym (laid-append was go.outcomes (noted i o) old)));
      told =
          ap (completed_from 0) (take_more_set now i q low)
          ∙ (completed_from-append 0 (take i now) (q ∷ [])
          ∙ (told_more ∙ sym (map-append (λ (out : ℕ × Outcome). (out.0, length out.1.bytes)) go.outcomes (noted i o))));
      requests =
          map-set ticket_of now i q
          ∙ swept_list-set m n list (tickets_of now) i x (ticket_of q) go.requests in_list c.request
          (swept-left rank list m n i (λ es. Runs g m es n) go.outcomes x go.swept in_list);
      spans = spans-set now i p q at c.at_is c.room_is ∙ go.spans;
      many_is =
          let l = length-append go.outcomes (noted i o) in
          let one = length-noted i o q.completed c.completed in
          let before = go.many_is in
          omega (arith, l, one, before, more_is);
      long = as_many now i q ∙ go.long;
      rest = λ j le. elsewhere now i q j (λ e. omega arith) ∙ go.rest j (omega arith);
    }
  where
    told_more : completed_from 0 (take i now) ++ completed_from (0 + length (take i now)) (q ∷ [])
        ≡ counts_of go.outcomes ++ counts_of (noted i c.outcome)
    told_more =
        let low : i < length now = slice_get_within now i p at in
        let e : 0 + length (take i now) ≡ i = simp length-take (omega arith) in
        (λ z. go.told z ++ completed_from (e z) (q ∷ []))
        ∙ ap (λ ps. counts_of go.outcomes ++ ps) (completed_one i q c.outcome c.completed c.count_is)

-- after the last
pub going_done : (g : Setting) (rank : ℕ) (m n : Machine) (was now : List Part) (old new : List ℕ) (i many : ℕ)
    → i ≡ length was → Going g rank m n was now old new i many → CompletesParts g rank m n was now old new
going_done g rank m n was now old new i many end go =
    let tickets : i ≡ length (tickets_of was) = end ∙ sym (length-map was ticket_of) in
    let all : length now ≤ i = let h = go.long in omega (arith, h) in
    let every : length (tickets_of was) ≤ i = omega (arith, tickets) in
    record {
      outcomes = go.outcomes;
      completes = record {
        positions = go.swept.positions ∙ ap (λ k. filter (λ j. is_done m (slice_index_or (tickets_of was) j None)) (range_with_len 0 k)) tickets;
        runs = go.swept.did;
      };
      memory = go.memory;
      told = ap (completed_from 0) (sym (take_all i now all)) ∙ go.told;
      requests = swept_list-all m (tickets_of was) (tickets_of now) i go.requests every;
      spans = go.spans;
    }

pub going-count : (g : Setting) (rank : ℕ) (m n : Machine) (was now : List Part) (old new : List ℕ) (i many : ℕ)
    → i ≡ length was → Going g rank m n was now old new i many → many ≡ length (done_positions m (tickets_of was))
going-count g rank m n was now old new i many end go =
    let tickets : i ≡ length (tickets_of was) = end ∙ sym (length-map was ticket_of) in
    go.many_is ∙ (sym (length-map go.outcomes (λ (out : ℕ × Outcome). out.0))
    ∙ ap length (go.swept.positions ∙ ap (λ k. filter (λ j. is_done m (slice_index_or (tickets_of was) j None)) (range_with_len 0 k)) tickets))

pub one_low : (b : Bool) (n : ℕ) → n ≡ cond b 1 0 → n ≤ 1
one_low true n e = omega (arith, e)
one_low false n e = omega (arith, e)

-- ---- in the words of a loop

pub go_accepted : (g h : Setting) (rank : ℕ) (m n : Machine) (was now : List Part) (old new : List ℕ) (i many : ℕ) (d : Part)
    → h ≡ g → Going g rank m n was now old new i many → i < length now
    → list_refusal g m.state rank (tickets_of was) ≡ None → refusal_at h n.state rank (ticket_of (get_or now i d)) ≡ None
go_accepted g h rank m n was now old new i many d set k lt fits =
    going-accepted g h rank m n was now old new i many (get_or now i d) set k (slice_get-get_or now i d lt) fits

pub go_fits : (g h : Setting) (rank : ℕ) (m n : Machine) (was now : List Part) (old new : List ℕ) (i many : ℕ) (d : Part)
    (len : ℕ) → h ≡ g → len ≡ length old → Going g rank m n was now old new i many → i < length now
    → DoFit g m was (length old) → is_done n (ticket_of (get_or now i d)) ≡ true → Fits h n.state (get_or now i d) len
go_fits g h rank m n was now old new i many d len set long k lt fits done =
    going-fits g h rank m n was now old new i many (get_or now i d) len set long k (slice_get-get_or now i d lt) fits done

pub go_more : (g h : Setting) (rank : ℕ) (m n k : Machine) (was now : List Part) (old new next : List ℕ) (i many more one : ℕ)
    (d : Part) (q : Part)
    → h ≡ g → AreDistinct (tickets_of was) → list_refusal g m.state rank (tickets_of was) ≡ None
    → Going g rank m n was now old new i many → i < length now
    → CompletesPart h rank n k (get_or now i d) q new next → more ≡ many + one → one ≡ cond q.completed 1 0
    → Going g rank m k was (slice_set now i q) old next (i + 1) more
go_more g h rank m n k was now old new next i many more one d q set distinct fits go lt c more_is one_is =
    going_more g h rank m n k was now old new next i many more (get_or now i d) q set distinct fits go
    (slice_get-get_or now i d lt) c (more_is ∙ ap (λ k. many + k) one_is)
