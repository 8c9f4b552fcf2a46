-- What the engine's calls may rely on, and what it shows between them.
use Rattle.std.proofs.Common.{◌≡◌, ℕ, zero, suc, ◌+◌, ◌*◌, ◌<◌, ◌≤◌, ◌≢◌, true, not, cond, List, [], ◌∷◌, length, map, unwrap_or, sum, Option, Some}
use Rattle.std.proofs.Common.{None, refl, sym, ap, subst, ◌∙◌, arith, ne_eqb, add-one}
use Rattle.std.specs.Prelude.{option_map}
use Rattle.std.specs.List.{range_with_len}
use Rattle.std.proofs.lemmas.Option.{none-some}
use Rattle.std.proofs.lemmas.List.FromFn.{sum_by-map-range_with_len_more}
use Rattle.coll_kinds.specs.declared.signature.Signature.{Signature}
use Rattle.coll_kinds.specs.Lengths.{lent as lends}
use Rattle.coll_sched.specs.declared.action.Action.{Action}
use Rattle.coll_sched.specs.declared.action.Action.TheVariants.{Send, Copy, Combine, Recv}
use Rattle.coll_sched.specs.Common.{Family, actions_of, Tracks}
use Rattle.coll_sched.specs.Heart.{Holds}
use Rattle.coll_sched.specs.Tracks.{OnTrack}
use Rattle.coll_sched.proofs.Track.{holds}
use Rattle.coll_plans.specs.Plans.{family}
use Rattle.coll_lists.specs.Layouts.{sequence, times}
use Rattle.coll_arena.specs.Slots.{Slots, count, home, lent_by as slot_lends, record_in, weight_of}
use Rattle.coll_arena.proofs.Homes.{StandsAtHome-sound}
use Rattle.coll_arena.proofs.Lents.{lent_by-weight}
use Rattle.coll_queues.specs.Postings.{place_of, posts}
use Rattle.coll_match.specs.Instances.{given, mail}
use Rattle.coll_machine.specs.Common.{size, Request, Planned, Post, refusal, over_slots}
use Rattle.coll_machine.specs.declared.key.Key.{Key}
use Rattle.coll_machine.specs.Lents.{lent_by}
use Rattle.coll_refinement.specs.Requests.{Live, as_request, at, key, progress}
use Rattle.coll_refinement.specs.Tables.{Mail, Tables, asked, state, world}
use Rattle.coll_refinement.specs.Sound.{next, Doable, Stands, ready, running, idle, queued, done}
use Rattle.coll_refinement.specs.Shown.{seen, listed, tables, weight, weight_by}
use Rattle.coll_refinement.proofs.engine.Statements.{ActiveCore, AreOperands, LentCore, NewCore, QuietCore, ReadyCore}
use Rattle.coll_refinement.proofs.tables.Accepted.{posted_passed}
use Rattle.coll_refinement.proofs.tables.OneRequest.{not_given, serves_own, tracks_at}
use Rattle.coll_refinement.proofs.tables.LiveRequests.{has_given}
use Rattle.coll_refinement.proofs.engine.Calls.{place_is}

-- a live request as the tables show it
in_slot : {R : Type 0} (shown : R → Live) (a : Slots R) (i : ℕ) (x : R) → record_in a i ≡ Some x
    → seen (home a i) (option_map shown (record_in a i)) ≡ Some (listed (home a i) (shown x))
in_slot shown a i x e = ap (λ (o : Option _). seen (home a i) (option_map shown o)) e

pub new_core : {R : Type 0} → NewCore R
new_core {R} shown g a q m c = (of_post, of_start)
  where
    v : Tables
    v = tables shown g a q m

    of_start : (i : ℕ) (x : R) → record_in a i ≡ Some x → given m (at (shown x) (shown x).starts) (shown x).member ≡ None
    of_start i x e = not_given v c.sound.paths c.sound.sound.base i (listed (home a i) (shown x)) (in_slot shown a i x e)

    of_post : (rank comm : ℕ) (plan : Planned) (bytes : List ℕ) → refusal g (state v) (Post rank comm plan bytes) ≡ None
        → given m (record { comm = comm; place = place_of q comm rank; start = 0 }) plan.member ≡ None
    of_post rank comm plan bytes e = go (given m (record { comm = comm; place = place_of q comm rank; start = 0 }) plan.member) refl
      where
        place : place_of q comm rank ≡ length (posts q comm plan.member)
        place = place_is shown g a q m c comm rank plan (posted_passed v comm rank plan bytes e).0.member_is

        go : (o : Option (List ℕ)) → given m (record { comm = comm; place = place_of q comm rank; start = 0 }) plan.member ≡ o
            → given m (record { comm = comm; place = place_of q comm rank; start = 0 }) plan.member ≡ None
        go None f = f
        go (Some bs) f =
            let k : Key = record { comm = comm; place = place_of q comm rank; start = 0 } in
            let low : place_of q comm rank < length (posts q comm plan.member) = c.sound.sound.base.posted k plan.member (λ z. none-some bs (sym z ∙ f)) in
            absurd (omega (arith, place, low))

-- ---- active requests

pub active_core : {R : Type 0} → ActiveCore R
active_core {R} shown g a q m i x c e off = record {
  round_in = subst (λ s. p.round ≤ length (family p.sig s p.member).rounds) (sym sized) on.round_in;
  index_in = subst (λ s. p.index ≤ length (actions_of (family p.sig s p.member) p.round)) (sym sized) on.index_in;
  filled = subst (λ s. length p.buf ≡ (family p.sig s p.member).size) (sym sized) (held.sizes p.member (progress p) way);
  gave = has_given v c.sound.paths c.sound.sound.base i p here t;
  seated = λ z. none-some i (sym z ∙ (c.sound.sound.base.active i p here t).1);
  sends = λ to from z. held.free p.member (progress p) to from (way, subst (λ s. next s p ≡ Some (Send to from)) sized z);
  takes = λ of into bytes z there. held.takes p.member (progress p) of into bytes (way, subst (λ s. next s p ≡ Some (Recv of into)) sized z) there;
  operands = λ op ty left right into z.
      let both = held.operands p.member (progress p) op ty left right into (way, subst (λ s. next s p ≡ Some (Combine op ty left right into)) sized z) in
      subst (λ s. AreOperands (family p.sig s) (given m (key p)) (shown x) left right) (sym sized) (record { left_is = both.0; right_is = both.1 });
}
  where
    v : Tables
    v = tables shown g a q m

    p : Live
    p = listed (home a i) (shown x)

    here : v.request i ≡ Some p
    here = in_slot shown a i x e

    t : p.active ≡ true
    t = ap not (ne_eqb (home a i) (4 + 3 * p.comm) off)

    sized : p.members ≡ size g p.comm
    sized = c.sound.sound.base.sized i p here

    f : Family
    f = family p.sig (size g p.comm)

    way : c.sound.paths (key p) p.member ≡ Some (progress p)
    way = (c.sound.sound.base.active i p here t).0

    track : Tracks (size g p.comm) f (world v c.sound.paths (key p))
    track = tracks_at v c.sound.paths c.sound.sound.base i p here (key p).start

    on : OnTrack (size g p.comm) f (v.given (key p)) p.member (progress p)
    on = track.members p.member (progress p) way

    held : Holds (size g p.comm) f (world v c.sound.paths (key p))
    held = holds (size g p.comm) f (serves_own v c.sound.paths c.sound.sound.base i p here).lawful (world v c.sound.paths (key p)) track

doable_listed : (mail : Mail) (l : ℕ) (q : Live) (a : Action) → Doable mail (listed l q) a → Doable mail q a
doable_listed mail l q (Send to from) d = tt
doable_listed mail l q (Copy from into) d = tt
doable_listed mail l q (Combine op ty x y into) d = tt
doable_listed mail l q (Recv of into) d = d

pub ready_core : {R : Type 0} → ReadyCore R
ready_core {R} shown g a q m i x c e two = go (c.sound.sound.stands i p (in_slot shown a i x e))
  where
    p : Live
    p = listed (home a i) (shown x)

    sized : p.members ≡ size g p.comm
    sized = c.sound.sound.base.sized i p (in_slot shown a i x e)

    go : Stands (size g p.comm) (mail m (key p)) (home a i) p
        → (act : Action) × (next (shown x).members (shown x) ≡ Some act) × Doable (mail m (key (shown x))) (shown x) act
    go (ready act t f nx d) = (act, subst (λ s. next s p ≡ Some act) (sym sized) nx, doable_listed (mail m (key p)) (home a i) (shown x) act d)
    go (running op ty y z into t f nx) = absurd (omega arith)
    go (queued of into t f nx none) = absurd (omega arith)
    go (done t f r) = absurd (omega arith)
    go (idle t f r) = absurd (omega arith)

-- ---- between the calls

pub quiet_core : {R : Type 0} → QuietCore R
quiet_core {R} shown g a q m c s ready_empty running_empty i p e =
    (off 2 ready_empty (omega (arith, s.lists_is)), off 3 running_empty (omega (arith, s.lists_is)))
  where
    low : i < count a
    low = subst (λ n. i < n) c.set.slots_is (c.sound.sound.numbered i p e).0

    none_in : (xs : List ℕ) → length xs ≡ 0 → times i xs ≡ 0
    none_in [] z = refl
    none_in (x ∷ xs) z = absurd (omega arith)

    off : (l : ℕ) → length (sequence a.lists l) ≡ 0 → l < length a.lists → home a i ≢ l
    off l empty in_lists at =
        let stands : 0 < times i (sequence a.lists l) = (StandsAtHome-sound a s i l in_lists).at_home.1 (low, at) in
        let none : times i (sequence a.lists l) ≡ 0 = none_in (sequence a.lists l) empty in
        omega arith

sum_slots : (f : ℕ → ℕ) (h : Option Request → ℕ) (request : ℕ → Option Request) (n : ℕ) → ((i : ℕ) → i < n → f i ≡ h (request i))
    → sum (map f (range_with_len 0 n)) ≡ over_slots h request n
sum_slots f h request zero e = refl
sum_slots f h request (suc n) e =
    let below : sum (map f (range_with_len 0 n)) ≡ over_slots h request n = sum_slots f h request n (λ i l. e i (omega (arith, l))) in
    ap (λ k. sum (map f (range_with_len 0 k))) (sym (add-one n))
    ∙ (sum_by-map-range_with_len_more (λ x. x) f 0 n n (omega arith)
    ∙ (λ z. below z + e n (omega arith) z))

pub lent_core : {R : Type 0} → LentCore R
lent_core {R} shown g a q m c s =
    ap (λ n. sum (map (slot_lends a) (range_with_len 0 n))) (sym c.set.slots_is)
    ∙ sum_slots (slot_lends a) (lent_by g (state v)) (state v).request g.slots (λ i low. each i (subst (λ n. i < n) c.set.slots_is low))
  where
    v : Tables
    v = tables shown g a q m

    -- what a live request weighs is what the machine says that it lends
    weighs : (p : Live) → (i : ℕ) → v.request i ≡ Some p → weight p ≡ lent_by g (state v) (Some (as_request p))
    weighs p i e =
        ap (λ n. cond p.active n 0)
        (ap (λ n. lends p.sig n p.member) (c.sound.sound.base.sized i p e)
        ∙ ap (λ (o : Option Signature). unwrap_or (option_map (λ sig. lends sig (size g p.comm) p.member) o) 0) (sym (c.sound.sound.base.own i p e)))

    by : (i : ℕ) → (o : Option R) → record_in a i ≡ o → weight_of a i ≡ lent_by g (state v) ((state v).request i)
    by i None e =
        ap (λ (f : ℕ → ℕ). f i) c.weights
        ∙ ((λ z. weight_by (seen (home a i) (option_map shown (e z)))) ∙ (λ z. lent_by g (state v) (asked (seen (home a i) (option_map shown (sym e z))))))
    by i (Some x) e =
        let here = in_slot shown a i x e in
        ap (λ (f : ℕ → ℕ). f i) c.weights
        ∙ (ap weight_by here ∙ (weighs (listed (home a i) (shown x)) i here ∙ ap (λ (o : Option Live). lent_by g (state v) (asked o)) (sym here)))

    each : (i : ℕ) → i < count a → slot_lends a i ≡ lent_by g (state v) ((state v).request i)
    each i low = lent_by-weight a s i low ∙ by i (record_in a i) refl
