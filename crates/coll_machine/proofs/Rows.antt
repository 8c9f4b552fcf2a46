-- The traces of the worked rows are legal.
use Rattle.std.proofs.Common.{◌≡◌, ◌≢◌, ℕ, suc, ◌<◌, ◌⊎◌, inl, inr, ltb, eqb, true, false, List, [], ◌∷◌, take, Option, Some, None, refl, sym, ap}
use Rattle.std.proofs.Common.{subst, ◌∙◌, arith}
use Rattle.std.proofs.lemmas.Bool.{cases_eq, and_parts, eqb-true, ltb-true, false≢true}
use Rattle.std.proofs.lemmas.Option.{none-some, same_Some}
use Rattle.coll_kinds.specs.Needs.{needs}
use Rattle.coll_machine.specs.Common.{size, Request, State, nothing, key_of, signature_of, once_more, holding, Works, IsOver, Entry, Posted, Inited}
use Rattle.coll_machine.specs.Common.{Started, Retired, Freed, Enters, Leads, two_ranks, ticket, key, i32, plan, bcast, left_late, late_bcast, gather}
use Rattle.coll_machine.specs.Common.{freed, two_starts, barrier}
use Rattle.coll_machine.specs.declared.key.Key.{Key}
use Rattle.coll_machine.specs.Rows.{request_of, posted, left, posted_late, idle, inited_one, inited, started_one, started_both, left_one, ahead}
use Rattle.coll_machine.specs.Rows.{left_both, level, ended_one, ended, freed_one, RowsAreLegal, waiting, BarrierWaits}
use Rattle.coll_machine.proofs.Slots.{AreLow, low_put, live_low}
use Rattle.coll_machine.proofs.Tracing.{leads_push}

-- ---- two members

below_two : (P : ℕ → Type 0) → P 0 → P 1 → (m : ℕ) → m < 2 → P m
below_two P zero one m lt = go (cases_eq m 0) (cases_eq m 1)
  where
    go : (m ≡ 0) ⊎ (m ≡ 0 → ⊥) → (m ≡ 1) ⊎ (m ≡ 1 → ⊥) → P m
    go (inl e) _ = subst P (sym e) zero
    go (inr d) (inl e) = subst P (sym e) one
    go (inr d) (inr c) = absurd (omega arith)

there : (o : Option (List ℕ)) (a : List ℕ) → o ≡ Some a → o ≢ None
there o a e none = none-some a (sym none ∙ e)

abbrev Contributions : Type 0
Contributions = ℕ → Option (List ℕ)

-- an allgather needs both, a bcast its root
needed_all : (given : Contributions) (a b : List ℕ) → given 0 ≡ Some a → given 1 ≡ Some b → (r m : ℕ) → needs gather 2 r m ≡ true → given m ≢ None
needed_all given a b x y r m need =
    below_two (λ m. given m ≢ None) (there (given 0) a x) (there (given 1) b y) m (ltb-true m 2 (and_parts (ltb m 2) true need).0)

needed_root : (given : Contributions) (a : List ℕ) → given 0 ≡ Some a → (r m : ℕ) → needs bcast 2 r m ≡ true → given m ≢ None
needed_root given a x r m need = subst (λ m. given m ≢ None) (sym (eqb-true m 0 (and_parts (ltb m 2) (eqb m 0) need).1)) (there (given 0) a x)

-- ---- what is in the two slots works on other collectives

abbrev Leaves : Key → Option Request → Type 0
Leaves k o = (q : Request) → o ≡ Some q → q.active ≡ true → (start : ℕ) → suc start ≡ q.starts → key_of q start ≡ k → ⊥

none_leaves : (k : Key) → Leaves k None
none_leaves k q e active start last is = absurd (none-some q e)

idle_leaves : (k : Key) (p : Request) → p.active ≡ false → Leaves k (Some p)
idle_leaves k p inactive q e active start last is = false≢true (sym inactive ∙ (ap (λ (q : Request). q.active) (same_Some p q e) ∙ active))

other_leaves : (k : Key) (p : Request) (n : ℕ) → p.starts ≡ suc n → (n ≡ k.start → ⊥) → Leaves k (Some p)
other_leaves k p n starts other q e active start last is =
    let same : p.starts ≡ q.starts = ap (λ (q : Request). q.starts) (same_Some p q e) in
    let number : start ≡ n = omega arith in
    other (sym number ∙ ap (λ (k : Key). k.start) is)

over_two : (s : State) (n : ℕ) (a b : List ℕ) → AreLow two_ranks s → s.given (key n) 0 ≡ Some a → s.given (key n) 1 ≡ Some b
    → Leaves (key n) (s.request 0) → Leaves (key n) (s.request 1) → IsOver two_ranks s (key n)
over_two s n a b low x y zero one m lt = (below_two (λ m. s.given (key n) m ≢ None) (there _ a x) (there _ b y) m lt, gone)
  where
    gone : Works s (key n) m → ⊥
    gone w = below_two (λ i. Leaves (key n) (s.request i)) zero one w.slot (low w.slot w.request w.is) w.request w.is w.active w.start w.last w.key_is

-- the live slots after a completion are those before it
low_left : (s : State) (es : List Entry) (slot : ℕ) (q : Request) (o : Option Request) → Leads two_ranks nothing es s
    → s.request slot ≡ Some q → AreLow two_ranks (holding s slot o)
low_left s es slot q o l here = low_put two_ranks s.request slot o (live_low two_ranks s es l) (λ _ _. live_low two_ranks s es l slot q here)

-- ---- the late bcast

bcast_1 : Leads two_ranks nothing (take 1 late_bcast) posted
bcast_1 = leads_push two_ranks nothing nothing posted [] (Posted 0 (ticket 0 1) 0 0 bcast (i32 7)) refl (
  plan bcast 0,
  refl,
  record {
    member = 0;
    accepted = refl;
    member_is = refl;
    place_is = refl;
    new = record { low = omega arith; spare = refl; unworn = omega arith; next = refl };
    leaves = refl;
  },
)

bcast_2 : Leads two_ranks nothing (take 2 late_bcast) left
bcast_2 = leads_push two_ranks nothing posted left (take 1 late_bcast) (Retired 0 (ticket 0 1) 0 0 0 (i32 7)) bcast_1 (record {
  request = once_more (request_of 0);
  sig = bcast;
  accepted = refl;
  is = refl;
  comm_is = refl;
  place_is = refl;
  ready = record { active = refl; start_is = refl; sig_is = refl; needed = needed_root (posted.given (key 0)) (i32 7) refl 0 };
  bytes_is = refl;
  leaves = inr (λ over. (over 1 (omega arith)).0 refl, refl);
})

bcast_3 : Leads two_ranks nothing (take 3 late_bcast) posted_late
bcast_3 = leads_push two_ranks nothing left posted_late (take 2 late_bcast) (Posted 1 (ticket 0 2) 0 0 bcast []) bcast_2 (
  plan bcast 1,
  refl,
  record {
    member = 1;
    accepted = refl;
    member_is = refl;
    place_is = refl;
    new = record { low = omega arith; spare = refl; unworn = omega arith; next = refl };
    leaves = refl;
  },
)

bcast_4 : Leads two_ranks nothing late_bcast left_late
bcast_4 = leads_push two_ranks nothing posted_late left_late (take 3 late_bcast) (Retired 1 (ticket 0 2) 0 0 0 (i32 7)) bcast_3 (record {
  request = once_more (request_of 1);
  sig = bcast;
  accepted = refl;
  is = refl;
  comm_is = refl;
  place_is = refl;
  ready = record { active = refl; start_is = refl; sig_is = refl; needed = needed_root (posted_late.given (key 0)) (i32 7) refl 1 };
  bytes_is = refl;
  leaves = inl (
    over_two (holding posted_late 0 None) 0 (i32 7) []
        (low_left posted_late (take 3 late_bcast) 0 (once_more (request_of 1)) None bcast_3 refl) refl refl (none_leaves (key 0)) (none_leaves (key 0)),
    refl,
  );
})

-- ---- two starts

gather_1 : Leads two_ranks nothing (take 1 two_starts) inited_one
gather_1 = leads_push two_ranks nothing nothing inited_one [] (Inited 0 (ticket 0 1) 0 0 gather) refl (
  plan gather 0,
  refl,
  record {
    member = 0;
    accepted = refl;
    member_is = refl;
    place_is = refl;
    new = record { low = omega arith; spare = refl; unworn = omega arith; next = refl };
    leaves = refl;
  },
)

gather_2 : Leads two_ranks nothing (take 2 two_starts) inited
gather_2 = leads_push two_ranks nothing inited_one inited (take 1 two_starts) (Inited 1 (ticket 1 1) 0 0 gather) gather_1 (
  plan gather 1,
  refl,
  record {
    member = 1;
    accepted = refl;
    member_is = refl;
    place_is = refl;
    new = record { low = omega arith; spare = refl; unworn = omega arith; next = refl };
    leaves = refl;
  },
)

gather_4 : Leads two_ranks nothing (take 4 two_starts) started_both
gather_4 = leads_push two_ranks nothing started_one started_both (take 3 two_starts) (Started 1 (ticket 1 1) 0 (10 ∷ []))
    (leads_push two_ranks nothing inited started_one (take 2 two_starts) (Started 0 (ticket 0 1) 0 (1 ∷ [])) gather_2
    (record { request = idle 0 0; accepted = refl; is = refl; start_is = refl; leaves = refl }))
    (record { request = idle 1 0; accepted = refl; is = refl; start_is = refl; leaves = refl })

-- rank 1 still works on start 0, so it isn't over
gather_5 : Enters two_ranks started_both (Retired 0 (ticket 0 1) 0 0 0 (1 ∷ 10 ∷ [])) left_one
gather_5 = record {
  request = once_more (idle 0 0);
  sig = gather;
  accepted = refl;
  is = refl;
  comm_is = refl;
  place_is = refl;
  ready = record { active = refl; start_is = refl; sig_is = refl; needed = needed_all (started_both.given (key 0)) (1 ∷ []) (10 ∷ []) refl refl 0 };
  bytes_is = refl;
  leaves = inr (
    λ over. (over 1 (omega arith)).1 (record
        { slot = 1; request = once_more (idle 1 0); is = refl; active = refl; member_is = refl; start = 0; key_is = refl; last = refl }),
    refl,
  );
}

gather_6 : Leads two_ranks nothing (take 6 two_starts) ahead
gather_6 = leads_push two_ranks nothing left_one ahead (take 5 two_starts) (Started 0 (ticket 0 1) 1 (2 ∷ []))
    (leads_push two_ranks nothing started_both left_one (take 4 two_starts) (Retired 0 (ticket 0 1) 0 0 0 (1 ∷ 10 ∷ [])) gather_4 gather_5)
    (record { request = idle 0 1; accepted = refl; is = refl; start_is = refl; leaves = refl })

-- rank 0 works on start 1, so start 0 is over
gather_7 : Enters two_ranks ahead (Retired 1 (ticket 1 1) 0 0 0 (1 ∷ 10 ∷ [])) left_both
gather_7 = record {
  request = once_more (idle 1 0);
  sig = gather;
  accepted = refl;
  is = refl;
  comm_is = refl;
  place_is = refl;
  ready = record { active = refl; start_is = refl; sig_is = refl; needed = needed_all (ahead.given (key 0)) (1 ∷ []) (10 ∷ []) refl refl 1 };
  bytes_is = refl;
  leaves = inl (
    over_two (holding ahead 1 (Some (idle 1 1))) 0 (1 ∷ []) (10 ∷ [])
        (low_left ahead (take 6 two_starts) 1 (once_more (idle 1 0)) (Some (idle 1 1)) gather_6 refl) refl refl
        (other_leaves (key 0) (once_more (idle 0 1)) 1 refl (λ e. absurd (omega arith))) (idle_leaves (key 0) (idle 1 1) refl),
    refl,
  );
}

gather_9 : Leads two_ranks nothing (take 9 two_starts) ended_one
gather_9 = leads_push two_ranks nothing level ended_one (take 8 two_starts) (Retired 0 (ticket 0 1) 0 0 1 (2 ∷ 20 ∷ []))
    (leads_push two_ranks nothing left_both level (take 7 two_starts) (Started 1 (ticket 1 1) 1 (20 ∷ []))
    (leads_push two_ranks nothing ahead left_both (take 6 two_starts) (Retired 1 (ticket 1 1) 0 0 0 (1 ∷ 10 ∷ [])) gather_6 gather_7)
    (record { request = idle 1 1; accepted = refl; is = refl; start_is = refl; leaves = refl }))
    (record {
      request = once_more (idle 0 1);
      sig = gather;
      accepted = refl;
      is = refl;
      comm_is = refl;
      place_is = refl;
      ready = record { active = refl; start_is = refl; sig_is = refl; needed = needed_all (level.given (key 1)) (2 ∷ []) (20 ∷ []) refl refl 0 };
      bytes_is = refl;
      leaves = inr (
        λ over. (over 1 (omega arith)).1
            (record { slot = 1; request = once_more (idle 1 1); is = refl; active = refl; member_is = refl; start = 1; key_is = refl; last = refl }),
        refl,
      );
    })

gather_10 : Enters two_ranks ended_one (Retired 1 (ticket 1 1) 0 0 1 (2 ∷ 20 ∷ [])) ended
gather_10 = record {
  request = once_more (idle 1 1);
  sig = gather;
  accepted = refl;
  is = refl;
  comm_is = refl;
  place_is = refl;
  ready = record { active = refl; start_is = refl; sig_is = refl; needed = needed_all (ended_one.given (key 1)) (2 ∷ []) (20 ∷ []) refl refl 1 };
  bytes_is = refl;
  leaves = inl (
    over_two (holding ended_one 1 (Some (idle 1 2))) 1 (2 ∷ []) (20 ∷ [])
        (low_left ended_one (take 9 two_starts) 1 (once_more (idle 1 1)) (Some (idle 1 2)) gather_9 refl) refl refl
        (idle_leaves (key 1) (idle 0 2) refl) (idle_leaves (key 1) (idle 1 2) refl),
    refl,
  );
}

gather_12 : Leads two_ranks nothing two_starts freed
gather_12 = leads_push two_ranks nothing freed_one freed (take 11 two_starts) (Freed 1 (ticket 1 1))
    (leads_push two_ranks nothing ended freed_one (take 10 two_starts) (Freed 0 (ticket 0 1))
    (leads_push two_ranks nothing ended_one ended (take 9 two_starts) (Retired 1 (ticket 1 1) 0 0 1 (2 ∷ 20 ∷ [])) gather_9 gather_10)
    (record { accepted = refl; leaves = refl }))
    (record { accepted = refl; leaves = refl })

pub rows_are_legal : RowsAreLegal
rows_are_legal = (record { leads = bcast_4; room = omega arith }, record { leads = gather_12; room = omega arith })

-- ---- the barrier

pub barrier_waits : BarrierWaits
barrier_waits comm place start bytes u r =
    let q = same_Some (once_more (request_of 0)) r.request r.is in
    let sig = same_Some barrier r.sig ((λ z. signature_of waiting (q z)) ∙ r.ready.sig_is) in
    let begun : suc start ≡ 1 = r.ready.start_is ∙ ap (λ (q : Request). q.starts) (sym q) in
    let number : start ≡ 0 = omega arith in
    r.ready.needed 1 (λ z. needs (sym sig z) (size two_ranks (sym q z).comm) (sym q z).member 1) (λ z. waiting.given (key_of (sym q z) (number z)) 1)
