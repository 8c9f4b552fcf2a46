-- A request that was started, and that no call which completes requests has named since, is active: each step of a job
-- keeps it.
use Rattle.std.proofs.Common.{◌≡◌, ℕ, suc, ◌<◌, ◌⊎◌, inl, inr, Bool, true, false, ◌||◌, cond, eqb, List, [], ◌∷◌, Option, Some, None, refl, sym, ap}
use Rattle.std.proofs.Common.{subst, ◌∙◌, arith}
use Rattle.std.proofs.lemmas.Bool.{cases_eq, false≢true}
use Rattle.std.proofs.lemmas.Option.{none-some, same_Some}
use Rattle.coll_kinds.specs.declared.signature.Signature.{Signature}
use Rattle.coll_kinds.specs.declared.ticket.Ticket.{Ticket}
use Rattle.coll_kinds.specs.Common.{is_among, put}
use Rattle.coll_kinds.proofs.Puts.{put_same, put_other, put_at}
use Rattle.coll_machine.specs.Common.{Setting, Request, State, Machine, found, once_more, started, rested, Starts, Retires, MachineStep}
use Rattle.coll_machine.specs.Calls as calls
use Rattle.coll_machine.proofs.Accepted.{found_is, freed_mine}
use Rattle.coll_parser.specs.declared.command.Command.{Command}
use Rattle.coll_verdict.specs.Standings.{Holding, holding_at, one_more, kept, active_in, is_active, Completes, Carries}
use Rattle.coll_verdict.specs.Standings as standings
use Rattle.coll_verdict.specs.Sketches.{Sketch, making, starting, naming, resting, sketched}
use Rattle.coll_verdict.specs.Passes.{IsSure}
use Rattle.coll_verdict.proofs.Agreeing.{Moves, Makes}
use Rattle.coll_verdict.proofs.Changing.{makes_init, makes_post, leaves_retired, leaves_freed, leaves_moves}
use Rattle.coll_verdict.proofs.Tracking.{found_at, Tracks, Follows, further, NeverDone, put_own, own_put, post_is, init_is, start_is, free_is}
use Rattle.coll_verdict.proofs.Tracking.{retire_is, finish_is, started_moves, retired_step}

-- ---- one slot changes

-- what stands in another slot is as active as it was
stays_active : (m n : Machine) (slot : ℕ) (o : Option Ticket) → Moves m.state n.state slot
    → ((u : Ticket) → o ≡ Some u → u.slot ≡ slot → ⊥) → is_active m o ≡ true → is_active n o ≡ true
stays_active m n slot None moves off active = active
stays_active m n slot (Some u) moves off active = ap active_in same ∙ active
  where
    same : found n.state u ≡ found m.state u
    same = λ z. cond (eqb (moves.generation u.slot (off u refl) z) u.generation) (moves.request u.slot (off u refl) z) None

-- another of a rank's requests, and one of another rank, stand in other slots
other_slot : (up : ℕ → ℕ → ℕ → Type 0) (g : Setting) (m : Machine) (h : ℕ → Holding) (k : ℕ → Sketch) (rank p : ℕ) (t : Ticket)
    → Tracks up g m h k → (h rank).of p ≡ Some t
    → (r q : ℕ) (u : Ticket) → (h r).of q ≡ Some u → ((r ≡ rank) × (q ≡ p) → ⊥) → u.slot ≡ t.slot → ⊥
other_slot up g m h k rank p t tr held r q u mine d e =
    let l = (tr.agrees rank).live p t held in
    let j = (tr.agrees r).live q u mine in
    let same : j.0 ≡ l.0 = same_Some j.0 l.0 (sym j.1.is ∙ (ap m.state.request e ∙ l.1.is)) in
    let owner : r ≡ rank = sym j.1.rank_is ∙ (ap (λ (x : Request). x.rank) same ∙ l.1.rank_is) in
    d (owner, (tr.agrees rank).apart q p u t (ap (λ (r : ℕ). (h r).of q) (sym owner) ∙ mine) held e)

-- no request stands in a spare one
spare_slot : (up : ℕ → ℕ → ℕ → Type 0) (g : Setting) (m : Machine) (h : ℕ → Holding) (k : ℕ → Sketch) (slot : ℕ)
    → Tracks up g m h k → m.state.request slot ≡ None
    → (r q : ℕ) (u : Ticket) → (h r).of q ≡ Some u → u.slot ≡ slot → ⊥
spare_slot up g m h k slot tr spare r q u mine e =
    let j = (tr.agrees r).live q u mine in
    none-some j.0 (sym spare ∙ (ap m.state.request (sym e) ∙ j.1.is))

-- where a rank holds the same of a request, all ranks do
same_held : (h : ℕ → Holding) (rank : ℕ) (x y : Holding) (r q : ℕ) → (r ≡ rank → y.of q ≡ x.of q) → (put h rank y r).of q ≡ (put h rank x r).of q
same_held h rank x y r q same = go (cases_eq r rank)
  where
    go : (r ≡ rank) ⊎ (r ≡ rank → ⊥) → (put h rank y r).of q ≡ (put h rank x r).of q
    go (inl e) = ap (λ (i : Holding). i.of q) (put_at h rank y r e) ∙ (same e ∙ sym (ap (λ (i : Holding). i.of q) (put_at h rank x r e)))
    go (inr d) = ap (λ (i : Holding). i.of q) (put_other h rank y r d) ∙ sym (ap (λ (i : Holding). i.of q) (put_other h rank x r d))

-- ---- all ranks

abbrev pub AreSure : Machine → (ℕ → Holding) → (ℕ → Sketch) → Type 0
AreSure m h k = (rank q : ℕ) → IsSure (k rank) q → is_active m ((h rank).of q) ≡ true

-- a step changes what a rank holds of one request, and what stands in that one's slot
touched : (m n : Machine) (h : ℕ → Holding) (x y : Holding) (k : ℕ → Sketch) (rank p slot : ℕ) (j : Sketch)
    → AreSure m (put h rank x) k → Moves m.state n.state slot
    → ((r q : ℕ) (u : Ticket) → (put h rank x r).of q ≡ Some u → ((r ≡ rank) × (q ≡ p) → ⊥) → u.slot ≡ slot → ⊥)
    → ((q : ℕ) → (q ≡ p → ⊥) → y.of q ≡ x.of q)
    → ((q : ℕ) → (q ≡ p → ⊥) → IsSure j q → IsSure (k rank) q)
    → (IsSure j p → is_active n (y.of p) ≡ true)
    → AreSure n (put h rank y) (put k rank j)
touched m n h x y k rank p slot j sure moves off same only own = λ r q known. go r q known (cases_eq r rank) (cases_eq q p)
  where
    spared : (r q : ℕ) → ((r ≡ rank) × (q ≡ p) → ⊥) → IsSure (k r) q → is_active n ((put h rank y r).of q) ≡ true
    spared r q d was =
        ap (is_active n) (same_held h rank x y r q (λ e. same q (λ z. d (e, z))))
        ∙ stays_active m n slot ((put h rank x r).of q) moves (λ u e. off r q u e d) (sure r q was)

    mine : (r q : ℕ) → IsSure (put k rank j r) q → r ≡ rank → IsSure j q
    mine r q known e = subst (λ (s : Sketch). IsSure s q) (put_at k rank j r e) known

    go : (r q : ℕ) → IsSure (put k rank j r) q → (r ≡ rank) ⊎ (r ≡ rank → ⊥) → (q ≡ p) ⊎ (q ≡ p → ⊥) → is_active n ((put h rank y r).of q) ≡ true
    go r q known (inl e) (inl z) =
        ap (λ (i : Holding). is_active n (i.of q)) (put_at h rank y r e)
        ∙ (ap (λ (q : ℕ). is_active n (y.of q)) z ∙ own (subst (IsSure j) z (mine r q known e)))
    go r q known (inl e) (inr d) = spared r q (λ w. d w.1) (subst (λ (r : ℕ). IsSure (k r) q) (sym e) (only q d (mine r q known e)))
    go r q known (inr d) other = spared r q (λ w. d w.0) (subst (λ (s : Sketch). IsSure s q) (put_other k rank j r d) known)

-- what a rank holds written where it is
written : (m : Machine) (h : ℕ → Holding) (k : ℕ → Sketch) (rank : ℕ) → AreSure m h k → AreSure m (put h rank (h rank)) k
written m h k rank sure = subst (λ (h : ℕ → Holding). AreSure m h k) (sym (put_own h rank)) sure

-- ---- a rank makes a request

none_below : (n : ℕ) → n < 0 → ⊥
none_below n l = absurd (omega arith)

makes_sure : (up : ℕ → ℕ → ℕ → Type 0) (g : Setting) (m n : Machine) (h : ℕ → Holding) (k : ℕ → Sketch) (rank comm member : ℕ)
    (t : Ticket) (sig : Signature) (starts : ℕ) (active : Bool) → Tracks up g m h k → AreSure m h k
    → Makes g m.state n.state rank comm member t sig starts active → (0 < starts → active ≡ true)
    → AreSure n (put h rank (one_more (h rank) t)) (put k rank (making (k rank) comm sig starts))
makes_sure up g m n h k rank comm member t sig starts active tr sure mk fits =
    touched m n h (h rank) (one_more (h rank) t) k rank (h rank).made t.slot (making (k rank) comm sig starts) (written m h k rank sure) mk.moves
    (λ r q u e d. spare_slot up g m (put h rank (h rank)) k t.slot (own_put up g m h k rank tr) mk.spare r q u e)
    (λ q d. put_other (h rank).of (h rank).made (Some t) q d)
    before new
  where
    made : (h rank).made ≡ (k rank).made
    made = (tr.agrees rank).made

    before : (q : ℕ) → (q ≡ (h rank).made → ⊥) → IsSure (making (k rank) comm sig starts) q → IsSure (k rank) q
    before q d s = record {
      begun = subst (λ (c : ℕ). 0 < c) (put_other (k rank).starts (k rank).made starts q (λ e. d (e ∙ sym made))) s.begun;
      unnamed = sym (put_other (k rank).named (k rank).made false q (λ e. d (e ∙ sym made))) ∙ s.unnamed;
    }

    new : IsSure (making (k rank) comm sig starts) (h rank).made → is_active n ((one_more (h rank) t).of (h rank).made) ≡ true
    new s =
        let begun : 0 < starts = subst (λ (c : ℕ). 0 < c) (put_at (k rank).starts (k rank).made starts (h rank).made made) s.begun in
        ap (is_active n) (put_same (h rank).of (h rank).made (Some t))
        ∙ (ap active_in (found_at n.state t mk.request mk.current mk.is) ∙ mk.active_is (fits begun))

-- ---- a rank starts a request

starts_sure : (up : ℕ → ℕ → ℕ → Type 0) (g : Setting) (m n : Machine) (h : ℕ → Holding) (k : ℕ → Sketch) (rank q : ℕ) (given : List ℕ) (t : Ticket)
    → Tracks up g m h k → AreSure m h k → (h rank).of q ≡ Some t
    → MachineStep g m (calls.Start rank t given) calls.Nothing n → AreSure n (put h rank (h rank)) (put k rank (starting (k rank) q))
starts_sure up g m n h k rank q given t tr sure held step = go (start_is g rank t given m n step)
  where
    mine : (put h rank (h rank) rank).of q ≡ Some t
    mine = ap (λ (i : Holding). i.of q) (put_same h rank (h rank)) ∙ held

    before : (p : ℕ) → (p ≡ q → ⊥) → IsSure (starting (k rank) q) p → IsSure (k rank) p
    before p d s = record {
      begun = subst (λ (c : ℕ). 0 < c) (put_other (k rank).starts q (suc ((k rank).starts q)) p d) s.begun;
      unnamed = sym (put_other (k rank).named q false p d) ∙ s.unnamed;
    }

    go : (begin : ℕ) × Starts g m.state rank t begin given n.state → AreSure n (put h rank (h rank)) (put k rank (starting (k rank) q))
    go p =
        touched m n h (h rank) (h rank) k rank q t.slot (starting (k rank) q) (written m h k rank sure)
        (subst (λ (s : State). Moves m.state s t.slot) (sym p.1.leaves) (started_moves m.state t.slot p.1.request given))
        (λ r p u e d. other_slot up g m (put h rank (h rank)) k rank q t (own_put up g m h k rank tr) mine r p u e d)
        (λ p d. refl)
        before
        (λ s. ap (is_active n) held ∙ subst (λ (s : State). active_in (found s t) ≡ true) (sym p.1.leaves) there)
      where
        there : active_in (found (started m.state t.slot p.1.request given) t) ≡ true
        there = ap active_in (found_at (started m.state t.slot p.1.request given) t (once_more p.1.request)
            (found_is m.state t p.1.request p.1.is).0 (put_same m.state.request t.slot (Some (once_more p.1.request))))

-- ---- a request is gone, or completed

frees_sure : (up : ℕ → ℕ → ℕ → Type 0) (g : Setting) (m n : Machine) (h : ℕ → Holding) (k : ℕ → Sketch) (rank q : ℕ) (t : Ticket)
    → Tracks up g m h k → AreSure m h k → (h rank).of q ≡ Some t
    → MachineStep g m (calls.Free rank t) calls.Nothing n → AreSure n (put h rank (holding_at (h rank) q (kept n.state t))) (put k rank (k rank))
frees_sure up g m n h k rank q t tr sure held step =
    touched m n h (h rank) (holding_at (h rank) q (kept n.state t)) k rank q t.slot (k rank) (written m h k rank sure)
    (leaves_moves m.state n.state t.slot None (leaves_freed g m.state n.state rank t (free_is g rank t m n step)))
    (λ r p u e d. other_slot up g m (put h rank (h rank)) k rank q t (own_put up g m h k rank tr) mine r p u e d)
    (λ p d. put_other (h rank).of q (kept n.state t) p d)
    (λ p d s. s)
    (λ s. absurd (never s))
  where
    mine : (put h rank (h rank) rank).of q ≡ Some t
    mine = ap (λ (i : Holding). i.of q) (put_same h rank (h rank)) ∙ held

    -- an active one can't be freed
    never : IsSure (k rank) q → ⊥
    never s =
        let l = (tr.agrees rank).live q t held in
        let p = free_is g rank t m n step in
        let f = freed_mine g m.state rank t p.accepted in
        let same : f.request ≡ l.0 = same_Some f.request l.0 (sym f.is ∙ l.1.is) in
        let idle : l.0.active ≡ false = ap (λ (r : Request). r.active) (sym same) ∙ f.idle_of.idle in
        let active : is_active m (Some t) ≡ true = sym (ap (is_active m) held) ∙ sure rank q s in
        let is : l.0.active ≡ true = sym (ap active_in (found_at m.state t l.0 l.1.current l.1.is)) ∙ active in
        false≢true (sym idle ∙ is)

retires_sure : (up : ℕ → ℕ → ℕ → Type 0) (g : Setting) (m n : Machine) (h : ℕ → Holding) (x : Holding) (k j : ℕ → Sketch)
    (rank q comm place begin : ℕ) (bytes : List ℕ) (t : Ticket) → (IsSure (j rank) q → ⊥)
    → Tracks up g m (put h rank x) k → AreSure m (put h rank x) j → x.of q ≡ Some t
    → MachineStep g m (calls.Retire rank t) (calls.Outcome rank comm place begin bytes) n → AreSure n (put h rank (holding_at x q (kept n.state t))) j
retires_sure up g m n h x k j rank q comm place begin bytes t none tr sure held step =
    subst (λ (j : ℕ → Sketch). AreSure n (put h rank (holding_at x q (kept n.state t))) j) (put_own j rank) after
  where
    r : Retires g m.state rank t comm place begin bytes n.state
    r = (retire_is g rank rank comm place begin bytes t m n step).0

    mine : (put h rank x rank).of q ≡ Some t
    mine = ap (λ (i : Holding). i.of q) (put_same h rank x) ∙ held

    after : AreSure n (put h rank (holding_at x q (kept n.state t))) (put j rank (j rank))
    after =
        touched m n h x (holding_at x q (kept n.state t)) j rank q t.slot (j rank) sure
        (leaves_moves m.state n.state t.slot (rested r.request) (leaves_retired g m.state n.state rank comm place begin bytes t r))
        (λ s p u e d. other_slot up g m (put h rank x) k rank q t tr mine s p u e d)
        (λ p d. put_other x.of q (kept n.state t) p d)
        (λ p d s. s)
        (λ s. absurd (none s))

completes_sure : (up : ℕ → ℕ → ℕ → Type 0) (g : Setting) (rank : ℕ) (qs : List ℕ) (h : ℕ → Holding) (k j : ℕ → Sketch)
    → ((q : ℕ) → is_among q qs ≡ true → IsSure (j rank) q → ⊥)
    → (m n : Machine) (x y : Holding) → NeverDone up g m k → Tracks up g m (put h rank x) k → AreSure m (put h rank x) j
    → Completes g rank qs m x n y → AreSure n (put h rank y) j
completes_sure up g rank qs h k j none _ _ _ _ never tr sure standings.none = sure
completes_sure up g rank qs h k j none _ _ _ _ never tr sure
    (standings.another {m = m} {n = mid} {last = n} {h = x} {i = y} q comm place begin bytes t among held step more) =
    completes_sure up g rank qs h k j none mid n (holding_at x q (kept mid.state t)) y (λ m f. never m (further rank comm place begin bytes t step f))
    (retired_step up g m mid h x k rank q comm place begin bytes t never tr held step)
    (retires_sure up g m mid h x k j rank q comm place begin bytes t (none q among) tr sure held step) more

both_false : (a b : Bool) → (a || b) ≡ false → (a ≡ false) × (b ≡ false)
both_false true b e = absurd (false≢true (sym e))
both_false false b e = (refl, e)

-- a call that names these requests completes some of them
waits_sure : (up : ℕ → ℕ → ℕ → Type 0) (g : Setting) (m n : Machine) (h : ℕ → Holding) (i : Holding) (k : ℕ → Sketch) (rank : ℕ) (qs : List ℕ)
    → NeverDone up g m k → Tracks up g m h k → AreSure m h k → Completes g rank qs m (h rank) n i
    → (j : Sketch) → ((q : ℕ) → j.starts q ≡ (k rank).starts q) → ((q : ℕ) → j.named q ≡ ((k rank).named q || is_among q qs))
    → AreSure n (put h rank i) (put k rank j)
waits_sure up g m n h i k rank qs never tr sure done j starts named =
    completes_sure up g rank qs h k (put k rank j) none m n (h rank) i never (own_put up g m h k rank tr) (written m h (put k rank j) rank fewer) done
  where
    none : (q : ℕ) → is_among q qs ≡ true → IsSure (put k rank j rank) q → ⊥
    none q among s =
        let now : IsSure j q = subst (λ (s : Sketch). IsSure s q) (put_same k rank j) s in
        false≢true (sym (both_false ((k rank).named q) (is_among q qs) (sym (named q) ∙ now.unnamed)).1 ∙ among)

    was : (q : ℕ) → IsSure j q → IsSure (k rank) q
    was q s = record {
      begun = subst (λ (c : ℕ). 0 < c) (starts q) s.begun;
      unnamed = (both_false ((k rank).named q) (is_among q qs) (sym (named q) ∙ s.unnamed)).0;
    }

    fewer : AreSure m h (put k rank j)
    fewer r q s = sure r q (go (cases_eq r rank))
      where
        go : (r ≡ rank) ⊎ (r ≡ rank → ⊥) → IsSure (k r) q
        go (inl e) = subst (λ (r : ℕ). IsSure (k r) q) (sym e) (was q (subst (λ (s : Sketch). IsSure s q) (put_at k rank j r e) s))
        go (inr d) = subst (λ (s : Sketch). IsSure s q) (put_other k rank j r d) s

-- ---- a rank carries a command out

pub carried_sure : (up : ℕ → ℕ → ℕ → Type 0) (g : Setting) (m : Machine) (h : ℕ → Holding) (k : ℕ → Sketch) (rank : ℕ)
    → NeverDone up g m k → Tracks up g m h k → AreSure m h k
    → (c : Command) (n : Machine) (i : Holding) → Carries g rank m (h rank) c n i → AreSure n (put h rank i) (put k rank (sketched c (k rank)))
carried_sure up g m h k rank never tr sure _ _ _ (standings.post {n} comm sig given plan t e step) =
    let p = post_is g rank comm plan given t m n step in
    let mk = makes_post g m.state n.state rank comm p.0 plan given t p.1 in
    subst (λ (sig : Signature). AreSure n (put h rank (one_more (h rank) t)) (put k rank (making (k rank) comm sig 1))) e
    (makes_sure up g m n h k rank comm p.1.member t plan.sig 1 true tr sure mk (λ l. refl))
carried_sure up g m h k rank never tr sure _ _ _ (standings.init {n} comm sig plan t e step) =
    let p = init_is g rank comm plan t m n step in
    let mk = makes_init g m.state n.state rank comm p.0 plan t p.1 in
    subst (λ (sig : Signature). AreSure n (put h rank (one_more (h rank) t)) (put k rank (making (k rank) comm sig 0))) e
    (makes_sure up g m n h k rank comm p.1.member t plan.sig 0 false tr sure mk (λ l. absurd (none_below 0 l)))
carried_sure up g m h k rank never tr sure _ _ _ (standings.start {n} q given t held step) = starts_sure up g m n h k rank q given t tr sure held step
carried_sure up g m h k rank never tr sure _ _ _ (standings.free {n} q t held step) = frees_sure up g m n h k rank q t tr sure held step
carried_sure up g m h k rank never tr sure _ _ _ (standings.test {n} {i} q done over) =
    waits_sure up g m n h i k rank (q ∷ []) never tr sure done (naming (k rank) (q ∷ [])) (λ p. refl) (λ p. refl)
carried_sure up g m h k rank never tr sure _ _ _ (standings.wait {n} {i} q ready done over) =
    waits_sure up g m n h i k rank (q ∷ []) never tr sure done (resting (k rank) (q ∷ [])) (λ p. refl) (λ p. refl)
carried_sure up g m h k rank never tr sure _ _ _ (standings.wait_all {n} {i} qs ready done over) =
    waits_sure up g m n h i k rank qs never tr sure done (resting (k rank) qs) (λ p. refl) (λ p. refl)
carried_sure up g m h k rank never tr sure _ _ _ (standings.wait_some {n} {i} qs ready done over) =
    waits_sure up g m n h i k rank qs never tr sure done (naming (k rank) qs) (λ p. refl) (λ p. refl)
carried_sure up g m h k rank never tr sure _ _ _ (standings.wait_for_none qs idle) =
    waits_sure up g m m h (h rank) k rank qs never tr sure standings.none (naming (k rank) qs) (λ p. refl) (λ p. refl)
carried_sure up g m h k rank never tr sure _ _ _ (standings.wait_any {n} qs q comm place begin bytes t among held step) =
    waits_sure up g m n h (holding_at (h rank) q (kept n.state t)) k rank qs never tr sure
    (standings.another q comm place begin bytes t among held step standings.none) (naming (k rank) qs) (λ p. refl) (λ p. refl)

-- ---- a request becomes Done

same_active : (m n : Machine) (o : Option Ticket) → n.state ≡ m.state → is_active n o ≡ is_active m o
same_active m n None e = refl
same_active m n (Some t) e = ap (λ (s : State). active_in (found s t)) e

pub finished_sure : (g : Setting) (m n : Machine) (h : ℕ → Holding) (k : ℕ → Sketch) → AreSure m h k
    → MachineStep g m calls.Finish calls.Nothing n → AreSure n h k
finished_sure g m n h k sure step r q s = same_active m n ((h r).of q) (finish_is g m n step) ∙ sure r q s
