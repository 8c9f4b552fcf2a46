-- What the engine's condition says of a live request.
use Rattle.std.proofs.Common.{◌≡◌, ◌<◌, ◌≤◌, ◌+◌, ◌*◌, ℕ, Bool, true, false, List, [], length, slice_get, unwrap_or, nat_lt, Option, Some, option_map}
use Rattle.std.proofs.Common.{ap, refl, sym, subst, arith}
use Rattle.std.proofs.lemmas.Bool.Decides.{nat_tests}
use Rattle.std.proofs.lemmas.Option.{slice_get_past}
use Rattle.coll_sched.specs.Regions.{Inside}
use Rattle.coll_plans.specs.Plans.{IsPlanned, family}
use Rattle.coll_arena.specs.ListNames.{list_count}
use Rattle.coll_arena.specs.Slots.{Slots, home, record_in}
use Rattle.coll_refinement.specs.Shown.{listed, seen as seen_on}
use Rattle.coll_core.specs.declared.request.Request.{Request}
use Rattle.coll_core.specs.Requests.{schedule, shown}
use Rattle.coll_core.specs.Cores.{IsCore, Parts, tables}

-- what the tables show in its slot
pub live : (p : Parts) (i : ℕ) (r : Request) → record_in p.arena i ≡ Some r
    → (tables p).request i ≡ Some (listed (home p.arena i) (shown r))
live p i r e = ap (λ o. seen_on (home p.arena i) (option_map shown o)) e

below : (n c : ℕ) → true ≡ nat_lt c n → c < n
below n c e = grind (arith, nat_tests)

past : (n c : ℕ) → false ≡ nat_lt c n → n ≤ c
past n c e = grind (arith, nat_tests)

group_in : (gs : List (List ℕ)) (c m : ℕ) (low : Bool) → low ≡ nat_lt c (length gs)
    → m < length (unwrap_or (slice_get gs c) []) → c < length gs
group_in gs c m true e h = below (length gs) c e
group_in gs c m false e h =
    absurd (zero_less m (subst (λ (o : Option (List ℕ)). m < length (unwrap_or o [])) (slice_get_past gs c (past (length gs) c e)) h))
  where
    zero_less : (k : ℕ) → k < 0 → ⊥
    zero_less k h = omega arith

-- its communicator is one of the arena's
pub comm_in : (p : Parts) (i : ℕ) (r : Request) → IsCore p → record_in p.arena i ≡ Some r → r.comm < p.arena.comms
comm_in p i r c e =
    subst (λ n. r.comm < n) c.set.comms_is
    (group_in _ r.comm r.plan.member _ refl (c.sound.sound.base.member_in i (listed (home p.arena i) (shown r)) (live p i r e)))

-- so are its lists
pub list_in : (p : Parts) (a : Slots Request) (i k : ℕ) (r : Request) → IsCore p → p.arena ≡ a
    → record_in p.arena i ≡ Some r → k < 7 → k + 3 * r.comm < list_count a.comms
list_in p a i k r c same e h = low r.comm p.arena.comms k a.comms (comm_in p i r c e) (ap (λ b. b.comms) same) h
  where
    low : (comm comms k n : ℕ) → comm < comms → comms ≡ n → k < 7 → k + 3 * comm < 4 + 3 * n
    low comm comms k n h e g = omega arith

-- its family serves its signature
pub planned : (p : Parts) (i : ℕ) (r : Request) → IsCore p → record_in p.arena i ≡ Some r
    → IsPlanned r.plan.sig r.plan.n (family r.plan.sig r.plan.n)
planned p i r c e =
    let b = c.sound.sound.base in
    let q = listed (home p.arena i) (shown r) in
    let here = live p i r e in
    subst (λ n. IsPlanned r.plan.sig n (family r.plan.sig n)) (sym (b.sized i q here))
    (b.planned r.comm r.place r.plan.sig (b.agreed r.comm r.plan.member r.place r.plan.sig (b.own i q here)))

pub member_in : (p : Parts) (i : ℕ) (r : Request) → IsCore p → record_in p.arena i ≡ Some r → r.plan.member < r.plan.n
member_in p i r c e =
    let b = c.sound.sound.base in
    let q = listed (home p.arena i) (shown r) in
    let here = live p i r e in
    subst (λ n. r.plan.member < n) (sym (b.sized i q here)) (b.member_in i q here)

-- so its outcome lies in its buffer while that is there
pub outcome_in : (p : Parts) (i : ℕ) (r : Request) → IsCore p → record_in p.arena i ≡ Some r
    → length r.buffer ≡ (schedule (shown r)).size → Inside (length r.buffer) (schedule (shown r)).output
outcome_in p i r c e filled =
    subst (λ n. Inside n (schedule (shown r)).output) (sym filled)
    ((planned p i r c e).serves.lawful.schedules r.plan.member (member_in p i r c e)).output_inside
