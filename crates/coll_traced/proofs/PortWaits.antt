-- What is noted where one port changes.
use Rattle.std.proofs.Common.{◌≡◌, ◌↔◌, ◌⊎◌, ◌<◌, ◌≤◌, ◌+◌, ℕ, zero, suc, List, [], ◌∷◌, ◌++◌, length, get_or, take, drop, inl, inr, is_ok, refl, sym}
use Rattle.std.proofs.Common.{ap, subst, ◌∙◌, slice_set, vec_capacity, arith}
use Rattle.std.specs.Prelude.{All, Bool, false, true, OnErr, OnOk, Any, Ok, Err, Result, Some, None, map, replicate, option_map, slice_get}
use Rattle.std.proofs.lemmas.Bool.{cases_eq}
use Rattle.std.proofs.lemmas.List.{get_or-map, get_or-set_other, get_or-set_same, length-map, length-set, map-set, set-get_or, take-append-le, take_all}
use Rattle.std.proofs.lemmas.Option.{same_Some, slice_get-map}
use Rattle.std.proofs.lemmas.Nat.Bits.{bit_at-zero}
use Rattle.std.specs.Int.{bit_at}
use Rattle.std.proofs.lemmas.List.Elements.{All-get_or, All-map}
use Rattle.coll_kinds.specs.declared.refusal.Refusal.{Refusal}
use Rattle.coll_kinds.specs.declared.ticket.Ticket.{Ticket}
use Rattle.coll_traced.specs.declared.port_wait.PortWait.{PortWait}
use Rattle.coll_traced.specs.declared.waiting.Waiting.{Waiting}
use Rattle.coll_traced.specs.declared.waiting.Waiting.TheVariants as waiting
use Rattle.coll_core.specs.Cores.{Parts}
use Rattle.coll_traced.specs.Ranks.{AreWith, AreWithout, IsIn}
use Rattle.coll_traced.specs.Stalls.{AreFree, AreHeldUp, AreMet, IsBlocked, IsFree, IsHeldUp, IsMet, IsRightlyMarked}
use Rattle.coll_traced.specs.Waits.{AreWaiting, Awake, ForAny, IsForSome, IsKept, IsMarked, IsRoomy, IsWaiting, WaitFor, Waiters, mark_in, wait_in, wait_of}

-- where one port changes one note does
pub waits-set : (ports : List PortWait) (marks : List Bool) (slots : ℕ) (n : Waiters) (i : ℕ) (port : PortWait) (note : WaitFor)
    → record { waits = map wait_in ports; marks = marks; slots = slots } ≡ n
    → wait_in port ≡ note → map wait_in (slice_set ports i port) ≡ slice_set n.waits i note
waits-set ports marks slots n i port note view is =
    map-set wait_in ports i port
    ∙ (ap (λ a. slice_set (map wait_in ports) i a) is
    ∙ ap (λ (m : Waiters). slice_set m.waits i note) view)

pub wait_of-equal : (port : PortWait) (how : Waiting) (tickets : List Ticket) → port.how ≡ how → port.tickets.items ≡ tickets
    → wait_in port ≡ wait_of how tickets
wait_of-equal port how tickets is are = ap (λ r. wait_of r port.tickets.items) is ∙ ap (λ ts. wait_of how ts) are

pub waits-put : (ports : List PortWait) (marks : List Bool) (slots : ℕ) (n : Waiters) (i : ℕ) (port : PortWait) (how : Waiting) (tickets : List Ticket)
    → record { waits = map wait_in ports; marks = marks; slots = slots } ≡ n → port.how ≡ how → port.tickets.items ≡ tickets
    → map wait_in (slice_set ports i port) ≡ slice_set n.waits i (wait_of how tickets)
waits-put ports marks slots n i port how tickets view is are =
    waits-set ports marks slots n i port (wait_of how tickets) view (wait_of-equal port how tickets is are)

-- a list is noted
pub waits-listed : (ports : List PortWait) (marks : List Bool) (slots : ℕ) (n : Waiters) (i : ℕ) (port : PortWait)
    (tickets : List Ticket) (r : Result (Unit {0}) Refusal)
    → record { waits = map wait_in ports; marks = marks; slots = slots } ≡ n → OnOk r (port.how ≡ waiting.ForAny i) → OnOk r (port.tickets.items ≡ tickets)
    → OnOk r (map wait_in (slice_set ports i port) ≡ slice_set n.waits i (ForAny i tickets))
waits-listed ports marks slots n i port tickets (Ok x) view is are = waits-put ports marks slots n i port (waiting.ForAny i) tickets view is are
waits-listed ports marks slots n i port tickets (Err why) view is are = tt

-- or the port is awake
pub waits-unlisted : (ports : List PortWait) (marks : List Bool) (slots : ℕ) (n : Waiters) (i : ℕ) (port : PortWait) (r : Result (Unit {0}) Refusal)
    → record { waits = map wait_in ports; marks = marks; slots = slots } ≡ n → OnErr r (port.how ≡ waiting.Awake)
    → OnErr r (map wait_in (slice_set ports i port) ≡ slice_set n.waits i Awake)
waits-unlisted ports marks slots n i port (Ok x) view is = tt
waits-unlisted ports marks slots n i port (Err why) view is =
    waits-put ports marks slots n i port waiting.Awake port.tickets.items view is refl

-- what holds of the note in each port holds of each note
all_waits : (P : WaitFor → Type 0) (ports : List PortWait) → All P (map wait_in ports) → All (λ port. P (wait_in port)) ports
all_waits P ports all k d lt =
    subst P (get_or-map wait_in ports k d (wait_in d) lt)
    (All-get_or P (map wait_in ports) k (wait_in d) (subst (λ n. k < n) (sym (length-map ports wait_in)) lt) all)

pub all-waits : (P : WaitFor → Type 0) (ports : List PortWait) (marks : List Bool) (slots : ℕ) (n : Waiters) (Yes : Type 0)
    → record { waits = map wait_in ports; marks = marks; slots = slots } ≡ n → Yes ↔ All (λ port. P (wait_in port)) ports → Yes ↔ All P n.waits
all-waits P ports marks slots n Yes view is =
    subst (λ (m : Waiters). Yes ↔ All P m.waits) view
    ((λ y. All-map P wait_in ports (is.0 y)), (λ all. is.1 (all_waits P ports all)))

-- where one port is noted anew its mark goes
pub marks-set : (ports : List PortWait) (waits : List WaitFor) (slots : ℕ) (n : Waiters) (i : ℕ) (port : PortWait)
    → record { waits = waits; marks = map mark_in ports; slots = slots } ≡ n → port.is_stalled ≡ false
    → map mark_in (slice_set ports i port) ≡ slice_set n.marks i false
marks-set ports waits slots n i port view is =
    map-set mark_in ports i port
    ∙ (ap (λ b. slice_set (map mark_in ports) i b) is
    ∙ ap (λ (m : Waiters). slice_set m.marks i false) view)

-- what is written at one place leaves the others
pub slice_get-set_other : {X : Type 0} (xs : List X) (i j : ℕ) (x : X) → (j ≡ i → ⊥) → slice_get (slice_set xs i x) j ≡ slice_get xs j
slice_get-set_other [] i j x differs = refl
slice_get-set_other (y ∷ xs) zero zero x differs = absurd (differs refl)
slice_get-set_other (y ∷ xs) zero (suc j) x differs = refl
slice_get-set_other (y ∷ xs) (suc i) zero x differs = refl
slice_get-set_other (y ∷ xs) (suc i) (suc j) x differs = slice_get-set_other xs i j x (λ same. differs (ap suc same))

-- what is written over all of a list is the whole
pub written_whole : (n : ℕ) (xs ys : List PortWait) → length xs ≡ n → take n (xs ++ drop (length xs) ys) ≡ xs
written_whole n xs ys is = take-append-le n xs (drop (length xs) ys) (omega arith) ∙ take_all n xs (omega arith)

-- the port that is there is marked, or not
pub marked-at : (ports : List PortWait) (slots : ℕ) (n : Waiters) (i : ℕ) (port : PortWait) (b : Bool)
    → record { waits = map wait_in ports; marks = map mark_in ports; slots = slots } ≡ n → slice_get ports i ≡ Some port → b ≡ mark_in port
    → (b ≡ true) ↔ IsMarked n.waits n.marks i
marked-at ports slots n i port b view there is =
    let mark : slice_get (map mark_in ports) i ≡ Some (mark_in port) = slice_get-map mark_in ports i ∙ ap (λ o. option_map mark_in o) there in
    subst (λ (m : Waiters). (b ≡ true) ↔ IsMarked m.waits m.marks i) view (
      (λ so. (wait_in port, slice_get-map wait_in ports i ∙ ap (λ o. option_map wait_in o) there, mark ∙ ap (λ b. Some b) (sym is ∙ so))),
      (λ marked. is ∙ same_Some _ _ (sym mark ∙ marked.2)),
    )

-- where there is none, none is
pub unmarked-at : (ports : List PortWait) (slots : ℕ) (n : Waiters) (i : ℕ)
    → record { waits = map wait_in ports; marks = map mark_in ports; slots = slots } ≡ n → slice_get ports i ≡ None
    → (false ≡ true) ↔ IsMarked n.waits n.marks i
unmarked-at ports slots n i view none =
    let mark : slice_get (map mark_in ports) i ≡ None = slice_get-map mark_in ports i ∙ ap (λ o. option_map mark_in o) none in
    subst (λ (m : Waiters). (false ≡ true) ↔ IsMarked m.waits m.marks i) view (
      (λ so. absurd cc),
      (λ marked. let e : None ≡ Some true = sym mark ∙ marked.2 in absurd cc),
    )

-- some port is marked just where some mark is
any_at : (ports : List PortWait) (k : ℕ) (b : Bool) → k < length (map mark_in ports) → get_or (map mark_in ports) k b ≡ b → b ≡ true
    → Any (λ port. mark_in port ≡ true) ports
any_at [] k b lt is so = absurd (omega arith)
any_at (port ∷ ports) zero b lt is so = (0, port, omega arith, refl, is ∙ so)
any_at (port ∷ ports) (suc k) b lt is so =
    let rest : Any (λ port. mark_in port ≡ true) ports = any_at ports k b (omega arith) is so in
    (suc rest.0, rest.1, omega (arith, rest.2), rest.3, rest.4)

pub any-marked : (ports : List PortWait) (slots : ℕ) (n : Waiters) (Yes : Type 0)
    → record { waits = map wait_in ports; marks = map mark_in ports; slots = slots } ≡ n → Yes ↔ Any (λ port. mark_in port ≡ true) ports
    → Yes ↔ Any (λ mark. mark ≡ true) n.marks
any-marked ports slots n Yes view is =
    subst (λ (m : Waiters). Yes ↔ Any (λ mark. mark ≡ true) m.marks) view (
      (λ y. let any : Any (λ port. mark_in port ≡ true) ports = is.0 y in (
        any.0,
        mark_in any.1,
        subst (λ n. any.0 < n) (sym (length-map ports mark_in)) any.2,
        get_or-map mark_in ports any.0 any.1 (mark_in any.1) any.2 ∙ ap mark_in any.3,
        any.4,
      )),
      (λ any. is.1 (any_at ports any.0 any.1 any.2 any.3 any.4)),
    )

-- what holds of the note and the mark in each port holds of the notes and the marks
pub all-marked : (p : Parts) (ports : List PortWait) → All (IsRightlyMarked p) ports → AreHeldUp p (map wait_in ports) (map mark_in ports)
all-marked p [] all rank wait there = absurd cc
all-marked p (port ∷ ports) all zero wait there =
    let right : (mark_in port ≡ true) ↔ IsHeldUp p (wait_in port) = all 0 port (omega arith) in (
      (λ marked. subst (IsHeldUp p) (same_Some _ _ there) (right.0 (same_Some _ _ marked))),
      (λ held. ap (λ b. Some b) (right.1 (subst (IsHeldUp p) (sym (same_Some _ _ there)) held))),
    )
all-marked p (port ∷ ports) all (suc rank) wait there = all-marked p ports (λ k d lt. all (suc k) d (omega arith)) rank wait there

-- where one more port is marked rightly, one more is
pub marked_more : (p : Parts) (ports : List PortWait) (i : ℕ) (port : PortWait) → i < length ports → IsRightlyMarked p port
    → ((k : ℕ) (d : PortWait) → k < i → IsRightlyMarked p (get_or ports k d))
    → (k : ℕ) (d : PortWait) → k < i + 1 → IsRightlyMarked p (get_or (slice_set ports i port) k d)
marked_more p ports i port lt right before k d less = elim (cases_eq k i) [
  | inl same ↦ subst (IsRightlyMarked p) (sym (ap (λ (n : ℕ). get_or (slice_set ports i port) n d) same ∙ get_or-set_same ports i port d lt)) right
  | inr differs ↦ subst (IsRightlyMarked p) (sym (get_or-set_other ports i k port d differs)) (before k d (omega arith))
]

-- a port that waits for the same leaves the notes as they are
pub waits-same : (ports : List PortWait) (i : ℕ) (d port : PortWait) → i < length ports → wait_in port ≡ wait_in (get_or ports i d)
    → map wait_in (slice_set ports i port) ≡ map wait_in ports
waits-same ports i d port lt same =
    map-set wait_in ports i port
    ∙ (ap (λ w. slice_set (map wait_in ports) i w) (same ∙ sym (get_or-map wait_in ports i d (wait_in d) lt))
    ∙ set-get_or (map wait_in ports) i (wait_in d))

-- and the room
pub room-same : (slots : ℕ) (ports : List PortWait) (i : ℕ) (d port : PortWait) → i < length ports
    → vec_capacity port.tickets ≡ vec_capacity (get_or ports i d).tickets → All (IsRoomy slots) ports → All (IsRoomy slots) (slice_set ports i port)
room-same slots ports i d port lt same all k e less = elim (cases_eq k i) [
  | inl at ↦
      subst (IsRoomy slots) (sym (ap (λ (n : ℕ). get_or (slice_set ports i port) n e) at ∙ get_or-set_same ports i port e lt))
      (subst (λ n. slots ≤ n) (sym same) (all i d lt))
  | inr differs ↦
      subst (IsRoomy slots) (sym (get_or-set_other ports i k port e differs))
      (all k e (subst (λ n. k < n) (length-set ports i port) less))
]

-- what holds holds where there is an error
pub on_err : {T E : Type 0} {P : Type 0} (r : Result T E) → P → OnErr r P
on_err (Ok x) p = tt
on_err (Err why) p = p

-- ---- who waits

-- what is written at a place is there
slice_get-set_same : {X : Type 0} (xs : List X) (i : ℕ) (x : X) → i < length xs → slice_get (slice_set xs i x) i ≡ Some x
slice_get-set_same [] i x lt = absurd (omega arith)
slice_get-set_same (y ∷ xs) zero x lt = refl
slice_get-set_same (y ∷ xs) (suc i) x lt = slice_get-set_same xs i x (omega arith)

-- where one port's wait is noted anew, and the set follows it
waiting-set : (waits : List WaitFor) (old new i : ℕ) (w : WaitFor) → AreWaiting waits old → i < length waits
    → (IsForSome w × AreWith old i new) ⊎ ((IsForSome w → ⊥) × AreWithout old i new) → AreWaiting (slice_set waits i w) new
waiting-set waits old new i w are lt set rank = elim (cases_eq rank i) [
  | inl same ↦
      let there : slice_get (slice_set waits i w) rank ≡ Some w = ap (λ n. slice_get (slice_set waits i w) n) same ∙ slice_get-set_same waits i w lt in
      elim set [
        | inl with ↦ ((λ _. (w, there, with.0)), (λ _. (with.1 rank).1 (inr same)))
        | inr without ↦ (
          (λ has. absurd (((without.1 rank).0 has).1 same)),
          (λ some. absurd (without.0 (subst IsForSome (same_Some _ _ (sym some.1 ∙ there)) some.2))),
        )
      ]
  | inr differs ↦
      let there : slice_get (slice_set waits i w) rank ≡ slice_get waits rank = slice_get-set_other waits i rank w differs in
      let here : IsWaiting waits rank → IsWaiting (slice_set waits i w) rank = λ some. (some.0, there ∙ some.1, some.2) in
      let back : IsWaiting (slice_set waits i w) rank → IsWaiting waits rank = λ some. (some.0, sym there ∙ some.1, some.2) in
      elim set [
        | inl with ↦ (
          (λ has. elim ((with.1 rank).0 has) [ inl was ↦ here ((are rank).0 was) | inr same ↦ absurd (differs same) ]),
          (λ some. (with.1 rank).1 (inl ((are rank).1 (back some)))),
        )
        | inr without ↦ (
          (λ has. here ((are rank).0 (((without.1 rank).0 has).0))),
          (λ some. (without.1 rank).1 ((are rank).1 (back some), differs)),
        )
      ]
]

-- by a truth value
set_by : (old new i : ℕ) (w : WaitFor) (some : Bool) → (some ≡ true) ↔ IsForSome w
    → (i < 64 → some ≡ true → AreWith old i new) → (i < 64 → some ≡ false → AreWithout old i new) → i < 64
    → (IsForSome w × AreWith old i new) ⊎ ((IsForSome w → ⊥) × AreWithout old i new)
set_by old new i w true is with without low = inl (is.0 refl, with low refl)
set_by old new i w false is with without low = inr ((λ some. let e : false ≡ true = is.1 some in absurd cc), without low refl)

-- one port is noted anew
pub kept-set : (slots : ℕ) (ports : List PortWait) (old new i : ℕ) (port : PortWait) (some : Bool) → IsKept slots ports old → i < length ports
    → IsRoomy slots port → (some ≡ true) ↔ IsForSome (wait_in port) → (i < 64 → some ≡ true → AreWith old i new)
    → (i < 64 → some ≡ false → AreWithout old i new) → IsKept slots (slice_set ports i port) new
kept-set slots ports old new i port some are lt roomy is with without =
    let few : length ports ≤ 64 = are.few in
    let low : i < length (map wait_in ports) = subst (λ n. i < n) (sym (length-map ports wait_in)) lt in
    record {
      roomy = λ k d less. elim (cases_eq k i) [
        | inl same ↦ subst (IsRoomy slots) (sym (ap (λ (n : ℕ). get_or (slice_set ports i port) n d) same ∙ get_or-set_same ports i port d lt)) roomy
        | inr differs ↦
            subst (IsRoomy slots) (sym (get_or-set_other ports i k port d differs))
            (are.roomy k d (subst (λ n. k < n) (length-set ports i port) less))
      ];
      few = subst (λ n. n ≤ 64) (sym (length-set ports i port)) few;
      waiting = subst (λ (ws : List WaitFor). AreWaiting ws new) (sym (map-set wait_in ports i port))
          (waiting-set (map wait_in ports) old new i (wait_in port) are.waiting low
          (set_by old new i (wait_in port) some is with without (omega arith)));
    }

-- whether a list was noted
pub list_noted : (port : PortWait) (rank : ℕ) (r : Result (Unit {0}) Refusal) (b : Bool) → b ≡ is_ok r → OnOk r (port.how ≡ waiting.ForAny rank)
    → OnErr r (port.how ≡ waiting.Awake) → (b ≡ true) ↔ IsForSome (wait_in port)
list_noted port rank (Ok x) b is ok err = ((λ _. subst (λ how. IsForSome (wait_of how port.tickets.items)) (sym ok) tt), (λ _. is))
list_noted port rank (Err why) b is ok err = (
  (λ so. let e : false ≡ true = sym is ∙ so in absurd cc),
  (λ some. absurd (subst (λ how. IsForSome (wait_of how port.tickets.items)) err some)),
)

-- the notes stay, and the room
pub kept-same : (slots : ℕ) (ports new_ports : List PortWait) (ranks : ℕ) → IsKept slots ports ranks → map wait_in new_ports ≡ map wait_in ports
    → All (IsRoomy slots) new_ports → IsKept slots new_ports ranks
kept-same slots ports new_ports ranks are same roomy =
    let few : length ports ≤ 64 = are.few in
    let long : length new_ports ≡ length ports = sym (length-map new_ports wait_in) ∙ (ap length same ∙ length-map ports wait_in) in
    record {
      roomy = roomy;
      few = omega arith;
      waiting = subst (λ (ws : List WaitFor). AreWaiting ws ranks) (sym same) are.waiting;
    }

-- nobody waits at first
none_wait : (n i : ℕ) (wait : WaitFor) → slice_get (replicate n Awake) i ≡ Some wait → IsForSome wait → ⊥
none_wait zero i wait there some = absurd cc
none_wait (suc n) zero wait there some = subst IsForSome (sym (same_Some _ _ there)) some
none_wait (suc n) (suc i) wait there some = none_wait n i wait there some

pub kept-open : (slots : ℕ) (ports : List PortWait) (n : ℕ) → n ≤ 64 → length ports ≡ n → map wait_in ports ≡ replicate n Awake
    → All (IsRoomy slots) ports → IsKept slots ports 0
kept-open slots ports n few long awake roomy = record {
  roomy = roomy;
  few = omega arith;
  waiting = λ rank. (
    (λ has. let one : bit_at 0 rank ≡ 1 = has in let none : bit_at 0 rank ≡ 0 = bit_at-zero rank in absurd (omega arith)),
    (λ some. absurd (none_wait n rank some.0 (sym (ap (λ (ws : List WaitFor). slice_get ws rank) awake) ∙ some.1) some.2)),
  );
}

-- ---- whose wait is over

-- one more port is met, or isn't
pub free_more : (p : Parts) (ports : List PortWait) (waiting met i : ℕ) (port : PortWait) (new : ℕ) → slice_get ports i ≡ Some port
    → IsIn waiting i → (IsBlocked p (wait_in port) → ⊥) → AreWith met i new → AreFree p ports waiting i met → AreFree p ports waiting (i + 1) new
free_more p ports waiting met i port new there has free with are rank = (
  (λ met_now. elim ((with rank).0 met_now) [
    | inl was ↦ let before = (are rank).0 was in (omega (arith, before.0), before.1, before.2)
    | inr same ↦ (
      omega arith,
      subst (IsIn waiting) (sym same) has,
      (port, ap (λ n. slice_get ports n) same ∙ there, free),
    )
  ]),
  (λ now. elim (cases_eq rank i) [
    | inl same ↦ (with rank).1 (inr same)
    | inr differs ↦ (with rank).1 (inl ((are rank).1 (omega (arith, now.0, differs), now.1, now.2)))
  ]),
)

pub free_same : (p : Parts) (ports : List PortWait) (waiting met i : ℕ) (port : PortWait) → slice_get ports i ≡ Some port
    → (IsIn waiting i → (IsBlocked p (wait_in port) → ⊥) → ⊥) → AreFree p ports waiting i met → AreFree p ports waiting (i + 1) met
free_same p ports waiting met i port there none are rank = (
  (λ met_now. let before = (are rank).0 met_now in (omega (arith, before.0), before.1, before.2)),
  (λ now. elim (cases_eq rank i) [
    | inl same ↦
        let at : slice_get ports i ≡ Some (now.2.0) = ap (λ n. slice_get ports n) (sym same) ∙ now.2.1 in
        absurd (none (subst (IsIn waiting) same now.1)
        (λ blocked. now.2.2 (subst (λ (port : PortWait). IsBlocked p (wait_in port)) (same_Some _ _ (sym there ∙ at)) blocked)))
    | inr differs ↦ (are rank).1 (omega (arith, now.0, differs), now.1, now.2)
  ]),
)

pub free_none : (p : Parts) (ports : List PortWait) (waiting : ℕ) → AreFree p ports waiting 0 0
free_none p ports waiting rank = (
  (λ has. let one : bit_at 0 rank ≡ 1 = has in let none : bit_at 0 rank ≡ 0 = bit_at-zero rank in absurd (omega arith)),
  (λ now. absurd (omega (arith, now.0))),
)

-- the port whose note is there
port_at : (ports : List PortWait) (rank : ℕ) (wait : WaitFor) → slice_get (map wait_in ports) rank ≡ Some wait
    → (port : PortWait) × (slice_get ports rank ≡ Some port) × (wait_in port ≡ wait) × (rank < length ports)
port_at [] rank wait there = absurd cc
port_at (port ∷ ports) zero wait there = (port, refl, same_Some _ _ there, omega arith)
port_at (port ∷ ports) (suc rank) wait there =
    let rest = port_at ports rank wait there in (rest.0, rest.1, rest.2, omega (arith, rest.3))

pub free-met : (p : Parts) (ports : List PortWait) (marks : List Bool) (slots waiting ranks : ℕ) (n : Waiters)
    → record { waits = map wait_in ports; marks = marks; slots = slots } ≡ n → IsKept slots ports waiting
    → AreFree p ports waiting (length ports) ranks → AreMet p n.waits ranks
free-met p ports marks slots waiting ranks n view kept are =
    subst (λ (m : Waiters). AreMet p m.waits ranks) view (λ rank. (
      (λ has.
          let free = (are rank).0 has in
          record {
            waiting = (kept.waiting rank).0 free.1;
            free = λ wait there blocked.
                let port = port_at ports rank wait there in
                free.2.2 (subst (λ (q : PortWait). IsBlocked p (wait_in q)) (same_Some _ _ (sym port.1 ∙ free.2.1))
                (subst (IsBlocked p) (sym port.2) blocked));
          }),
      (λ met.
          let some = met.waiting in
          let port = port_at ports rank some.0 some.1 in
          (are rank).1 (port.3, (kept.waiting rank).1 some, (port.0, port.1, λ blocked. met.free some.0 some.1 (subst (IsBlocked p) port.2 blocked)))),
    ))

-- and who waits
pub kept-waiting : (ports : List PortWait) (marks : List Bool) (slots waiting : ℕ) (n : Waiters)
    → record { waits = map wait_in ports; marks = marks; slots = slots } ≡ n → IsKept slots ports waiting → AreWaiting n.waits waiting
kept-waiting ports marks slots waiting n view kept = subst (λ (m : Waiters). AreWaiting m.waits waiting) view kept.waiting

-- an element that is there
pub get-at : (ports : List PortWait) (i : ℕ) (port : PortWait) → i < length ports → port ≡ get_or ports i port → slice_get ports i ≡ Some port
get-at [] i port lt is = absurd (omega arith)
get-at (p ∷ ports) zero port lt is = ap (λ q. Some q) (sym is)
get-at (p ∷ ports) (suc i) port lt is = get-at ports i port (omega arith) is
