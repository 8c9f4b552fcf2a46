-- How the bytes lent change with each entry.
use Rattle.std.proofs.Common.{◌≡◌, ℕ, ◌+◌, ◌<◌, inl, inr, Bool, cond, List, ◌++◌, [], ◌∷◌, Option, Some, None, true, false, refl, sym, ap, ◌∙◌, arith}
use Rattle.std.specs.Prelude.{slice_get, unwrap_or, option_map}
use Rattle.coll_kinds.specs.declared.kind.Mode.{Mode}
use Rattle.coll_kinds.specs.declared.kind.Mode.TheVariants.{Once, Persistent}
use Rattle.coll_kinds.specs.declared.signature.Signature.{Signature}
use Rattle.coll_kinds.specs.declared.ticket.Ticket.{Ticket}
use Rattle.coll_kinds.specs.Common.{member_of, lent, put}
use Rattle.coll_kinds.proofs.Puts.{put_same}
use Rattle.coll_machine.specs.Common.{Setting, group, size, Request, State, nothing, found, key_of, new_request, created, once_more, started, rested}
use Rattle.coll_machine.specs.Common.{rested_by, holding, IsNew, Clears, Posted, Inited, Started, Retired, Freed, over_slots, lent_bytes, IsPosted}
use Rattle.coll_machine.specs.Common.{ArePosted}
use Rattle.coll_machine.specs.Lents.{lent_at, lent_by}
use Rattle.coll_machine.specs.Laws.{LentChanges}
use Rattle.coll_machine.proofs.Puts.{put2_same}
use Rattle.coll_machine.proofs.Pushed.{get_pushed}
use Rattle.coll_machine.proofs.Accepted.{found_is, started_mine, freed_mine}
use Rattle.coll_machine.proofs.Posted.{still_there, are_nothing, are_led}
use Rattle.coll_machine.proofs.Slots.{Slots, over_put, over_same, live_low}

-- the sum over requests by the posting lists of a state
abbrev total : Setting → State → Slots → ℕ
total g s request = over_slots (lent_by g s) request g.slots

-- an inactive request
lends_nothing : (g : Setting) (s : State) (q : Request) → q.active ≡ false → lent_by g s (Some q) ≡ 0
lends_nothing g s q e = ap (λ (b : Bool). cond b (lent_at g s q) 0) e

lends_all : (g : Setting) (s : State) (q : Request) → q.active ≡ true → lent_by g s (Some q) ≡ lent_at g s q
lends_all g s q e = ap (λ (b : Bool). cond b (lent_at g s q) 0) e

rested_lends : (g : Setting) (s : State) (q : Request) (mode : Mode) → lent_by g s (rested_by mode q) ≡ 0
rested_lends g s q Once = refl
rested_lends g s q Persistent = refl

-- a posting changes the bytes of no live request
lent_kept : (g : Setting) (s : State) (t : Ticket) (q : Request) (sig : Signature) → ArePosted g s → total g (created s t q sig) s.request ≡ lent_bytes g s
lent_kept g s t q sig h = over_same (lent_by g (created s t q sig)) (lent_by g s) s.request g.slots (λ i. each (s.request i) (λ p e. h.posted i p e))
  where
    each : (o : Option Request) → ((p : Request) → o ≡ Some p → IsPosted g s p) → lent_by g (created s t q sig) o ≡ lent_by g s o
    each None k = refl
    each (Some p) k =
        let posted = k p refl in
        let now = still_there s t q sig p.comm p.member p.place posted.sig posted.sig_is in
        ap (λ (o : Option Signature). cond p.active (unwrap_or (option_map (λ sig. lent sig (size g p.comm) p.member) o) 0) 0) (now ∙ sym posted.sig_is)

lent_created : (g : Setting) (s : State) (t : Ticket) (q : Request) (sig : Signature) → ArePosted g s → IsNew g s t
    → q.active ≡ false → lent_bytes g (created s t q sig) ≡ lent_bytes g s
lent_created g s t q sig h new idle =
    let after : State = created s t q sig in
    let one : total g after (put s.request t.slot (Some q)) + lent_by g after (s.request t.slot) ≡ total g after s.request + lent_by g after (Some q) =
    over_put (lent_by g after) s.request t.slot (Some q) g.slots new.low in
    let spare : lent_by g after (s.request t.slot) ≡ 0 = ap (lent_by g after) new.spare in
    let none : lent_by g after (Some q) ≡ 0 = lends_nothing g after q idle in
    let kept : total g after s.request ≡ lent_bytes g s = lent_kept g s t q sig h in
    omega arith

lent_started : (g : Setting) (s : State) (slot : ℕ) (q : Request) (bytes : List ℕ) → slot < g.slots → s.request slot ≡ Some q
    → q.active ≡ false → lent_bytes g (started s slot q bytes) ≡ lent_bytes g s + lent_at g s q
lent_started g s slot q bytes low here idle =
    let one : total g s (put s.request slot (Some (once_more q))) + lent_by g s (s.request slot) ≡ lent_bytes g s + lent_at g s q =
    over_put (lent_by g s) s.request slot (Some (once_more q)) g.slots low in
    let none : lent_by g s (s.request slot) ≡ 0 = ap (lent_by g s) here ∙ lends_nothing g s q idle in
    let same : lent_bytes g (started s slot q bytes) ≡ total g s (put s.request slot (Some (once_more q))) = refl in
    omega arith

pub lent_changes : LentChanges
lent_changes g s u es (Posted rank t comm place sig bytes) l h =
    let p = h.2 in
    let q : Request = new_request rank comm p.member place Once in
    let after : State = created s t q h.0.sig in
    let one : lent_bytes g after ≡ lent_bytes g s = lent_created g s t q h.0.sig (are_led g nothing s es (are_nothing g) l) p.new refl in
    let two : lent_bytes g (started after t.slot q bytes) ≡ lent_bytes g after + lent_at g after q =
    lent_started g after t.slot q bytes p.new.low (put_same s.request t.slot (Some q)) refl in
    let leaves : lent_bytes g u ≡ lent_bytes g (started after t.slot q bytes) = ap (lent_bytes g) p.leaves in
    let own : lent_at g after q ≡ lent sig (size g comm) (unwrap_or (member_of rank (group g comm)) 0) =
    ap (λ (o : Option Signature). unwrap_or (option_map (λ sig. lent sig (size g comm) p.member) o) 0)
    (ap (λ (l : List Signature). slice_get l place) (put2_same s.posts comm p.member (s.posts comm p.member ++ h.0.sig ∷ []))
    ∙ (ap (slice_get (s.posts comm p.member ++ h.0.sig ∷ [])) p.place_is ∙ get_pushed (s.posts comm p.member) h.0.sig))
    ∙ (λ z. lent (h.1 z) (size g comm) (unwrap_or (sym p.member_is z) 0)) in
    omega arith
lent_changes g s u es (Inited rank t comm place sig) l h =
    let p = h.2 in
    ap (lent_bytes g) p.leaves
    ∙ lent_created g s t (new_request rank comm p.member place Persistent) h.0.sig (are_led g nothing s es (are_nothing g) l) p.new refl
lent_changes g s u es (Started rank t start bytes) l p =
    let q = p.request in
    let here = (found_is s t q p.is).1 in
    let one : lent_bytes g (started s t.slot q bytes) ≡ lent_bytes g s + lent_at g s q =
    lent_started g s t.slot q bytes (live_low g s es l t.slot q here) here (started_mine g s rank t bytes q p.is p.accepted).idle in
    let named : unwrap_or (option_map (lent_at g s) (found s t)) 0 ≡ lent_at g s q =
    ap (λ (o : Option Request). unwrap_or (option_map (lent_at g s) o) 0) p.is in
    let leaves : lent_bytes g u ≡ lent_bytes g (started s t.slot q bytes) = ap (lent_bytes g) p.leaves in
    omega arith
lent_changes g s u es (Retired rank t comm place start bytes) l p =
    let q = p.request in
    let here = (found_is s t q p.is).1 in
    let one : total g s (put s.request t.slot (rested q)) + lent_by g s (s.request t.slot) ≡ lent_bytes g s + lent_by g s (rested q) =
    over_put (lent_by g s) s.request t.slot (rested q) g.slots (live_low g s es l t.slot q here) in
    let was : lent_by g s (s.request t.slot) ≡ lent_at g s q = ap (lent_by g s) here ∙ lends_all g s q p.ready.active in
    let is : lent_by g s (rested q) ≡ 0 = rested_lends g s q q.mode in
    let named : unwrap_or (option_map (lent_at g s) (found s t)) 0 ≡ lent_at g s q =
    ap (λ (o : Option Request). unwrap_or (option_map (lent_at g s) o) 0) p.is in
    let leaves : lent_bytes g u ≡ total g s (put s.request t.slot (rested q)) = go p.leaves in
    omega arith
  where
    go : Clears g (holding s t.slot (rested p.request)) (key_of p.request start) u → lent_bytes g u ≡ total g s (put s.request t.slot (rested p.request))
    go (inl a) = ap (lent_bytes g) a.1
    go (inr a) = ap (lent_bytes g) a.1
lent_changes g s u es (Freed rank t) l p =
    let f = freed_mine g s rank t p.accepted in
    let one : total g s (put s.request t.slot None) + lent_by g s (s.request t.slot) ≡ lent_bytes g s + 0 =
    over_put (lent_by g s) s.request t.slot None g.slots (live_low g s es l t.slot f.request f.is) in
    let none : lent_by g s (s.request t.slot) ≡ 0 = ap (lent_by g s) f.is ∙ lends_nothing g s f.request f.idle_of.idle in
    let leaves : lent_bytes g u ≡ total g s (put s.request t.slot None) = ap (lent_bytes g) p.leaves in
    omega arith
