-- How the entries that are spoken for change with each entry.
use Rattle.std.proofs.Common.{◌≡◌, ℕ, ◌+◌, ◌≤◌, inl, inr, Bool, cond, eqb, [], ◌∷◌, ◌++◌, length, Some, None, suc, refl, sym, ap, ◌∙◌, arith}
use Rattle.coll_kinds.specs.declared.kind.Mode.{Mode}
use Rattle.coll_kinds.specs.declared.kind.Mode.TheVariants.{Once, Persistent}
use Rattle.coll_kinds.specs.Common.{put, mode_number}
use Rattle.coll_kinds.proofs.Puts.{put_same}
use Rattle.coll_machine.specs.Common.{Setting, Request, State, nothing, key_of, new_request, once_more, rested, rested_by, holding, Clears, Entry}
use Rattle.coll_machine.specs.Common.{Posted, Inited, Started, Retired, Freed, reserved, Enters, over_slots}
use Rattle.coll_machine.specs.Traces.{reserved_for}
use Rattle.coll_machine.specs.Laws.{ReservedChanges, HasRoom, LegalGoesOn}
use Rattle.coll_machine.proofs.Pushed.{length_pushed}
use Rattle.coll_machine.proofs.Accepted.{found_is, started_mine, freed_mine}
use Rattle.coll_machine.proofs.Slots.{Slots, over_put, live_low}
use Rattle.coll_machine.proofs.Tracing.{leads_push}

abbrev total : Setting → Slots → ℕ
total g request = over_slots reserved_for request g.slots

abbrev freed_later : Mode → ℕ
freed_later mode = cond (eqb (mode_number mode) (mode_number Persistent)) 1 0

-- of an idle and of an active request
reserved_idle : (q : Request) (b : Bool) → q.active ≡ b → reserved_for (Some q) ≡ cond b 1 0 + freed_later q.mode
reserved_idle q b e = ap (λ (b : Bool). cond b 1 0 + freed_later q.mode) e

reserved_rested : (q : Request) (mode : Mode) → q.mode ≡ mode → reserved_for (rested q) ≡ 0 + freed_later q.mode
reserved_rested q Once e = (λ z. reserved_for (rested_by (e z) q)) ∙ ap (λ mode. 0 + freed_later mode) (sym e)
reserved_rested q Persistent e = (λ z. reserved_for (rested_by (e z) q)) ∙ refl

pub reserved_changes : ReservedChanges
reserved_changes g s u es (Posted rank t comm place sig bytes) l h =
    let p = h.2 in
    let q : Request = new_request rank comm p.member place Once in
    let one : total g (put s.request t.slot (Some q)) + reserved_for (s.request t.slot) ≡ total g s.request + 0 =
    over_put reserved_for s.request t.slot (Some q) g.slots p.new.low in
    let two : total g (put (put s.request t.slot (Some q)) t.slot (Some (once_more q))) + reserved_for (put s.request t.slot (Some q) t.slot)
    ≡ total g (put s.request t.slot (Some q)) + 1 = over_put reserved_for (put s.request t.slot (Some q)) t.slot (Some (once_more q)) g.slots p.new.low in
    let spare : reserved_for (s.request t.slot) ≡ 0 = ap reserved_for p.new.spare in
    let idle : reserved_for (put s.request t.slot (Some q) t.slot) ≡ 0 = ap reserved_for (put_same s.request t.slot (Some q)) in
    let leaves : total g u.request ≡ total g (put (put s.request t.slot (Some q)) t.slot (Some (once_more q))) =
    ap (λ (s : State). total g s.request) p.leaves in
    omega arith
reserved_changes g s u es (Inited rank t comm place sig) l h =
    let p = h.2 in
    let q : Request = new_request rank comm p.member place Persistent in
    let one : total g (put s.request t.slot (Some q)) + reserved_for (s.request t.slot) ≡ total g s.request + 1 =
    over_put reserved_for s.request t.slot (Some q) g.slots p.new.low in
    let spare : reserved_for (s.request t.slot) ≡ 0 = ap reserved_for p.new.spare in
    let leaves : total g u.request ≡ total g (put s.request t.slot (Some q)) = ap (λ (s : State). total g s.request) p.leaves in
    omega arith
reserved_changes g s u es (Started rank t start bytes) l p =
    let q = p.request in
    let here = (found_is s t q p.is).1 in
    let low = live_low g s es l t.slot q here in
    let one : total g (put s.request t.slot (Some (once_more q))) + reserved_for (s.request t.slot) ≡ total g s.request + (1 + freed_later q.mode) =
    over_put reserved_for s.request t.slot (Some (once_more q)) g.slots low in
    let idle : reserved_for (s.request t.slot) ≡ 0 + freed_later q.mode =
    ap reserved_for here ∙ reserved_idle q _ (started_mine g s rank t bytes q p.is p.accepted).idle in
    let leaves : total g u.request ≡ total g (put s.request t.slot (Some (once_more q))) = ap (λ (s : State). total g s.request) p.leaves in
    omega arith
reserved_changes g s u es (Retired rank t comm place start bytes) l p =
    let q = p.request in
    let here = (found_is s t q p.is).1 in
    let low = live_low g s es l t.slot q here in
    let one : total g (put s.request t.slot (rested q)) + reserved_for (s.request t.slot) ≡ total g s.request + reserved_for (rested q) =
    over_put reserved_for s.request t.slot (rested q) g.slots low in
    let was : reserved_for (s.request t.slot) ≡ 1 + freed_later q.mode = ap reserved_for here ∙ reserved_idle q _ p.ready.active in
    let is : reserved_for (rested q) ≡ 0 + freed_later q.mode = reserved_rested q q.mode refl in
    let leaves : total g u.request ≡ total g (put s.request t.slot (rested q)) = go p.leaves in
    omega arith
  where
    go : Clears g (holding s t.slot (rested p.request)) (key_of p.request start) u → total g u.request ≡ total g (put s.request t.slot (rested p.request))
    go (inl a) = ap (λ (s : State). total g s.request) a.1
    go (inr a) = ap (λ (s : State). total g s.request) a.1
reserved_changes g s u es (Freed rank t) l p =
    let f = freed_mine g s rank t p.accepted in
    let low = live_low g s es l t.slot f.request f.is in
    let one : total g (put s.request t.slot None) + reserved_for (s.request t.slot) ≡ total g s.request + 0 =
    over_put reserved_for s.request t.slot None g.slots low in
    let idle : reserved_for (s.request t.slot) ≡ 0 + 1 = ap reserved_for f.is ∙ (λ z. cond (f.idle_of.idle z) 1 0 + freed_later (f.idle_of.mode_is z)) in
    let leaves : total g u.request ≡ total g (put s.request t.slot None) = ap (λ (s : State). total g s.request) p.leaves in
    omega arith

pub legal_goes_on : LegalGoesOn
legal_goes_on g s u es e legal enters room = record { leads = leads_push g nothing s u es e legal.leads enters; room = fits e enters room }
  where
    fits : (e : Entry) → Enters g s e u → HasRoom g s es e → length (es ++ e ∷ []) + reserved g u ≤ g.trace
    fits (Posted rank t comm place sig bytes) h room =
        let more : reserved g u ≡ reserved g s + 1 = reserved_changes g s u es (Posted rank t comm place sig bytes) legal.leads h in
        let long : length (es ++ Posted rank t comm place sig bytes ∷ []) ≡ suc (length es) = length_pushed es (Posted rank t comm place sig bytes) in
        let has : length es + reserved g s + 2 ≤ g.trace = room in
        omega arith
    fits (Inited rank t comm place sig) h room =
        let more : reserved g u ≡ reserved g s + 1 = reserved_changes g s u es (Inited rank t comm place sig) legal.leads h in
        let long : length (es ++ Inited rank t comm place sig ∷ []) ≡ suc (length es) = length_pushed es (Inited rank t comm place sig) in
        let has : length es + reserved g s + 2 ≤ g.trace = room in
        omega arith
    fits (Started rank t start bytes) h room =
        let more : reserved g u ≡ reserved g s + 1 = reserved_changes g s u es (Started rank t start bytes) legal.leads h in
        let long : length (es ++ Started rank t start bytes ∷ []) ≡ suc (length es) = length_pushed es (Started rank t start bytes) in
        let has : length es + reserved g s + 2 ≤ g.trace = room in
        omega arith
    fits (Retired rank t comm place start bytes) h room =
        let less : reserved g u + 1 ≡ reserved g s = reserved_changes g s u es (Retired rank t comm place start bytes) legal.leads h in
        let long : length (es ++ Retired rank t comm place start bytes ∷ []) ≡ suc (length es) = length_pushed es (Retired rank t comm place start bytes) in
        let had : length es + reserved g s ≤ g.trace = legal.room in
        omega arith
    fits (Freed rank t) h room =
        let less : reserved g u + 1 ≡ reserved g s = reserved_changes g s u es (Freed rank t) legal.leads h in
        let long : length (es ++ Freed rank t ∷ []) ≡ suc (length es) = length_pushed es (Freed rank t) in
        let had : length es + reserved g s ≤ g.trace = legal.room in
        omega arith
