-- Each step of the machine keeps the lengths of live requests' outcomes.
use Rattle.std.proofs.Common.{◌≡◌, ℕ, ◌⊎◌, inl, inr, ◌<◌, true, false, eqb, List, [], ◌∷◌, ◌++◌, length, Option, Some, None, refl, sym, ap, subst, ◌∙◌}
use Rattle.std.specs.Prelude.{◌&&◌, slice_get, slice_set, unwrap_or}
use Rattle.std.proofs.lemmas.Bool.{cases_eq, eqb-true, and_parts}
use Rattle.std.proofs.lemmas.Option.{none-some, same_Some}
use Rattle.coll_kinds.specs.declared.kind.Mode.{Mode}
use Rattle.coll_kinds.specs.declared.kind.Mode.TheVariants.{Once, Persistent}
use Rattle.coll_kinds.specs.declared.refusal.Refusal.TheVariants.{BadSignature}
use Rattle.coll_kinds.specs.declared.refusal.SignatureFault.TheVariants.{Group as WrongGroup}
use Rattle.coll_kinds.specs.declared.signature.Signature.{Signature}
use Rattle.coll_kinds.specs.declared.ticket.Ticket.{Ticket}
use Rattle.coll_kinds.specs.Common.{member_of, got_len, put}
use Rattle.coll_kinds.proofs.Puts.{put_same, put_other}
use Rattle.coll_plans.specs.Plans.{family}
use Rattle.coll_machine.specs.Common.{Setting, group, size, Machine, State, Request, signature_of, key_of, Call, Planned, Post, Init, Reply, Ticketed}
use Rattle.coll_machine.specs.Common.{Outcome, Nothing, Refused, new_request, created, started, once_more, rested, rested_by, holding, MachineStep}
use Rattle.coll_machine.specs.Common.{post, init, start, finish, retire, wait, free, refuse, short, MayFinish, StepsTo, refusal, refusals, Posts}
use Rattle.coll_machine.specs.Common.{Inits, Starts, Frees, Retires, Clears}
use Rattle.coll_machine.proofs.Puts.{put2_same}
use Rattle.coll_machine.proofs.Pushed.{get_pushed}
use Rattle.coll_machine.proofs.Posted.{still_there}
use Rattle.coll_machine.proofs.Accepted.{all_none, fits, found_is}
use Rattle.coll_core.specs.Steps.{Finishings, none, more}
use Rattle.coll_serial.specs.Lengths.{IsLength, IsMeasured, AreMeasured}
use Rattle.coll_serial.proofs.Sets.{here, elsewhere, as_many}

-- what stands in a posting list goes on to stand there
abbrev Stand : State → State → Type 0
Stand s u = (c m p : ℕ) (x : Signature) → slice_get (s.posts c m) p ≡ Some x → slice_get (u.posts c m) p ≡ Some x

same_posts : (s u : State) → u.posts ≡ s.posts → Stand s u
same_posts s u e c m p x h = ap (λ (posts : ℕ → ℕ → List Signature). slice_get (posts c m) p) e ∙ h

-- one slot changes, with its length
measured_put : (g : Setting) (s u : State) (xs ys : List ℕ) (slot : ℕ) → AreMeasured g s xs → Stand s u → length ys ≡ length xs
    → ((i : ℕ) → (i ≡ slot → ⊥) → u.request i ≡ s.request i) → ((i : ℕ) → (i ≡ slot → ⊥) → slice_get ys i ≡ slice_get xs i)
    → ((q : Request) → u.request slot ≡ Some q → IsMeasured g u ys slot q) → AreMeasured g u ys
measured_put g s u xs ys slot a stand many rest others own = record { enough = many ∙ a.enough; each = λ i q e. go i q e (cases_eq i slot) }
  where
    go : (i : ℕ) (q : Request) → u.request i ≡ Some q → (i ≡ slot) ⊎ (i ≡ slot → ⊥) → IsMeasured g u ys i q
    go i q e (inl same) = subst (λ k. IsMeasured g u ys k q) (sym same) (own q (ap u.request (sym same) ∙ e))
    go i q e (inr d) =
        let k = a.each i q (sym (rest i d) ∙ e) in
        record { sig = k.sig; sig_is = stand q.comm q.member q.place k.sig k.sig_is; is = others i d ∙ k.is; output_is = k.output_is }

-- ---- a new request

-- an accepted plan is of the group and of the member
record IsFor (g : Setting) (comm member : ℕ) (plan : Planned) : Type 0 where
  size_is : plan.n ≡ size g comm
  member_is : plan.member ≡ member

for_member : (g : Setting) (comm rank member : ℕ) (plan : Planned) → member_of rank (group g comm) ≡ Some member
    → (eqb plan.n (size g comm) && eqb plan.member (unwrap_or (member_of rank (group g comm)) 0)) ≡ true → IsFor g comm member plan
for_member g comm rank member plan is e =
    let h = and_parts _ _ e in
    record { size_is = eqb-true _ _ h.0; member_is = eqb-true _ _ h.1 ∙ ap (λ (o : Option ℕ). unwrap_or o 0) is }

post_is_for : (g : Setting) (s : State) (rank comm member : ℕ) (plan : Planned) (bytes : List ℕ)
    → refusal g s (Post rank comm plan bytes) ≡ None → member_of rank (group g comm) ≡ Some member → IsFor g comm member plan
post_is_for g s rank comm member plan bytes e is =
    let h = all_none (refusals g s (Post rank comm plan bytes)) e in
    for_member g comm rank member plan is (fits _ (BadSignature WrongGroup) h.1.1.1.1.0)

init_is_for : (g : Setting) (s : State) (rank comm member : ℕ) (plan : Planned) → refusal g s (Init rank comm plan) ≡ None
    → member_of rank (group g comm) ≡ Some member → IsFor g comm member plan
init_is_for g s rank comm member plan e is =
    let h = all_none (refusals g s (Init rank comm plan)) e in
    for_member g comm rank member plan is (fits _ (BadSignature WrongGroup) h.1.1.1.1.0)

-- its signature is the one that was pushed
new_sig : (s : State) (t : Ticket) (q : Request) (sig : Signature) → q.place ≡ length (s.posts q.comm q.member) → signature_of (created s t q sig) q ≡ Some sig
new_sig s t q sig place =
    ap (λ (l : List Signature). slice_get l q.place) (put2_same s.posts q.comm q.member (s.posts q.comm q.member ++ sig ∷ []))
    ∙ (ap (slice_get (s.posts q.comm q.member ++ sig ∷ [])) place ∙ get_pushed (s.posts q.comm q.member) sig)

got_for : (g : Setting) (comm member len : ℕ) (plan : Planned) → IsFor g comm member plan → IsLength plan len → len ≡ got_len plan.sig (size g comm) member
got_for g comm member len plan f l = l.is ∙ (λ z. got_len plan.sig (f.size_is z) (f.member_is z))

output_for : (g : Setting) (comm member len : ℕ) (plan : Planned) → IsFor g comm member plan → IsLength plan len
    → (family plan.sig (size g comm) member).output.len ≡ got_len plan.sig (size g comm) member
output_for g comm member len plan f l =
    sym (λ z. (family plan.sig (f.size_is z) (f.member_is z)).output.len) ∙ (l.output_is ∙ (λ z. got_len plan.sig (f.size_is z) (f.member_is z)))

measured_posts : (g : Setting) (s u : State) (rank : ℕ) (t : Ticket) (comm place : ℕ) (plan : Planned) (bytes : List ℕ) (xs : List ℕ) (len : ℕ)
    → Posts g s rank t comm place plan bytes u → IsLength plan len → AreMeasured g s xs → AreMeasured g u (slice_set xs t.slot len)
measured_posts g s u rank t comm place plan bytes xs len p l a =
    subst (λ (w : State). AreMeasured g w ys) (sym p.leaves)
    (measured_put g s after xs ys t.slot a (still_there s t q plan.sig) (as_many xs t.slot len) rest (elsewhere xs t.slot len) own)
  where
    ys : List ℕ
    ys = slice_set xs t.slot len

    q : Request
    q = new_request rank comm p.member place Once

    after : State
    after = started (created s t q plan.sig) t.slot q bytes

    rest : (i : ℕ) → (i ≡ t.slot → ⊥) → after.request i ≡ s.request i
    rest i d = put_other (put s.request t.slot (Some q)) t.slot (Some (once_more q)) i d ∙ put_other s.request t.slot (Some q) i d

    for : IsFor g comm p.member plan
    for = post_is_for g s rank comm p.member plan bytes p.accepted p.member_is

    new : IsMeasured g after ys t.slot (once_more q)
    new = record {
      sig = plan.sig;
      sig_is = new_sig s t q plan.sig p.place_is;
      is = here xs t.slot len (subst (λ k. t.slot < k) (sym a.enough) p.new.low) ∙ ap Some (got_for g comm p.member len plan for l);
      output_is = output_for g comm p.member len plan for l;
    }

    own : (x : Request) → after.request t.slot ≡ Some x → IsMeasured g after ys t.slot x
    own x e = subst (IsMeasured g after ys t.slot)
        (same_Some (once_more q) x (sym (put_same (put s.request t.slot (Some q)) t.slot (Some (once_more q))) ∙ e)) new

measured_inits : (g : Setting) (s u : State) (rank : ℕ) (t : Ticket) (comm place : ℕ) (plan : Planned) (xs : List ℕ) (len : ℕ)
    → Inits g s rank t comm place plan u → IsLength plan len → AreMeasured g s xs → AreMeasured g u (slice_set xs t.slot len)
measured_inits g s u rank t comm place plan xs len p l a =
    subst (λ (w : State). AreMeasured g w ys) (sym p.leaves)
    (measured_put g s after xs ys t.slot a (still_there s t q plan.sig) (as_many xs t.slot len) rest (elsewhere xs t.slot len) own)
  where
    ys : List ℕ
    ys = slice_set xs t.slot len

    q : Request
    q = new_request rank comm p.member place Persistent

    after : State
    after = created s t q plan.sig

    rest : (i : ℕ) → (i ≡ t.slot → ⊥) → after.request i ≡ s.request i
    rest i d = put_other s.request t.slot (Some q) i d

    for : IsFor g comm p.member plan
    for = init_is_for g s rank comm p.member plan p.accepted p.member_is

    new : IsMeasured g after ys t.slot q
    new = record {
      sig = plan.sig;
      sig_is = new_sig s t q plan.sig p.place_is;
      is = here xs t.slot len (subst (λ k. t.slot < k) (sym a.enough) p.new.low) ∙ ap Some (got_for g comm p.member len plan for l);
      output_is = output_for g comm p.member len plan for l;
    }

    own : (x : Request) → after.request t.slot ≡ Some x → IsMeasured g after ys t.slot x
    own x e = subst (IsMeasured g after ys t.slot) (same_Some q x (sym (put_same s.request t.slot (Some q)) ∙ e)) new

-- ---- a request that is there

measured_starts : (g : Setting) (s u : State) (rank : ℕ) (t : Ticket) (begin : ℕ) (bytes : List ℕ) (xs : List ℕ)
    → Starts g s rank t begin bytes u → AreMeasured g s xs → AreMeasured g u xs
measured_starts g s u rank t begin bytes xs p a =
    subst (λ (w : State). AreMeasured g w xs) (sym p.leaves)
    (measured_put g s after xs xs t.slot a (same_posts s after refl) refl (λ i d. put_other s.request t.slot (Some (once_more q)) i d) (λ i d. refl) own)
  where
    q : Request
    q = p.request

    after : State
    after = started s t.slot q bytes

    was : IsMeasured g s xs t.slot q
    was = a.each t.slot q (found_is s t q p.is).1

    new : IsMeasured g after xs t.slot (once_more q)
    new = record { sig = was.sig; sig_is = was.sig_is; is = was.is; output_is = was.output_is }

    own : (x : Request) → after.request t.slot ≡ Some x → IsMeasured g after xs t.slot x
    own x e = subst (IsMeasured g after xs t.slot) (same_Some (once_more q) x (sym (put_same s.request t.slot (Some (once_more q))) ∙ e)) new

rested_idle : (q x : Request) (mode : Mode) → rested_by mode q ≡ Some x → record q { active = false } ≡ x
rested_idle q x Once e = absurd (none-some x e)
rested_idle q x Persistent e = same_Some (record q { active = false }) x e

measured_retires : (g : Setting) (s u : State) (rank : ℕ) (t : Ticket) (comm place begin : ℕ) (bytes : List ℕ) (xs : List ℕ)
    → Retires g s rank t comm place begin bytes u → AreMeasured g s xs → AreMeasured g u xs
measured_retires g s u rank t comm place begin bytes xs p a = go p.leaves
  where
    q : Request
    q = p.request

    was : IsMeasured g s xs t.slot q
    was = a.each t.slot q (found_is s t q p.is).1

    middle : State
    middle = holding s t.slot (rested q)

    of : (w : State) → w.request ≡ middle.request → w.posts ≡ s.posts → AreMeasured g w xs
    of w request posts = measured_put g s w xs xs t.slot a (same_posts s w posts) refl rest (λ i d. refl) own
      where
        rest : (i : ℕ) → (i ≡ t.slot → ⊥) → w.request i ≡ s.request i
        rest i d = ap (λ (f : ℕ → Option Request). f i) request ∙ put_other s.request t.slot (rested q) i d

        idle : Request
        idle = record q { active = false }

        new : IsMeasured g w xs t.slot idle
        new = record { sig = was.sig; sig_is = same_posts s w posts q.comm q.member q.place was.sig was.sig_is; is = was.is; output_is = was.output_is }

        own : (x : Request) → w.request t.slot ≡ Some x → IsMeasured g w xs t.slot x
        own x e = subst (IsMeasured g w xs t.slot)
            (rested_idle q x q.mode (sym (ap (λ (f : ℕ → Option Request). f t.slot) request ∙ put_same s.request t.slot (rested q)) ∙ e)) new

    go : Clears g middle (key_of q begin) u → AreMeasured g u xs
    go (inl h) = of u (ap (λ (w : State). w.request) h.1) (ap (λ (w : State). w.posts) h.1)
    go (inr h) = of u (ap (λ (w : State). w.request) h.1) (ap (λ (w : State). w.posts) h.1)

measured_frees : (g : Setting) (s u : State) (rank : ℕ) (t : Ticket) (xs : List ℕ) → Frees g s rank t u → AreMeasured g s xs → AreMeasured g u xs
measured_frees g s u rank t xs p a =
    subst (λ (w : State). AreMeasured g w xs) (sym p.leaves)
    (measured_put g s (holding s t.slot None) xs xs t.slot a (same_posts s (holding s t.slot None) refl) refl
    (λ i d. put_other s.request t.slot None i d) (λ i d. refl) own)
  where
    own : (x : Request) → (holding s t.slot None).request t.slot ≡ Some x → IsMeasured g (holding s t.slot None) xs t.slot x
    own x e = absurd (none-some x (sym (put_same s.request t.slot None) ∙ e))

-- ---- steps of the machine

-- the reply makes no request
abbrev pub MakesNone : Reply → Type 0
MakesNone (Ticketed t) = ⊥
MakesNone (Outcome rank comm place begin bytes) = Unit {0}
MakesNone Nothing = Unit {0}
MakesNone (Refused why) = Unit {0}

pub measured_step : (g : Setting) (m n : Machine) (call : Call) (reply : Reply) (xs : List ℕ) → MakesNone reply → MachineStep g m call reply n
    → AreMeasured g m.state xs → AreMeasured g n.state xs
measured_step g _ _ _ _ xs makes (post {s} {u} {done} rank comm place plan bytes t h) a = absurd makes
measured_step g _ _ _ _ xs makes (init {s} {u} {done} rank comm place plan t h) a = absurd makes
measured_step g _ _ _ _ xs makes (start {s} {u} {done} rank begin t bytes h) a = measured_starts g s u rank t begin bytes xs h a
measured_step g _ _ _ _ xs makes (finish {m} {done} slot h) a = a
measured_step g _ _ _ _ xs makes (retire {s} {u} {done} rank t comm place begin bytes h d) a = measured_retires g s u rank t comm place begin bytes xs h a
measured_step g _ _ _ _ xs makes (wait {m} rank t h d) a = a
measured_step g _ _ _ _ xs makes (free {s} {u} {done} rank t h) a = measured_frees g s u rank t xs h a
measured_step g _ _ _ _ xs makes (refuse {m} call why h) a = a
measured_step g _ _ _ _ xs makes (short {m} call takes h) a = a

measured_post : (g : Setting) (m n : Machine) (rank comm : ℕ) (plan : Planned) (bytes : List ℕ) (t : Ticket) (xs : List ℕ) (len : ℕ)
    → MachineStep g m (Post rank comm plan bytes) (Ticketed t) n → IsLength plan len → AreMeasured g m.state xs
    → AreMeasured g n.state (slice_set xs t.slot len)
measured_post g _ _ rank comm plan bytes t xs len (post {s} {u} {done} _ _ place _ _ _ h) l a = measured_posts g s u rank t comm place plan bytes xs len h l a

pub measured_init : (g : Setting) (m n : Machine) (rank comm : ℕ) (plan : Planned) (t : Ticket) (xs : List ℕ) (len : ℕ)
    → MachineStep g m (Init rank comm plan) (Ticketed t) n → IsLength plan len → AreMeasured g m.state xs → AreMeasured g n.state (slice_set xs t.slot len)
measured_init g _ _ rank comm plan t xs len (init {s} {u} {done} _ _ place _ _ h) l a = measured_inits g s u rank t comm place plan xs len h l a

pub measured_may : (g : Setting) (m n : Machine) (xs : List ℕ) → MayFinish g m n → AreMeasured g m.state xs → AreMeasured g n.state xs
measured_may g m n xs (inl same) a = subst (λ (k : Machine). AreMeasured g k.state xs) same a
measured_may g m n xs (inr step) a = measured_step g m n _ _ xs tt step a

pub measured_posted : (g : Setting) (m n : Machine) (rank comm : ℕ) (plan : Planned) (bytes : List ℕ) (t : Ticket) (xs : List ℕ) (len : ℕ)
    → StepsTo g m (Post rank comm plan bytes) (Ticketed t) n → IsLength plan len → AreMeasured g m.state xs → AreMeasured g n.state (slice_set xs t.slot len)
measured_posted g m n rank comm plan bytes t xs len (mid, step, may) l a =
    measured_may g mid n (slice_set xs t.slot len) may (measured_post g m mid rank comm plan bytes t xs len step l a)

pub measured_started : (g : Setting) (m n : Machine) (call : Call) (xs : List ℕ) → StepsTo g m call Nothing n
    → AreMeasured g m.state xs → AreMeasured g n.state xs
measured_started g m n call xs (mid, step, may) a = measured_may g mid n xs may (measured_step g m mid call Nothing xs tt step a)

pub measured_finishings : (g : Setting) (m n : Machine) (xs : List ℕ) → Finishings g m n → AreMeasured g m.state xs → AreMeasured g n.state xs
measured_finishings g m _ xs none a = a
measured_finishings g m _ xs (more {mid} {n} before step) a = measured_step g mid n _ _ xs tt step (measured_finishings g m mid xs before a)

-- the slot of a request that a call makes is one of the engine's
posted_low : (g : Setting) (m n : Machine) (rank comm : ℕ) (plan : Planned) (bytes : List ℕ) (t : Ticket)
    → MachineStep g m (Post rank comm plan bytes) (Ticketed t) n → t.slot < g.slots
posted_low g _ _ rank comm plan bytes t (post _ _ place _ _ _ h) = h.new.low

pub post_low : (g : Setting) (m n : Machine) (rank comm : ℕ) (plan : Planned) (bytes : List ℕ) (t : Ticket) (xs : List ℕ)
    → StepsTo g m (Post rank comm plan bytes) (Ticketed t) n → AreMeasured g m.state xs → t.slot < length xs
post_low g m n rank comm plan bytes t xs (mid, step, may) a = subst (λ k. t.slot < k) (sym a.enough) (posted_low g m mid rank comm plan bytes t step)

pub init_low : (g : Setting) (m n : Machine) (rank comm : ℕ) (plan : Planned) (t : Ticket) (xs : List ℕ)
    → MachineStep g m (Init rank comm plan) (Ticketed t) n → AreMeasured g m.state xs → t.slot < length xs
init_low g _ _ rank comm plan t xs (init _ _ place _ _ h) a = subst (λ k. t.slot < k) (sym a.enough) h.new.low

-- an engine without requests
pub measured_idle : (g : Setting) (s : State) (xs : List ℕ) → ((i : ℕ) → s.request i ≡ None) → length xs ≡ g.slots → AreMeasured g s xs
measured_idle g s xs empty many = record { enough = many; each = λ i q e. absurd (none-some q (sym (empty i) ∙ e)) }
