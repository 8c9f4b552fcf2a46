-- What the machine's calls do to one slot, and to what was given.
use Rattle.std.proofs.Common.{◌≡◌, ℕ, suc, ◌<◌, ◌⊎◌, inl, inr, true, false, List, [], ◌∷◌, ◌++◌, length, Option, Some, None, refl, sym, ap, subst, ◌∙◌, arith}
use Rattle.std.proofs.lemmas.Bool.{false≢true}
use Rattle.std.proofs.lemmas.Option.{none-some, same_Some}
use Rattle.std.specs.Prelude.{slice_get, option_map}
use Rattle.coll_kinds.specs.declared.kind.Mode.{Mode}
use Rattle.coll_kinds.specs.declared.kind.Mode.TheVariants.{Once, Persistent}
use Rattle.coll_kinds.specs.declared.signature.Signature.{Signature}
use Rattle.coll_kinds.specs.declared.ticket.Ticket.{Ticket}
use Rattle.coll_kinds.specs.Puts.{put}
use Rattle.coll_kinds.proofs.Puts.{put_same, put_other, put_cases}
use Rattle.coll_machine.specs.Common.{Setting, Request, State, found, key_of, put_key, put_in, new_request, created, once_more, started, rested}
use Rattle.coll_machine.specs.Common.{rested_by, holding, forgotten, Planned, Posts, Inits, Frees, Retires, Clears}
use Rattle.coll_machine.specs.declared.key.Key.{Key}
use Rattle.coll_machine.proofs.Posted.{still_there}
use Rattle.coll_machine.proofs.Pushed.{get_pushed, length_pushed}
use Rattle.coll_machine.proofs.Puts.{put2_same, put2_cases, put_key_cases}
use Rattle.coll_verdict.specs.Standings.{kept}
use Rattle.coll_verdict.proofs.Agreeing.{Moves, Makes}

-- ---- a new request

module _ (g : Setting) (s : State) (t : Ticket) (q : Request) (sig : Signature) (place_is : q.place ≡ length (s.posts q.comm q.member)) where
  created_sig : slice_get ((created s t q sig).posts q.comm q.member) q.place ≡ Some sig
  created_sig =
      ap (λ (l : List Signature). slice_get l q.place) (put2_same s.posts q.comm q.member (s.posts q.comm q.member ++ sig ∷ []))
      ∙ (ap (slice_get (s.posts q.comm q.member ++ sig ∷ [])) place_is ∙ get_pushed (s.posts q.comm q.member) sig)

  created_longer : length ((created s t q sig).posts q.comm q.member) ≡ suc (length (s.posts q.comm q.member))
  created_longer = ap length (put2_same s.posts q.comm q.member (s.posts q.comm q.member ++ sig ∷ [])) ∙ length_pushed (s.posts q.comm q.member) sig

  created_others : (c m : ℕ) → ((c ≡ q.comm) × (m ≡ q.member) → ⊥) → (created s t q sig).posts c m ≡ s.posts c m
  created_others c m d = go (put2_cases s.posts q.comm q.member (s.posts q.comm q.member ++ sig ∷ []) c m)
    where
      go : ((c ≡ q.comm) × (m ≡ q.member) × ((created s t q sig).posts c m ≡ s.posts q.comm q.member ++ sig ∷ []))
          ⊎ (((c ≡ q.comm) × (m ≡ q.member) → ⊥) × ((created s t q sig).posts c m ≡ s.posts c m))
          → (created s t q sig).posts c m ≡ s.posts c m
      go (inl a) = absurd (d (a.0, a.1))
      go (inr a) = a.1

pub makes_init : (g : Setting) (s u : State) (rank comm place : ℕ) (plan : Planned) (t : Ticket)
    → (p : Inits g s rank t comm place plan u) → Makes g s u rank comm p.member t plan.sig 0 false
makes_init g s u rank comm place plan t p = subst (λ (u : State). Makes g s u rank comm p.member t plan.sig 0 false) (sym p.leaves) made
  where
    made : Makes g s (created s t (new_request rank comm p.member place Persistent) plan.sig) rank comm p.member t plan.sig 0 false
    made = record {
      moves = record {
        generation = λ i d. put_other s.generation t.slot t.generation i d;
        request = λ i d. put_other s.request t.slot (Some (new_request rank comm p.member place Persistent)) i d;
        posts = still_there s t (new_request rank comm p.member place Persistent) plan.sig;
      };
      spare = p.new.spare;
      current = put_same s.generation t.slot t.generation;
      request = new_request rank comm p.member place Persistent;
      is = put_same s.request t.slot (Some (new_request rank comm p.member place Persistent));
      is_member = p.member_is;
      rank_is = refl;
      comm_is = refl;
      place_is = p.place_is;
      starts_is = refl;
      sig_is = created_sig g s t (new_request rank comm p.member place Persistent) plan.sig p.place_is;
      active_is = λ e. absurd (false≢true e);
      begun = λ e. absurd (false≢true e);
      longer = created_longer g s t (new_request rank comm p.member place Persistent) plan.sig p.place_is;
      others = created_others g s t (new_request rank comm p.member place Persistent) plan.sig p.place_is;
    }

one : 0 < 1
one = omega arith

pub makes_post : (g : Setting) (s u : State) (rank comm place : ℕ) (plan : Planned) (bytes : List ℕ) (t : Ticket)
    → (p : Posts g s rank t comm place plan bytes u) → Makes g s u rank comm p.member t plan.sig 1 true
makes_post g s u rank comm place plan bytes t p = subst (λ (u : State). Makes g s u rank comm p.member t plan.sig 1 true) (sym p.leaves) made
  where
    made : Makes g s (started (created s t (new_request rank comm p.member place Once) plan.sig) t.slot
        (new_request rank comm p.member place Once) bytes) rank comm p.member t plan.sig 1 true
    made = record {
      moves = record {
        generation = λ i d. put_other s.generation t.slot t.generation i d;
        request = λ i d. (
            put_other (put s.request t.slot (Some (new_request rank comm p.member place Once))) t.slot
            (Some (once_more (new_request rank comm p.member place Once))) i d
            ∙ put_other s.request t.slot (Some (new_request rank comm p.member place Once)) i d);
        posts = still_there s t (new_request rank comm p.member place Once) plan.sig;
      };
      spare = p.new.spare;
      current = put_same s.generation t.slot t.generation;
      request = once_more (new_request rank comm p.member place Once);
      is = put_same (put s.request t.slot (Some (new_request rank comm p.member place Once))) t.slot
          (Some (once_more (new_request rank comm p.member place Once)));
      is_member = p.member_is;
      rank_is = refl;
      comm_is = refl;
      place_is = p.place_is;
      starts_is = refl;
      sig_is = created_sig g s t (new_request rank comm p.member place Once) plan.sig p.place_is;
      active_is = λ e. refl;
      begun = λ e. one;
      longer = created_longer g s t (new_request rank comm p.member place Once) plan.sig p.place_is;
      others = created_others g s t (new_request rank comm p.member place Once) plan.sig p.place_is;
    }

-- ---- what was given

-- what is given after one more contribution was given before, or is that one
pub given_before : (f : Key → ℕ → Option (List ℕ)) (k : Key) (member : ℕ) (bytes : List ℕ) (key : Key) (m : ℕ) (b : List ℕ)
    → put_in f k member (Some bytes) key m ≡ Some b
    → (f key m ≡ Some b) ⊎ ((key ≡ k) × (m ≡ member))
given_before f k member bytes key m b e = go (put_key_cases f k (put (f k) member (Some bytes)) key)
  where
    inner : key ≡ k → put (f k) member (Some bytes) m ≡ Some b
        → ((m ≡ member) × (put (f k) member (Some bytes) m ≡ Some bytes)) ⊎ ((m ≡ member → ⊥) × (put (f k) member (Some bytes) m ≡ f k m))
        → (f key m ≡ Some b) ⊎ ((key ≡ k) × (m ≡ member))
    inner x h (inl a) = inr (x, a.0)
    inner x h (inr a) = inl (ap (λ (k : Key). f k m) x ∙ (sym a.1 ∙ h))

    go : ((key ≡ k) × (put_key f k (put (f k) member (Some bytes)) key ≡ put (f k) member (Some bytes)))
        ⊎ ((key ≡ k → ⊥) × (put_key f k (put (f k) member (Some bytes)) key ≡ f key)) → (f key m ≡ Some b) ⊎ ((key ≡ k) × (m ≡ member))
    go (inl a) = inner a.0 (ap (λ (f : ℕ → Option (List ℕ)). f m) (sym a.1) ∙ e) (put_cases (f k) member (Some bytes) m)
    go (inr a) = inl (ap (λ (f : ℕ → Option (List ℕ)). f m) (sym a.1) ∙ e)

-- what is given now was given before
abbrev pub GivesLess : State → State → Type 0
GivesLess s u = (key : Key) (m : ℕ) (b : List ℕ) → u.given key m ≡ Some b → s.given key m ≡ Some b

forgets : (s : State) (k : Key) → GivesLess s (forgotten s k)
forgets s k key m b e = go (put_key_cases s.given k (λ m. None) key)
  where
    go : ((key ≡ k) × (put_key s.given k (λ m. None) key ≡ λ m. None)) ⊎ ((key ≡ k → ⊥) × (put_key s.given k (λ m. None) key ≡ s.given key))
        → s.given key m ≡ Some b
    go (inl a) = absurd (none-some b (ap (λ (f : ℕ → Option (List ℕ)). f m) (sym a.1) ∙ e))
    go (inr a) = ap (λ (f : ℕ → Option (List ℕ)). f m) (sym a.1) ∙ e

-- ---- a request is completed, or gone

-- only the request in the slot has changed, and less may be given
pub record Leaves (s u : State) (slot : ℕ) (request : Option Request) : Type 0 where
  pub generation : (i : ℕ) → u.generation i ≡ s.generation i
  pub is : u.request slot ≡ request
  pub others : (i : ℕ) → (i ≡ slot → ⊥) → u.request i ≡ s.request i
  pub posts : (c m : ℕ) → u.posts c m ≡ s.posts c m
  pub given : GivesLess s u

leaves_holding : (s : State) (slot : ℕ) (request : Option Request) → Leaves s (holding s slot request) slot request
leaves_holding s slot request = record {
  generation = λ i. refl;
  is = put_same s.request slot request;
  others = λ i d. put_other s.request slot request i d;
  posts = λ c m. refl;
  given = λ key m b e. e;
}

leaves_forgotten : (s : State) (slot : ℕ) (request : Option Request) (k : Key) → Leaves s (forgotten (holding s slot request) k) slot request
leaves_forgotten s slot request k = record {
  generation = λ i. refl;
  is = put_same s.request slot request;
  others = λ i d. put_other s.request slot request i d;
  posts = λ c m. refl;
  given = forgets (holding s slot request) k;
}

leaves_cleared : (g : Setting) (s u : State) (slot : ℕ) (request : Option Request) (k : Key) → Clears g (holding s slot request) k u → Leaves s u slot request
leaves_cleared g s u slot request k (inl a) = subst (λ (u : State). Leaves s u slot request) (sym a.1) (leaves_forgotten s slot request k)
leaves_cleared g s u slot request k (inr a) = subst (λ (u : State). Leaves s u slot request) (sym a.1) (leaves_holding s slot request)

pub leaves_retired : (g : Setting) (s u : State) (rank comm place start : ℕ) (bytes : List ℕ) (t : Ticket)
    → (r : Retires g s rank t comm place start bytes u) → Leaves s u t.slot (rested r.request)
leaves_retired g s u rank comm place start bytes t r = leaves_cleared g s u t.slot (rested r.request) (key_of r.request start) r.leaves

pub leaves_freed : (g : Setting) (s u : State) (rank : ℕ) (t : Ticket) → Frees g s rank t u → Leaves s u t.slot None
leaves_freed g s u rank t p = subst (λ (u : State). Leaves s u t.slot None) (sym p.leaves) (leaves_holding s t.slot None)

pub leaves_moves : (s u : State) (slot : ℕ) (request : Option Request) → Leaves s u slot request → Moves s u slot
leaves_moves s u slot request l = record {
  generation = λ i d. l.generation i;
  request = l.others;
  posts = λ c m place sig e. ap (λ (list : List Signature). slice_get list place) (l.posts c m) ∙ e;
}

-- what remains of a completed request is inactive
pub rests_inactive : (request other : Request) → rested request ≡ Some other → rested request ≡ Some (record request { active = false })
rests_inactive request other e = go request.mode e
  where
    go : (mode : Mode) → rested_by mode request ≡ Some other → rested_by mode request ≡ Some (record request { active = false })
    go Once e = absurd (none-some other e)
    go Persistent e = refl

-- a ticket that is kept is the same, and names a request
pub kept_is : (s : State) (t v : Ticket) → kept s t ≡ Some v → (v ≡ t) × ((request : Request) × (found s t ≡ Some request))
kept_is s t v e = go (found s t) refl e
  where
    go : (o : Option Request) → found s t ≡ o → option_map (λ (request : Request). t) o ≡ Some v → (v ≡ t) × ((request : Request) × (found s t ≡ Some request))
    go None is e = absurd (none-some v e)
    go (Some request) is e = (sym (same_Some t v e), (request, is))
