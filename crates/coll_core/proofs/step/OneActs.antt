-- The first of Ready acts, and no other.
use Rattle.std.proofs.Common.{◌≡◌, ◌∙◌, ◌⊎◌, inl, inr, ℕ, Bool, List, Option, Some, ap, refl, sym}
use Rattle.std.specs.Prelude.{option_map, slice_index_or, None}
use Rattle.std.proofs.lemmas.Option.{same_Some}
use Rattle.coll_kinds.specs.declared.ticket.Ticket.{Ticket}
use Rattle.coll_kinds.proofs.Puts.{put_other, put_same}
use Rattle.coll_lists.specs.Layouts.{Layout}
use Rattle.coll_lists.specs.Moves.{moved_back}
use Rattle.coll_sched.specs.declared.action.Action.{Action}
use Rattle.coll_sched.specs.declared.action.Action.TheVariants.{Send}
use Rattle.coll_sched.specs.declared.region.Region.{Region}
use Rattle.coll_arena.specs.ListNames.{number_of}
use Rattle.coll_arena.specs.Slots.{Slots, home, record_in}
use Rattle.coll_match.specs.Instances.{seats}
use Rattle.coll_machine.specs.declared.key.Key.{Key}
use Rattle.coll_refinement.specs.Requests.{Live, key}
use Rattle.coll_refinement.specs.Shown.{Instances, listed}
use Rattle.coll_refinement.specs.Shown as tabled
use Rattle.coll_refinement.specs.Sound.{Owned}
use Rattle.coll_core.specs.declared.request.Request.{Request}
use Rattle.coll_core.specs.Cores.{IsCore, Parts, tables}
use Rattle.coll_core.specs.Requests.{shown}
use Rattle.coll_core.specs.Advancing.{Brings, Moved}
use Rattle.coll_core.specs.Steps.{ActsFirst, IsActingAt, Receives, placed}
use Rattle.coll_core.proofs.step.Act.{Gone}

-- the slot that is noted for a member has that member's request of the same collective
pub receives : (p : Parts) (n : Instances) (b : Slots Request) (x : Request) (to : ℕ) (from : Region) (k : Key) (slot : ℕ)
    → IsCore p → k ≡ key (shown x) → seats n ≡ seats p.matches → Moved p.arena b n k to slot
    → Receives p x (Send to from) slot
receives p n b x to from k slot core k_is same m = record {
  request = m.request;
  to = to;
  from = from;
  sends = refl;
  here = m.here;
  key_is = ap key (sym req_is) ∙ owned.key_is;
  member_is = ap (λ (q : Live). q.member) (sym req_is) ∙ owned.member_is;
  waits = m.waits;
}
  where
    owned : Owned (tables p).request (key (shown x)) to slot
    owned = core.sound.sound.base.owner (key (shown x)) to slot
        (sym (λ z. same z (k_is z) to) ∙ m.seat)

    req_is : owned.req ≡ listed (home p.arena slot) (shown m.request)
    req_is = same_Some owned.req (listed (home p.arena slot) (shown m.request))
        (sym owned.is ∙ ap (λ (o : Option Request). tabled.seen (home p.arena slot) (option_map shown o)) m.here)

module _ (p r : Parts) (n : Instances) (b : Slots Request) (t : Ticket) (x : Request) (act : Action) (bytes : List ℕ) (finished : Bool)
    (at : IsActingAt p t act x) (g : Gone b r.arena n t x bytes finished) where
  home_there : home r.arena t.slot ≡ number_of g.list
  home_there = ap (λ (f : ℕ → ℕ). f t.slot) g.puts.homes ∙ put_same (home b) t.slot (number_of g.list)

  pub acts_alone : ((j : ℕ) → record_in b j ≡ record_in p.arena j)
      → (b.lists ≡ p.arena.lists) ⊎ ((receiver : ℕ) × Receives p x act receiver × (b.lists ≡ moved_back receiver 2 p.arena.lists))
      → ActsFirst p r
  acts_alone same lists = record {
    slot = t.slot;
    from = x;
    to = g.to;
    action = act;
    point = g.point;
    first = at.first;
    here = at.here;
    there = ap (λ (f : ℕ → Option Request). f t.slot) g.puts.records ∙ put_same (record_in b) t.slot (Some g.to);
    next_is = at.next_is;
    is = g.is;
    over = g.over;
    others = λ j away. ap (λ (f : ℕ → Option Request). f j) g.puts.records ∙ (put_other (record_in b) t.slot (Some g.to) j away ∙ same j);
    lists_is = by lists;
  }
    where
      at_home : r.arena.lists ≡ placed t.slot (home r.arena t.slot) b.lists
      at_home = g.placed_is ∙ ap (λ l. placed t.slot l b.lists) (sym home_there)

      by : (b.lists ≡ p.arena.lists) ⊎ ((receiver : ℕ) × Receives p x act receiver × (b.lists ≡ moved_back receiver 2 p.arena.lists))
          → (r.arena.lists ≡ placed t.slot (home r.arena t.slot) p.arena.lists)
          ⊎ ((receiver : ℕ) × Receives p x act receiver × (r.arena.lists ≡ placed t.slot (home r.arena t.slot) (moved_back receiver 2 p.arena.lists)))
      by (inl e) = inl (at_home ∙ ap (λ (l : Layout). placed t.slot (home r.arena t.slot) l) e)
      by (inr h) = inr (h.0, h.1, at_home ∙ ap (λ (l : Layout). placed t.slot (home r.arena t.slot) l) h.2)

-- after a delivery
pub records_brought : (a b : Slots Request) (n : Instances) (k : Key) (to : ℕ) → Brings a b n k to → (j : ℕ) → record_in b j ≡ record_in a j
records_brought a b n k to (inl same) j = ap (λ (z : Slots Request). record_in z j) same
records_brought a b n k to (inr m) j = ap (λ (rs : List (Option Request)). slice_index_or rs j None) m.1.records_are

pub lists_brought : (p : Parts) (b : Slots Request) (n : Instances) (x : Request) (to : ℕ) (from : Region) (k : Key)
    → IsCore p → k ≡ key (shown x) → seats n ≡ seats p.matches → Brings p.arena b n k to
    → (b.lists ≡ p.arena.lists) ⊎ ((receiver : ℕ) × Receives p x (Send to from) receiver × (b.lists ≡ moved_back receiver 2 p.arena.lists))
lists_brought p b n x to from k core k_is same (inl e) = inl (ap (λ (z : Slots Request). z.lists) e)
lists_brought p b n x to from k core k_is same (inr m) = inr (m.0, receives p n b x to from k m.0 core k_is same m.1, m.1.lists_is)
