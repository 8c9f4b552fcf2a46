-- A request that is started again.
use Rattle.std.proofs.Common.{◌≡◌, ◌∙◌, ℕ, true, List, Option, Some, ap, subst}
use Rattle.std.specs.Prelude.{IfSome}
use Rattle.coll_kinds.specs.declared.ticket.Ticket.{Ticket}
use Rattle.coll_kinds.specs.Common.{lent, put}
use Rattle.coll_arena.specs.declared.list_name.ListName.{ListName}
use Rattle.coll_arena.specs.ListNames.{number_of}
use Rattle.coll_lists.specs.Moves.{moved_back}
use Rattle.coll_arena.specs.Changes.{reweighed, rewritten, shifted}
use Rattle.coll_arena.specs.Lookups.{PutsSlot}
use Rattle.coll_arena.specs.Slots.{Slots, generation_of, home, names, record_in, weight_of}
use Rattle.coll_arena.specs.Sound.{IsSound}
use Rattle.coll_arena.proofs.Sounds.{Named-names}
use Rattle.coll_machine.specs.declared.key.Key.{Key}
use Rattle.coll_machine.specs.Changes.{put_key}
use Rattle.coll_match.specs.Instances.{given, mail, members, seats}
use Rattle.coll_refinement.specs.Engines.{IsJoined}
use Rattle.coll_refinement.specs.OneSlots.{OneSlot}
use Rattle.coll_refinement.specs.Requests.{Live, key}
use Rattle.coll_refinement.specs.Shown.{Instances}
use Rattle.coll_refinement.specs.Sound.{Stands}
use Rattle.coll_refinement.proofs.engine.Slots.{one_written, then_reweighed, then_shifted}
use Rattle.coll_core.specs.declared.request.Request.{Request}
use Rattle.coll_core.specs.Requests.{IsListOf, shown}
use Rattle.coll_core.specs.Starts.{Begins, Begun, next_instance}
use Rattle.coll_core.proofs.retire.Retire.{if_some}

-- a join, then a seat
pub joined : (m j n : Instances) (k : Key) (member slot : ℕ) (bytes : List ℕ)
    → members j ≡ members m
    → given j ≡ put_key (given m) k (put (given m k) member (Some bytes))
    → seats j ≡ seats m
    → mail j ≡ mail m
    → members n ≡ members j
    → given n ≡ given j
    → seats n ≡ put_key (seats j) k (put (seats j k) member (Some slot))
    → mail n ≡ mail j
    → IsJoined m n k member slot bytes
joined m j n k member slot bytes jm jg js jl nm ng ns nl = record {
  members = nm ∙ jm;
  given = ng ∙ jg;
  seats = ns ∙ ap (λ (f : Key → ℕ → Option ℕ). put_key f k (put (f k) member (Some slot))) js;
  mail = nl ∙ jl;
}

module _ (a b c : Slots Request) (m n : Instances) (t : Ticket) (x y : Request) (bytes buf : List ℕ)
    (sound : IsSound a) (named : names a t ≡ true) (here : record_in a t.slot ≡ Some x)
    (begins : Begins (shown x) (shown y) buf) where
  slot_of : (w : ℕ) (list : ListName) → w ≡ lent y.plan.sig y.plan.n y.plan.member
      → PutsSlot (rewritten a t.slot y) b t.slot t.generation w (record_in (rewritten a t.slot y) t.slot) (home (rewritten a t.slot y) t.slot)
      → PutsSlot b c t.slot t.generation (weight_of b t.slot) (record_in b t.slot) (number_of list)
      → OneSlot a c t.slot t.generation (lent x.plan.sig x.plan.n x.plan.member) (Some y) (number_of list)
  slot_of w list heavy weighs moves =
      subst (λ w. OneSlot a c t.slot t.generation w (Some y) (number_of list)) (heavy ∙ ap (λ (q : Live). lent q.sig q.members q.member) begins.is)
      (then_shifted a b t.slot t.generation w (home a t.slot) (Some y) weighed c t.generation (number_of list) moves)
    where
      written : OneSlot a (rewritten a t.slot y) t.slot (generation_of a t.slot) (weight_of a t.slot) (Some y) (home a t.slot)
      written = one_written a sound t.slot (Named-names a t named).low y

      weighed : OneSlot a b t.slot t.generation w (Some y) (home a t.slot)
      weighed = then_reweighed a (rewritten a t.slot y) t.slot (generation_of a t.slot) (weight_of a t.slot) (home a t.slot)
          (Some y) written b t.generation w weighs

  pub begun_there : (w : ℕ) (list : ListName) (k : Key) (member : ℕ) → w ≡ lent y.plan.sig y.plan.n y.plan.member
      → PutsSlot (rewritten a t.slot y) b t.slot t.generation w (record_in (rewritten a t.slot y) t.slot) (home (rewritten a t.slot y) t.slot)
      → PutsSlot b c t.slot t.generation (weight_of b t.slot) (record_in b t.slot) (number_of list)
      → k ≡ key (shown y)
      → member ≡ y.plan.member
      → IsJoined m n k member t.slot bytes
      → Stands y.plan.n (mail n (key (shown y))) (number_of list) (shown y)
      → IsListOf y.comm list
      → b ≡ reweighed (rewritten a t.slot y) t.slot w
      → c ≡ shifted b t.slot (number_of list)
      → IfSome (record_in a t.slot) (λ x. Begun a c m n t x bytes buf)
  begun_there w list k member heavy weighs moves key_is member_is joins stands onto reweighs shifts =
      if_some (λ x. Begun a c m n t x bytes buf) (record_in a t.slot) x here (record {
        to = y;
        list = list;
        puts = slot_of w list heavy weighs moves;
        lists_is = ap (λ (z : Slots Request). z.lists) shifts ∙ ap (λ (z : Slots Request). moved_back t.slot (number_of list) z.lists) reweighs;
        onto = subst (λ (q : Live). IsListOf q.comm list) begins.is onto;
        begins = begins;
        joined = subst (λ m'. IsJoined m n (next_instance x) m' t.slot bytes) (member_is ∙ ap (λ (q : Live). q.member) begins.is)
            (subst (λ k. IsJoined m n k member t.slot bytes) (key_is ∙ ap key begins.is) joins);
        stands = subst (λ (f : Key → ℕ → ℕ → ℕ → Option (List ℕ)). Stands x.plan.n (f (next_instance x)) (number_of list) (shown y)) joins.mail
            (subst (λ (q : Live). Stands q.members (mail n (key q)) (number_of list) (shown y)) begins.is stands);
      })
