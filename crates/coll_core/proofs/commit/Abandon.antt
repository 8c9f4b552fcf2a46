-- A combination that comes back undone.
use Rattle.std.proofs.Common.{◌≡◌, ◌∙◌, ◌<◌, ◌+◌, ◌*◌, inl, inr, ℕ, true, [], ◌∷◌, length, Some, ap, refl, sym, subst, arith}
use Rattle.std.proofs.lemmas.List.{get_or-set_same, length-map}
use Rattle.coll_kinds.specs.declared.ticket.Ticket.{Ticket}
use Rattle.coll_lists.specs.Layouts.{Layout, sequence}
use Rattle.coll_lists.specs.Moves.{moved_front, taken_out, without}
use Rattle.coll_lists.specs.Neighbours.{first_in}
use Rattle.coll_arena.specs.Changes.{shifted_front}
use Rattle.coll_arena.specs.Lookups.{PutsSlot}
use Rattle.coll_arena.specs.Slots.{Slots, home, names, record_in, weight_of}
use Rattle.coll_arena.specs.Sound.{IsSound}
use Rattle.coll_queues.specs.Postings.{Postings}
use Rattle.coll_refinement.specs.Shown.{Instances}
use Rattle.coll_core.specs.declared.request.Request.{Request}
use Rattle.coll_core.specs.Cores.{IsCore, Parts}
use Rattle.coll_core.specs.Steps.{IsOut, Returns, Stays}
use Rattle.coll_core.specs.Works.{Piece}
use Rattle.coll_core.proofs.step.Act.{parts}
use Rattle.coll_core.proofs.step.Combine.{moved}

front_first : (lists : Layout) (i : ℕ) → 2 < length lists → first_in (sequence (moved_front i 2 lists) 2) ≡ Some i
front_first lists i low =
    ap first_in (get_or-set_same (without i lists) 2 (i ∷ sequence (without i lists) 2) [] (subst (λ n. 2 < n) (sym (length-map lists (taken_out i))) low))

two_low : (n c : ℕ) → n ≡ 4 + 3 * c → 2 < n
two_low n c e = omega (arith, e)

pub returned : (ranks starts trace : ℕ) (a b : Slots Request) (q : Postings) (m : Instances) (v : Parts) (w : Piece) (t : Ticket) → t ≡ w.ticket
    → parts ranks starts trace a q m ≡ v → IsSound a → IsCore (parts ranks starts trace a q m) → IsOut v w
    → b ≡ shifted_front a t.slot 2
    → PutsSlot a b t.slot t.generation (weight_of a t.slot) (record_in a t.slot) 2
    → IsCore (parts ranks starts trace b q m) × Returns v (parts ranks starts trace b q m) w
returned ranks starts trace a b q m v w t t_is e sound core out is puts = (
  kept.0,
  subst (λ (z : Parts). Returns z (parts ranks starts trace b q m) w) e (record {
    first = subst (λ (z : Ticket). first_in (sequence b.lists 2) ≡ Some z.slot) t_is
        (ap (λ (z : Slots Request). first_in (sequence z.lists 2)) is ∙ front_first a.lists t.slot (two_low (length a.lists) a.comms sound.lists_is));
    is = ap (λ (z : Slots Request). parts ranks starts trace z q m) (is ∙ ap (λ (u : Ticket). shifted_front a u.slot 2) t_is);
    stays = kept.1;
    running_is = subst (λ (z : Ticket). sequence b.lists 3 ≡ taken_out z.slot (sequence a.lists 3)) t_is (puts.from 3 (λ f. absurd (omega (arith, f))));
  }),
)
  where
    at : IsOut (parts ranks starts trace a q m) w
    at = subst (λ (z : Parts). IsOut z w) (sym e) out

    kept : IsCore (parts ranks starts trace b q m) × Stays (parts ranks starts trace a q m) (parts ranks starts trace b q m)
    kept = moved ranks starts trace a b q m t at.request 2 w core
        (subst (λ (z : Ticket). names a z ≡ true) (sym t_is) at.live) (subst (λ (z : Ticket). record_in a z.slot ≡ Some at.request) (sym t_is) at.here)
        (inr (subst (λ (z : Ticket). home a z.slot ≡ 3) (sym t_is) at.runs)) at.stands (inl refl) puts
