-- A Combine that goes out, or comes back.
use Rattle.std.proofs.Common.{◌≡◌, ◌∙◌, ◌<◌, ◌⊎◌, inl, inr, ℕ, true, length, Option, Some, ap, refl, sym, subst, arith}
use Rattle.coll_kinds.specs.declared.ticket.Ticket.{Ticket}
use Rattle.coll_kinds.proofs.Puts.{put_same}
use Rattle.coll_arena.specs.Changes.{shifted}
use Rattle.coll_arena.specs.Lookups.{IsFirst, PutsSlot}
use Rattle.coll_arena.specs.Slots.{Slots, generation_of, home, names, record_in, weight_of}
use Rattle.coll_arena.proofs.Sounds.{Named, Named-names, names_all}
use Rattle.coll_queues.specs.Postings.{Postings}
use Rattle.coll_refinement.specs.Shown.{Instances}
use Rattle.coll_refinement.specs.Shown as tabled
use Rattle.coll_refinement.specs.Cores as tabled_core
use Rattle.coll_refinement.specs.Remaining.{actions_left}
use Rattle.coll_refinement.specs.Tables.{machine}
use Rattle.coll_refinement.proofs.engine.Changes.{Moves}
use Rattle.coll_refinement.proofs.engine.Actions.{move_core}
use Rattle.coll_refinement.proofs.engine.Slots.{one_shifted}
use Rattle.coll_core.specs.declared.request.Request.{Request}
use Rattle.coll_core.specs.Cores.{IsCore, Parts, setting}
use Rattle.coll_core.specs.Requests.{schedule, shown}
use Rattle.coll_core.specs.Steps.{HandsOut, IsOut, Stays}
use Rattle.coll_core.specs.Works.{Piece, StandsAt}
use Rattle.coll_core.proofs.step.Act.{parts, same_setting}
use Rattle.coll_core.proofs.between.FirstOfReady.{acting}

module _ (ranks starts trace : ℕ) (a b : Slots Request) (q : Postings) (m : Instances) (t : Ticket) (x : Request) (list : ℕ) where
  pub moved : (w : Piece) → IsCore (parts ranks starts trace a q m) → names a t ≡ true → record_in a t.slot ≡ Some x
      → (home a t.slot ≡ 2) ⊎ (home a t.slot ≡ 3) → StandsAt (shown x) w → (list ≡ 2) ⊎ (list ≡ 3)
      → PutsSlot a b t.slot t.generation (weight_of a t.slot) (record_in a t.slot) list
      → IsCore (parts ranks starts trace b q m) × Stays (parts ranks starts trace a q m) (parts ranks starts trace b q m)
  moved w core live here from stands onto puts = (
    subst (λ g. tabled_core.IsCore shown g b q m) (sym set) kept.0,
    record {
      set = set;
      same = kept.1;
      keeps = ap (λ g. actions_left (tabled.tables shown g b q m)) set ∙ kept.2;
    },
  )
    where
      set : setting (parts ranks starts trace b q m) ≡ setting (parts ranks starts trace a q m)
      set = same_setting ranks starts trace a b q m m puts.count_is puts.wear_is

      moves : Moves shown a b t x list
      moves = record {
        op = w.op;
        ty = w.ty;
        left = stands.left;
        right = stands.right;
        into = stands.into;
        found = record { here = here; generation_is = (Named-names a t live).generation };
        active = refl;
        from = from;
        next_is = stands.next_is;
        onto = onto;
        puts = one_shifted a b t.slot t.generation list x here puts;
      }

      kept : tabled_core.IsCore shown (setting (parts ranks starts trace a q m)) b q m
          × (machine (tabled.tables shown (setting (parts ranks starts trace a q m)) b q m)
          ≡ machine (tabled.tables shown (setting (parts ranks starts trace a q m)) a q m))
          × (actions_left (tabled.tables shown (setting (parts ranks starts trace a q m)) b q m)
          ≡ actions_left (tabled.tables shown (setting (parts ranks starts trace a q m)) a q m))
      kept = move_core shown (setting (parts ranks starts trace a q m)) a b q m t x list core moves

pub is_out_now : (ranks starts trace : ℕ) (a b : Slots Request) (q : Postings) (m : Instances) (t : Ticket) (x : Request) (w : Piece) → w.ticket ≡ t
    → names a t ≡ true → record_in a t.slot ≡ Some x → StandsAt (shown x) w
    → PutsSlot a b t.slot t.generation (weight_of a t.slot) (record_in a t.slot) 3
    → IsOut (parts ranks starts trace b q m) w
is_out_now ranks starts trace a b q m t x w e live here stands puts = record {
  request = x;
  live = subst (λ (u : Ticket). names b u ≡ true) (sym e)
      (names_all b t (subst (λ n. t.slot < n) (sym puts.count_is) named.low) (three there)
      (ap (λ (f : ℕ → ℕ). f t.slot) puts.generations ∙ put_same (generation_of a) t.slot t.generation));
  here = ap (λ (u : Ticket). record_in b u.slot) e
      ∙ (ap (λ (f : ℕ → Option Request). f t.slot) puts.records ∙ (put_same (record_in a) t.slot (record_in a t.slot) ∙ here));
  runs = ap (λ (u : Ticket). home b u.slot) e ∙ there;
  stands = stands;
}
  where
    named : Named a t
    named = Named-names a t live

    there : home b t.slot ≡ 3
    there = ap (λ (f : ℕ → ℕ). f t.slot) puts.homes ∙ put_same (home a) t.slot 3

    three : {l : ℕ} → l ≡ 3 → 1 < l
    three h = omega (arith, h)

pub hands_out : (ranks starts trace : ℕ) (a b : Slots Request) (q : Postings) (m : Instances) (t : Ticket) (x : Request) (w : Piece) → w.ticket ≡ t
    → IsCore (parts ranks starts trace a q m) → IsFirst a 2 t → record_in a t.slot ≡ Some x → StandsAt (shown x) w
    → PutsSlot a b t.slot t.generation (weight_of a t.slot) (record_in a t.slot) 3
    → b ≡ shifted a t.slot 3
    → IsCore (parts ranks starts trace b q m) × HandsOut (parts ranks starts trace a q m) (parts ranks starts trace b q m) w
hands_out ranks starts trace a b q m t x w e core first here stands puts is =
    let kept = moved ranks starts trace a b q m t x 3 w core first.live here (inl first.home_is) stands (inr refl) puts in (
      kept.0,
      record {
        first = first.first ∙ ap (λ (u : Ticket). Some u.slot) (sym e);
        out = is_out_now ranks starts trace a b q m t x w e first.live here stands puts;
        is = ap (λ (z : Slots Request). parts ranks starts trace z q m) (is ∙ ap (λ (u : Ticket). shifted a u.slot 3) (sym e));
        stays = kept.1;
      },
    )

pub first_filled : (p v : Parts) (t : Ticket) (x : Request) → p ≡ v → IsCore p → IsFirst v.arena 2 t
    → record_in p.arena t.slot ≡ Some x → length x.buffer ≡ (schedule (shown x)).size
first_filled p v t x e core first here = (acting p core t.slot x here (ap (λ (z : Parts). home z.arena t.slot) e ∙ first.home_is)).filled
