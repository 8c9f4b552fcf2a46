-- A slot stands on its home, and nowhere else.
use Rattle.std.proofs.Common.{ℕ, ◌<◌, subst, sym, refl, length, arith}
use Rattle.coll_lists.specs.Layouts.{sequence, times}
use Rattle.coll_lists.proofs.Walking.{node_stands, once_at_most, stands}
use Rattle.coll_arena.specs.Homes.{StandsAtHome}
use Rattle.coll_arena.specs.Slots.{Slots, count, ticket_of}
use Rattle.coll_arena.specs.Sound.{IsSound}
use Rattle.coll_arena.proofs.Sounds.{names_all}

pub StandsAtHome-sound : {R : Type 0} (a : Slots R) → IsSound a → (slot list : ℕ) → list < length a.lists → StandsAtHome a slot list
StandsAtHome-sound a s slot list low =
    record {
      at_home = (
        (λ some. stands (count a) a.lists s.lawful slot list low some),
        (λ at. subst (λ l. 0 < times slot (sequence a.lists l)) at.1 (node_stands (count a) a.lists s.lawful slot at.0).1),
      );
      once = once_at_most (count a) a.lists s.lawful list slot;
      live = λ live some.
          let at = stands (count a) a.lists s.lawful slot list low some in
          names_all a (ticket_of a slot) at.0 (subst (λ l. 1 < l) (sym at.1) (omega (arith, live))) refl;
    }
