-- The condition of an engine that keeps an arena, posting lists and instances.
use Rattle.std.specs.Prelude.{◌≡◌, ℕ, length, Some}
use Rattle.coll_arena.specs.Slots.{Slots, count, weight_of}
use Rattle.coll_queues.specs.Postings.{Postings, groups_of}
use Rattle.coll_machine.specs.declared.key.Key.{Key}
use Rattle.coll_match.specs.Instances.{members}
use Rattle.coll_machine.specs.Settings.{Setting, AreGroups, size}
use Rattle.coll_refinement.specs.Requests.{Live}
use Rattle.coll_refinement.specs.Sound.{IsSound}
use Rattle.coll_refinement.specs.Shown.{Instances, tables, weight_by}

-- the limits are those of its parts
pub record IsSet {R : Type 0} (g : Setting) (a : Slots R) (q : Postings) : Type 0 where
  pub slots_is : g.slots ≡ count a
  pub wear_is : g.wear ≡ a.wear
  pub comms_is : length g.groups ≡ a.comms
  pub groups_is : g.groups ≡ groups_of q
  pub places_is : g.places ≡ q.places
  pub groups : AreGroups g

pub record IsCore {R : Type 0} (shown : R → Live) (g : Setting) (a : Slots R) (q : Postings)
    (m : Instances) : Type 0 where
  pub set : IsSet g a q
  pub sound : IsSound (tables shown g a q m)
  -- an instance has room for the members of its communicator
  pub sizes : (k : Key) (n : ℕ) → members m k ≡ Some n → n ≡ size g k.comm
  -- a slot weighs what its request lends
  pub weights : weight_of a ≡ (λ i. weight_by ((tables shown g a q m).request i))
