use Rattle.std.proofs.Common.{◌∙◌, ap, sym}
use Rattle.std.specs.Map.{set_value}
use Rattle.std.specs.Option.{ghost_name_of}
use borrow.Follows.Closed.{read_of}
use Rattle.coll_match.specs.Held.{Held}
use Rattle.coll_machine.specs.Changes.{same_key}
use Rattle.coll_match.specs.Instances.{standing}
use Rattle.coll_match.proofs.Hints.{set_value_at-set_value, standing-at}
use Rattle.coll_match.proofs.matches.Matches.at_mut.Goals as goal

-- The clause on the loan is compared as the logic reads it: by the reference, if there is one, what is written through it,
-- and what stands if there is none.

pub returns-then-is_hinted : goal.returns-then-is_hinted
returns-then-is_hinted c =
    let k = c.args.key in
    let here = sym c.is_hinted.ensures ∙ c.if-is_hinted.true in
    let unique = c.get_index_mut.ensures.unique in
    let es = c.self.inside.instances.entries in
    let wrote = λ (w : Held). set_value_at-set_value es c.args.hint k w unique here ∙ ap (λ t. set_value (same_key k) t w) c.self.view_is in (
      λ z. read_of (ghost_name_of c.get_index_mut.result) (λ w. wrote w z) (c.self.view_is z),
      record {
        writes_back = tt;
        value = c.get_index_mut.ensures.value ∙ standing-at es c.args.hint k unique here ∙ ap (λ t. standing t k) c.self.view_is;
      },
    )

pub returns-else-is_hinted : goal.returns-else-is_hinted
returns-else-is_hinted c =
    let k = c.args.key in
    let wrote = λ (w : Held). (c.get_mut.follows.holds w).0 ∙ ap (λ t. set_value (same_key k) t w) c.self.view_is in
    let rested = ap (λ m. m.entries) c.get_mut.follows.holds-at-none ∙ c.self.view_is in (
      λ z. read_of (ghost_name_of c.get_mut.result) (λ w. wrote w z) (rested z),
      record {
        writes_back = tt;
        value = c.get_mut.ensures.value ∙ ap (λ t. standing t k) c.self.view_is;
      },
    )
