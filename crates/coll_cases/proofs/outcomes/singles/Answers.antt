use Rattle.std.proofs.Common.{ap, ◌∙◌}
use Rattle.coll_kinds.specs.Common.{is_among}
use Rattle.coll_cases.proofs.Covering.{singles_of}
use Rattle.coll_cases.proofs.outcomes.singles.Goals as goal

pub returns : goal.returns
returns c = λ q among up.
    let is = rw c.in-Some.is at c.in_ok-active.ensures in
    singles_of c.args.known.now c.args.named.now c.in-Some.active.items c.in_ok-lists.lists.items is
    (λ r e. c.in_ok-lists.ensures r (ap (is_among r) c.deref.ensures.value ∙ e)) q among up
