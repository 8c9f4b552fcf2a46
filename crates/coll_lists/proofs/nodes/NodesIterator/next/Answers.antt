use Rattle.std.proofs.Common.{◌<◌, ◌≡◌, ◌∷◌, ap, length, rules, sym, ◌∙◌}
use Rattle.coll_lists.specs.Layouts.{list_of, sequence, size}
use Rattle.coll_lists.specs.Walks.{onward}
use Rattle.coll_lists.proofs.Walking.{beside, onward-step}
use Rattle.coll_lists.proofs.nodes.NodesIterator.next.Goals as goal
use Rattle.coll_lists.proofs.nodes.NodesIterator.next.Goals.{then-self, else-self}

pub invariant_of-self : goal.invariant_of-self
invariant_of-self c =
    let is : c.if-self.self
    ≡ beside c.args.self.now.backwards c.in_ok-node.node (sequence c.args.self.now.links.now (list_of c.args.self.now.links.now c.in_ok-node.node)) =
    elim c.if-self.branch [
      | then-self w ↦ w.self-is ∙ w.prev-self.ensures
          ∙ ap (λ t. beside t c.in_ok-node.node (sequence c.args.self.now.links.now (list_of c.args.self.now.links.now c.in_ok-node.node))) (sym w.if-self.true)
      | else-self w ↦ w.self-is ∙ w.next-self.ensures
          ∙ ap (λ t. beside t c.in_ok-node.node (sequence c.args.self.now.links.now (list_of c.args.self.now.links.now c.in_ok-node.node)))
          (sym w.if-self.false)
    ] in
    let low : c.in_ok-node.node < size c.args.self.now.links.now = c.args.self.now.in_range c.in_ok-node.node c.in_ok-node.was in
    record {
      lawful = c.args.self.now.lawful;
      in_range = (onward-step (size c.args.self.now.links.now) c.args.self.now.links.now c.args.self.now.lawful
          c.args.self.now.backwards c.in_ok-node.node c.if-self.self low is).1;
    }

pub returns-clause-steps : goal.returns-clause-steps
returns-clause-steps c =
    let is : c.if-self.self
    ≡ beside c.args.self.now.backwards c.in_ok-node.node (sequence c.args.self.now.links.now (list_of c.args.self.now.links.now c.in_ok-node.node)) =
    elim c.if-self.branch [
      | then-self w ↦ w.self-is ∙ w.prev-self.ensures
          ∙ ap (λ t. beside t c.in_ok-node.node (sequence c.args.self.now.links.now (list_of c.args.self.now.links.now c.in_ok-node.node))) (sym w.if-self.true)
      | else-self w ↦ w.self-is ∙ w.next-self.ensures
          ∙ ap (λ t. beside t c.in_ok-node.node (sequence c.args.self.now.links.now (list_of c.args.self.now.links.now c.in_ok-node.node)))
          (sym w.if-self.false)
    ] in
    let low : c.in_ok-node.node < size c.args.self.now.links.now = c.args.self.now.in_range c.in_ok-node.node c.in_ok-node.was in
    ap (onward c.args.self.now.links.now c.args.self.now.backwards) c.in_ok-node.was
    ∙ (onward-step (size c.args.self.now.links.now) c.args.self.now.links.now c.args.self.now.lawful c.args.self.now.backwards
    c.in_ok-node.node c.if-self.self low is).0

pub returns-clause-goes : goal.returns-clause-goes
returns-clause-goes c =
    let is : c.if-self.self
    ≡ beside c.args.self.now.backwards c.in_ok-node.node (sequence c.args.self.now.links.now (list_of c.args.self.now.links.now c.in_ok-node.node)) =
    elim c.if-self.branch [
      | then-self w ↦ w.self-is ∙ w.prev-self.ensures
          ∙ ap (λ t. beside t c.in_ok-node.node (sequence c.args.self.now.links.now (list_of c.args.self.now.links.now c.in_ok-node.node))) (sym w.if-self.true)
      | else-self w ↦ w.self-is ∙ w.next-self.ensures
          ∙ ap (λ t. beside t c.in_ok-node.node (sequence c.args.self.now.links.now (list_of c.args.self.now.links.now c.in_ok-node.node)))
          (sym w.if-self.false)
    ] in
    let low : c.in_ok-node.node < size c.args.self.now.links.now = c.args.self.now.in_range c.in_ok-node.node c.in_ok-node.was in
    let step : onward c.args.self.now.links.now c.args.self.now.backwards c.args.self.now.at
    ≡ c.in_ok-node.node ∷ onward c.args.self.now.links.now c.args.self.now.backwards c.if-self.self =
    ap (onward c.args.self.now.links.now c.args.self.now.backwards) c.in_ok-node.was
    ∙ (onward-step (size c.args.self.now.links.now) c.args.self.now.links.now c.args.self.now.lawful c.args.self.now.backwards
    c.in_ok-node.node c.if-self.self low is).0 in
    let shorter = ap length step in
    search rules
