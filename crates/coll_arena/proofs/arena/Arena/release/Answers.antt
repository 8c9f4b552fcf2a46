use Rattle.std.proofs.Common.{◌≡◌, ap, arith, cond, eq-eqb, eqb, ne_eqb, sym, ◌+◌, ◌-◌, ◌∙◌}
use Rattle.coll_arena.specs.ListNames.{number_of}
use Rattle.coll_arena.specs.Slots.{lent, weight_of}
use Rattle.coll_arena.proofs.Calls.{in_links, low_named, retires, retires_fits, retires_lent, retires_puts}
use Rattle.coll_arena.proofs.arena.Arena.release.Goals.{then-ticket-self, else-ticket-self}
use Rattle.coll_arena.proofs.arena.Arena.release.Goals as goal

pub overflow_sub-self : goal.overflow_sub-self
overflow_sub-self g c = let fits =
    retires_fits _ c.args.self.now c.self.inside.lent c.self.view_is c.self.invariant c.args.ticket c.requires c.index.result.now
    c.index.ensures in omega (arith, c.from.ensures)

pub move_back-requires-clause-node_in : goal.move_back-requires-clause-node_in
move_back-requires-clause-node_in g c =
    in_links _ c.args.self.now c.self.inside.lent c.self.view_is c.self.invariant c.args.ticket.slot
    (low_named _ c.args.self.now c.self.inside.lent c.self.view_is c.self.invariant c.args.ticket c.requires)

pub invariant_of-self : goal.invariant_of-self
invariant_of-self g c =
    let number_is : c.number.result ≡ cond (eqb c.args.ticket.generation c.self.inside.wear) 1 0 =
    elim c.if-ticket-self.branch [
      | then-ticket-self w ↦ c.number.ensures ∙ ap number_of w.rest-is ∙ sym (ap (λ b. cond b 1 0) (eq-eqb _ _ w.if-ticket-self.true))
      | else-ticket-self w ↦ c.number.ensures ∙ ap number_of w.rest-is ∙ sym (ap (λ b. cond b 1 0) (ne_eqb _ _ w.if-ticket-self.false))
    ] in
    (retires _ c.args.self.now c.self.inside.lent c.self.view_is c.self.invariant c.args.ticket c.requires c.index.result.now _ _
    _ _ c.take-request.ensures.after c.index.ensures (ap (λ z. c.self.inside.lent - z) c.from.ensures) number_is c.move_back.ensures).kept

pub returns-clause-lent : goal.returns-clause-lent
returns-clause-lent g c =
    let number_is : c.number.result ≡ cond (eqb c.args.ticket.generation c.self.inside.wear) 1 0 =
    elim c.if-ticket-self.branch [
      | then-ticket-self w ↦ c.number.ensures ∙ ap number_of w.rest-is ∙ sym (ap (λ b. cond b 1 0) (eq-eqb _ _ w.if-ticket-self.true))
      | else-ticket-self w ↦ c.number.ensures ∙ ap number_of w.rest-is ∙ sym (ap (λ b. cond b 1 0) (ne_eqb _ _ w.if-ticket-self.false))
    ] in
    ap (λ z. lent z + weight_of c.args.self.now c.args.ticket.slot)
    (retires _ c.args.self.now c.self.inside.lent c.self.view_is c.self.invariant c.args.ticket c.requires c.index.result.now
    _ _ _ _ c.take-request.ensures.after c.index.ensures (ap (λ z. c.self.inside.lent - z) c.from.ensures) number_is c.move_back.ensures).is
    ∙ retires_lent _ c.args.self.now c.self.inside.lent c.self.view_is c.self.invariant c.args.ticket c.requires

pub returns-clause-puts : goal.returns-clause-puts
returns-clause-puts g c =
    let number_is : c.number.result ≡ cond (eqb c.args.ticket.generation c.self.inside.wear) 1 0 =
    elim c.if-ticket-self.branch [
      | then-ticket-self w ↦ c.number.ensures ∙ ap number_of w.rest-is ∙ sym (ap (λ b. cond b 1 0) (eq-eqb _ _ w.if-ticket-self.true))
      | else-ticket-self w ↦ c.number.ensures ∙ ap number_of w.rest-is ∙ sym (ap (λ b. cond b 1 0) (ne_eqb _ _ w.if-ticket-self.false))
    ] in
    retires_puts _ c.args.self.now c.self.inside.lent c.self.view_is c.self.invariant c.args.ticket c.requires _
    (retires _ c.args.self.now c.self.inside.lent c.self.view_is c.self.invariant c.args.ticket c.requires c.index.result.now
    _ _ _ _ c.take-request.ensures.after c.index.ensures (ap (λ z. c.self.inside.lent - z) c.from.ensures) number_is c.move_back.ensures).is
