use Rattle.std.proofs.Common.{ap, ap₂, arith, sym, ◌+◌, ◌-◌, ◌∙◌}
use Rattle.coll_arena.specs.Slots.{lent, weight_of}
use Rattle.coll_arena.proofs.Calls.{reweighs, reweighs_fits, reweighs_lent, reweighs_puts}
use Rattle.coll_arena.proofs.arena.Arena.reweigh.Goals as goal

pub returns-clause-reweighed : goal.returns-clause-reweighed
returns-clause-reweighed g c =
    (reweighs _ c.args.self.now c.self.inside.lent c.self.view_is c.self.invariant c.args.ticket
    (sym c.is_live.ensures ∙ c.if-not-is_live.false) c.args.weight c.requires c.index-before.result.now _ c.index-before.ensures
    (ap₂ (λ x y. (c.self.inside.lent - x) + y) c.from.ensures c.from-2.ensures)).is

pub overflow_sub-self : goal.overflow_sub-self
overflow_sub-self g c = let fits =
    (reweighs_fits _ c.args.self.now c.self.inside.lent c.self.view_is c.self.invariant c.args.ticket
    (sym c.is_live.ensures ∙ c.if-not-is_live.false) c.args.weight c.requires c.index-before.result.now c.index-before.ensures).0
    in omega (arith, c.from.ensures)

pub overflow_add-self : goal.overflow_add-self
overflow_add-self g c = let fits =
    (reweighs_fits _ c.args.self.now c.self.inside.lent c.self.view_is c.self.invariant c.args.ticket
    (sym c.is_live.ensures ∙ c.if-not-is_live.false) c.args.weight c.requires c.index-before.result.now c.index-before.ensures).1
    in omega (arith, c.from.ensures, c.from-2.ensures)

pub invariant_of-self : goal.invariant_of-self
invariant_of-self g c =
    (reweighs _ c.args.self.now c.self.inside.lent c.self.view_is c.self.invariant c.args.ticket
    (sym c.is_live.ensures ∙ c.if-not-is_live.false) c.args.weight c.requires c.index-before.result.now _ c.index-before.ensures
    (ap₂ (λ x y. (c.self.inside.lent - x) + y) c.from.ensures c.from-2.ensures)).kept

pub returns-clause-lent : goal.returns-clause-lent
returns-clause-lent g c =
    ap (λ z. lent z + weight_of c.args.self.now c.args.ticket.slot)
    (reweighs _ c.args.self.now c.self.inside.lent c.self.view_is c.self.invariant c.args.ticket
    (sym c.is_live.ensures ∙ c.if-not-is_live.false) c.args.weight c.requires c.index-before.result.now _ c.index-before.ensures
    (ap₂ (λ x y. (c.self.inside.lent - x) + y) c.from.ensures c.from-2.ensures)).is
    ∙ reweighs_lent _ c.args.self.now c.self.inside.lent c.self.view_is c.self.invariant c.args.ticket
    (sym c.is_live.ensures ∙ c.if-not-is_live.false) c.args.weight c.requires

pub returns-clause-puts : goal.returns-clause-puts
returns-clause-puts g c =
    reweighs_puts _ c.args.self.now c.self.inside.lent c.self.view_is c.self.invariant c.args.ticket
    (sym c.is_live.ensures ∙ c.if-not-is_live.false) c.args.weight c.requires _
    (reweighs _ c.args.self.now c.self.inside.lent c.self.view_is c.self.invariant c.args.ticket
    (sym c.is_live.ensures ∙ c.if-not-is_live.false) c.args.weight c.requires c.index-before.result.now _ c.index-before.ensures
    (ap₂ (λ x y. (c.self.inside.lent - x) + y) c.from.ensures c.from-2.ensures)).is
