use Rattle.std.proofs.Common.{◌≡◌, ◌↔◌, ◌<◌, ◌≤◌, [], length, true, subst, sym, vec_capacity, arith}
use Rattle.std.proofs.lemmas.Grind.{common_steps}
use Rattle.coll_traced.specs.declared.port_wait.PortWait.{PortWait}
use Rattle.coll_traced.specs.Waits.{IsForSome}
use Rattle.coll_traced.proofs.PortWaits.{kept-set, marks-set, wait_of-equal, waits-put}
use Rattle.coll_traced.proofs.waits.Waits.put.Goals as goal

pub invariant_of-self : goal.invariant_of-self
invariant_of-self c =
    let s = c.self.inside in
    let port = c.put.new.self in
    let was = c.index_mut.result.now in
    let lt : c.args.rank < length s.ports.items = grind (arith, common_steps) in
    let room : s.slots ≤ vec_capacity was.tickets =
    subst (λ (at : PortWait). s.slots ≤ vec_capacity at.tickets) (sym c.index_mut.ensures.value) (c.self.invariant.roomy c.args.rank was lt) in
    let roomy : s.slots ≤ vec_capacity port.tickets = let same = c.put.ensures.capacity in omega arith in
    let noted = sym (wait_of-equal port c.args.how [] c.put.ensures.how c.put.ensures.tickets) in
    let is = subst (λ w. (c.is_for_some.result ≡ true) ↔ IsForSome w) noted c.is_for_some.ensures in
    kept-set s.slots s.ports.items s.waiting c.set-self-inside.result c.args.rank port c.is_for_some.result c.self.invariant lt roomy is
    c.set-self-inside.ensures.with c.set-self-inside.ensures.without

pub returns-then-rank-len-clause-waits : goal.returns-then-rank-len-clause-waits
returns-then-rank-len-clause-waits c =
    let s = c.self.inside in
    waits-put s.ports.items _ s.slots c.args.self.now c.args.rank c.put.new.self c.args.how [] c.self.view_is c.put.ensures.how c.put.ensures.tickets

pub returns-then-rank-len-clause-marks : goal.returns-then-rank-len-clause-marks
returns-then-rank-len-clause-marks c =
    let s = c.self.inside in
    marks-set s.ports.items _ s.slots c.args.self.now c.args.rank c.put.new.self c.self.view_is c.put.ensures.unmarked
