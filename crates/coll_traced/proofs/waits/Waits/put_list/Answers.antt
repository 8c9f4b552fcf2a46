use Rattle.std.proofs.Common.{◌<◌, ◌≤◌, length, subst, sym, vec_capacity, arith}
use Rattle.std.proofs.lemmas.Grind.{common_steps}
use Rattle.coll_traced.specs.declared.port_wait.PortWait.{PortWait}
use Rattle.coll_traced.specs.Awaiting.{tickets_in}
use Rattle.coll_traced.proofs.PortWaits.{kept-set, list_noted, marks-set, waits-listed, waits-unlisted}
use Rattle.coll_traced.proofs.waits.Waits.put_list.Goals as goal

pub invariant_of-self : goal.invariant_of-self
invariant_of-self c =
    let s = c.self.inside in
    let port = c.put_list-noted.new.self in
    let was = c.index_mut.result.now in
    let lt : c.args.rank < length s.ports.items = grind (arith, common_steps) in
    let room : s.slots ≤ vec_capacity was.tickets =
    subst (λ (at : PortWait). s.slots ≤ vec_capacity at.tickets) (sym c.index_mut.ensures.value) (c.self.invariant.roomy c.args.rank was lt) in
    let roomy : s.slots ≤ vec_capacity port.tickets = let more = c.put_list-noted.ensures.capacity in omega arith in
    let told = c.put_list-noted.ensures in
    let is = list_noted port c.args.rank c.put_list-noted.result c.is_ok.result c.is_ok.ensures.value told.how told.err in
    kept-set s.slots s.ports.items s.waiting c.set-self-inside.result c.args.rank port c.is_ok.result c.self.invariant lt roomy is
    c.set-self-inside.ensures.with c.set-self-inside.ensures.without

pub returns-then-rank-len-clause-waits : goal.returns-then-rank-len-clause-waits
returns-then-rank-len-clause-waits c =
    let s = c.self.inside in
    let told = c.put_list-noted.ensures in
    waits-listed s.ports.items _ s.slots c.args.self.now c.args.rank c.put_list-noted.new.self (tickets_in c.args.requests.now)
    c.put_list-noted.result c.self.view_is told.how told.tickets

pub returns-then-rank-len-clause-err : goal.returns-then-rank-len-clause-err
returns-then-rank-len-clause-err c =
    let s = c.self.inside in
    waits-unlisted s.ports.items _ s.slots c.args.self.now c.args.rank c.put_list-noted.new.self c.put_list-noted.result
    c.self.view_is c.put_list-noted.ensures.err

pub returns-then-rank-len-clause-marks : goal.returns-then-rank-len-clause-marks
returns-then-rank-len-clause-marks c =
    let s = c.self.inside in
    marks-set s.ports.items _ s.slots c.args.self.now c.args.rank c.put_list-noted.new.self c.self.view_is c.put_list-noted.ensures.unmarked
