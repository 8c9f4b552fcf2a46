use Rattle.std.proofs.Common.{◌<◌, ap, arith, length, refl, sym, ◌+◌, ◌∙◌}
use Rattle.coll_arena.specs.Slots.{lent}
use Rattle.coll_arena.proofs.Calls.{free, free_young, generation_read, in_generations, in_links, in_records, in_weights, takes, takes_fits}
use Rattle.coll_arena.proofs.Calls.{takes_lent, takes_puts}
use Rattle.coll_arena.proofs.arena.Arena.take.Goals as goal

pub returns-clause-taken : goal.returns-clause-taken
returns-clause-taken g c =
    (takes _ c.args.self.now c.self.inside.lent c.self.view_is c.self.invariant c.in-Some.slot c.args.request c.args.weight _
    (sym c.first.ensures ∙ c.in-Some.is) c.requires.light c.requires.live_list c.requires.list_in c.index.result.now _ _
    (c.self.inside.lent + c.args.weight) _ c.index.ensures refl c.number.ensures refl c.move_back.ensures).is

pub index-requires : goal.index-requires
index-requires g c = let low : c.in-Some.slot < length c.self.inside.generations.items =
    in_generations _ c.args.self.now c.self.inside.lent c.self.view_is c.self.invariant c.in-Some.slot
    (free _ c.args.self.now c.self.inside.lent c.self.view_is c.self.invariant c.in-Some.slot (sym c.first.ensures ∙ c.in-Some.is)).0
    in omega (arith, c.self.inside.generations.ok)

pub overflow_add-generation : goal.overflow_add-generation
overflow_add-generation g c = let young =
    free_young _ c.args.self.now c.self.inside.lent c.self.view_is c.self.invariant c.in-Some.slot c.index.result.now
    (sym c.first.ensures ∙ c.in-Some.is) c.index.ensures in omega arith

pub index_mut-requires : goal.index_mut-requires
index_mut-requires g c = let low : c.in-Some.slot < length c.self.inside.generations.items =
    in_generations _ c.args.self.now c.self.inside.lent c.self.view_is c.self.invariant c.in-Some.slot
    (free _ c.args.self.now c.self.inside.lent c.self.view_is c.self.invariant c.in-Some.slot (sym c.first.ensures ∙ c.in-Some.is)).0
    in omega (arith, c.self.inside.generations.ok)

pub index_mut-requires-2 : goal.index_mut-requires-2
index_mut-requires-2 g c = let low : c.in-Some.slot < length c.self.inside.weights.items =
    in_weights _ c.args.self.now c.self.inside.lent c.self.view_is c.self.invariant c.in-Some.slot
    (free _ c.args.self.now c.self.inside.lent c.self.view_is c.self.invariant c.in-Some.slot (sym c.first.ensures ∙ c.in-Some.is)).0
    in omega (arith, c.self.inside.weights.ok)

pub index_mut-requires-3 : goal.index_mut-requires-3
index_mut-requires-3 g c = let low : c.in-Some.slot < length c.self.inside.records.items =
    in_records _ c.args.self.now c.self.inside.lent c.self.view_is c.self.invariant c.in-Some.slot
    (free _ c.args.self.now c.self.inside.lent c.self.view_is c.self.invariant c.in-Some.slot (sym c.first.ensures ∙ c.in-Some.is)).0
    in omega (arith, c.self.inside.records.ok)

pub overflow_add-self : goal.overflow_add-self
overflow_add-self g c = let fits =
    takes_fits _ c.args.self.now c.self.inside.lent c.self.view_is c.self.invariant c.in-Some.slot c.args.request c.args.weight _
    (sym c.first.ensures ∙ c.in-Some.is) c.requires.light c.requires.live_list c.requires.list_in in omega (arith, c.from.ensures)

pub move_back-requires-clause-node_in : goal.move_back-requires-clause-node_in
move_back-requires-clause-node_in g c =
    in_links _ c.args.self.now c.self.inside.lent c.self.view_is c.self.invariant c.in-Some.slot
    (free _ c.args.self.now c.self.inside.lent c.self.view_is c.self.invariant c.in-Some.slot (sym c.first.ensures ∙ c.in-Some.is)).0

pub invariant_of-self : goal.invariant_of-self
invariant_of-self g c =
    (takes _ c.args.self.now c.self.inside.lent c.self.view_is c.self.invariant c.in-Some.slot c.args.request c.args.weight _
    (sym c.first.ensures ∙ c.in-Some.is) c.requires.light c.requires.live_list c.requires.list_in c.index.result.now _ _ _ _
    c.index.ensures refl c.number.ensures (ap (λ z. c.self.inside.lent + z) c.from.ensures) c.move_back.ensures).kept

pub returns-clause-generation : goal.returns-clause-generation
returns-clause-generation g c =
    ap (λ z. z + 1) (generation_read _ c.args.self.now c.self.inside.lent c.self.view_is c.self.invariant c.in-Some.slot
    c.index.result.now (free _ c.args.self.now c.self.inside.lent c.self.view_is c.self.invariant c.in-Some.slot
    (sym c.first.ensures ∙ c.in-Some.is)).0 c.index.ensures)

pub returns-clause-lent : goal.returns-clause-lent
returns-clause-lent g c =
    ap lent (takes _ c.args.self.now c.self.inside.lent c.self.view_is c.self.invariant c.in-Some.slot c.args.request
    c.args.weight _ (sym c.first.ensures ∙ c.in-Some.is) c.requires.light c.requires.live_list c.requires.list_in
    c.index.result.now _ _ (c.self.inside.lent + c.args.weight) _ c.index.ensures refl c.number.ensures refl c.move_back.ensures).is
    ∙ takes_lent _ c.args.self.now c.self.inside.lent c.self.view_is c.self.invariant c.in-Some.slot c.args.request
    c.args.weight _ (sym c.first.ensures ∙ c.in-Some.is) c.requires.light c.requires.live_list c.requires.list_in

pub returns-clause-puts : goal.returns-clause-puts
returns-clause-puts g c =
    takes_puts _ c.args.self.now c.self.inside.lent c.self.view_is c.self.invariant c.in-Some.slot c.args.request c.args.weight _
    (sym c.first.ensures ∙ c.in-Some.is) c.requires.light c.requires.live_list c.requires.list_in _ _
    (takes _ c.args.self.now c.self.inside.lent c.self.view_is c.self.invariant c.in-Some.slot c.args.request c.args.weight _
    (sym c.first.ensures ∙ c.in-Some.is) c.requires.light c.requires.live_list c.requires.list_in c.index.result.now _ _
    (c.self.inside.lent + c.args.weight) _ c.index.ensures refl c.number.ensures refl c.move_back.ensures).is
    (ap (λ z. z + 1) (generation_read _ c.args.self.now c.self.inside.lent c.self.view_is c.self.invariant c.in-Some.slot
    c.index.result.now (free _ c.args.self.now c.self.inside.lent c.self.view_is c.self.invariant c.in-Some.slot
    (sym c.first.ensures ∙ c.in-Some.is)).0 c.index.ensures))
