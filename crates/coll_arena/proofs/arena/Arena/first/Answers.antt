use Rattle.std.proofs.Common.{ap, eq-eqb, length, sym, ◌∙◌}
use Rattle.std.proofs.lemmas.Option.{same_Some}
use Rattle.coll_arena.proofs.Calls.{first_count, first_low, first_none, firsts}
use Rattle.coll_arena.proofs.arena.Arena.first.Goals as goal

pub returns-in-Some-clause-found : goal.returns-in-Some-clause-found
returns-in-Some-clause-found g c x is =
    firsts _ c.args.self.now c.self.inside.lent c.self.view_is c.self.invariant _ c.in-Some.slot x c.requires.live_list
    c.requires.list_in (first_low _ c.args.self.now c.self.inside.lent c.self.view_is c.self.invariant _ _ c.in-Some.slot
    c.requires.list_in c.number.ensures (sym c.in-Some.is ∙ c.first.ensures)) (sym (same_Some _ x is) ∙ c.ticket_of.ensures)

pub returns-in-None-clause-none : goal.returns-in-None-clause-none
returns-in-None-clause-none g c =
    sym (eq-eqb _ 0 (ap length (first_none _ c.args.self.now c.self.inside.lent c.self.view_is c.self.invariant _ _
    c.number.ensures (sym c.in-None.is ∙ c.first.ensures))))

pub ticket_of-requires : goal.ticket_of-requires
ticket_of-requires g c =
    first_count _ c.args.self.now c.self.inside.lent c.self.view_is c.self.invariant _ c.in-Some.slot c.requires.list_in
    (first_low _ c.args.self.now c.self.inside.lent c.self.view_is c.self.invariant _ _ c.in-Some.slot c.requires.list_in
    c.number.ensures (sym c.in-Some.is ∙ c.first.ensures))
