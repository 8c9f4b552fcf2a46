use Rattle.std.proofs.Common.{◌≤◌, ◌<◌, ◌∙◌, ap, sym, subst}
use Rattle.coll_kinds.specs.Lengths.{given_len}
use Rattle.coll_arena.specs.Slots.{record_in}
use Rattle.coll_core.specs.Cores.{IsCore}
use Rattle.coll_core.proofs.start.StartAndFree.{bad_length, may_start, start_refused, starts_used}
use Rattle.coll_core.proofs.engine.Core.may_start.Goals as goal

pub returns-then-bytes-want-clause-refused : goal.returns-then-bytes-want-clause-refused
returns-then-bytes-want-clause-refused c =
    let is = c.given_len-want.ensures.len ∙ (λ z. given_len (c.sig-sig.ensures.sig z) (c.n.ensures.n z) (c.member.ensures.member z)) in
    let found = ap (λ p. record_in p.arena c.args.ticket.slot) (sym c.self.view_is) ∙ c.in-Ok.ensures.found in
    let rest = start_refused c.args.self.now c.args.rank c.args.ticket c.args.bytes.now c.in-Ok.request.now
    (subst IsCore c.self.view_is c.self.invariant) c.in_ok-may_free.ensures.refused c.in_ok-may_free.ensures.named found in
    bad_length c.args.self.now c.in-Ok.request.now c.args.bytes.now c.given_len-want.result is c.if-bytes-want.true ∙ sym rest

pub returns-then-request-self-clause-refused : goal.returns-then-request-self-clause-refused
returns-then-request-self-clause-refused c =
    let is = c.given_len-want.ensures.len ∙ (λ z. given_len (c.sig-sig.ensures.sig z) (c.n.ensures.n z) (c.member.ensures.member z)) in
    let found = ap (λ p. record_in p.arena c.args.ticket.slot) (sym c.self.view_is) ∙ c.in-Ok.ensures.found in
    let rest = start_refused c.args.self.now c.args.rank c.args.ticket c.args.bytes.now c.in-Ok.request.now
    (subst IsCore c.self.view_is c.self.invariant) c.in_ok-may_free.ensures.refused c.in_ok-may_free.ensures.named found in
    starts_used c.args.self.now c.in-Ok.request.now c.args.bytes.now c.given_len-want.result is c.if-bytes-want.false
    (subst (λ p. p.starts ≤ c.in-Ok.request.now.starts) c.self.view_is c.if-request-self.true) ∙ sym rest

pub returns-clause-refused : goal.returns-clause-refused
returns-clause-refused c =
    let is = c.given_len-want.ensures.len ∙ (λ z. given_len (c.sig-sig.ensures.sig z) (c.n.ensures.n z) (c.member.ensures.member z)) in
    let found = ap (λ p. record_in p.arena c.args.ticket.slot) (sym c.self.view_is) ∙ c.in-Ok.ensures.found in
    let rest = start_refused c.args.self.now c.args.rank c.args.ticket c.args.bytes.now c.in-Ok.request.now
    (subst IsCore c.self.view_is c.self.invariant) c.in_ok-may_free.ensures.refused c.in_ok-may_free.ensures.named found in
    may_start c.args.self.now c.in-Ok.request.now c.args.bytes.now c.given_len-want.result is c.if-bytes-want.false
    (subst (λ p. c.in-Ok.request.now.starts < p.starts) c.self.view_is c.if-request-self.false) ∙ sym rest
