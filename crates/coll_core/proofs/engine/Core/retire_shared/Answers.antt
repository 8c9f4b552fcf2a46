use Rattle.std.proofs.Common.{◌+◌, ◌*◌, refl, arith, ap}
use Rattle.coll_kinds.specs.declared.signature.Signature.{Signature}
use Rattle.coll_core.proofs.between.LiveRequests.{list_in}
use Rattle.coll_core.proofs.retire.RootRow.{known_outcome, leaves_joined}
use Rattle.coll_core.proofs.retire.Retire.{completes, gives_up, kept, on_done, owned, retires_alone, seated, waits}
use Rattle.coll_match.specs.Instances.{LookUps}
use Rattle.coll_core.proofs.engine.Core.retire_shared.Goals as goal

pub is_on-requires : goal.is_on-requires
is_on-requires c =
    let owns = owned _ c.args.self.now c.args.rank c.args.ticket c.in_ok-request.request.now c.self.view_is
    c.in_ok-request.ensures.refused c.in_ok-request.ensures.named c.in_ok-request.ensures.found in
    list_in _ c.self.inside.arena c.args.ticket.slot 6 c.in_ok-request.request.now c.self.invariant refl owns.found (omega arith)

pub returns-then-not-is_on-clause-waits : goal.returns-then-not-is_on-clause-waits
returns-then-not-is_on-clause-waits c none =
    let owns = owned _ c.args.self.now c.args.rank c.args.ticket c.in_ok-request.request.now c.self.view_is
    c.in_ok-request.ensures.refused c.in_ok-request.ensures.named c.in_ok-request.ensures.found in
    waits _ c.args.self.now c.args.rank c.args.ticket c.in_ok-request.request.now c.self.view_is owns c.if-not-is_on.ensures

pub give_up-bytes-requires-clause-can : goal.give_up-bytes-requires-clause-can
give_up-bytes-requires-clause-can c =
    let owns = owned _ c.args.self.now c.args.rank c.args.ticket c.in_ok-request.request.now c.self.view_is
    c.in_ok-request.ensures.refused c.in_ok-request.ensures.named c.in_ok-request.ensures.found in
    let on = on_done c.self.inside.arena c.args.ticket (6 + 3 * c.in_ok-request.request.now.comm) c.if-not-is_on.ensures in
    gives_up _ c.args.rank c.args.ticket c.in_ok-request.request.now c.self.invariant owns on

pub give_up-bytes-requires-clause-known : goal.give_up-bytes-requires-clause-known
give_up-bytes-requires-clause-known c =
    let owns = owned _ c.args.self.now c.args.rank c.args.ticket c.in_ok-request.request.now c.self.view_is
    c.in_ok-request.ensures.refused c.in_ok-request.ensures.named c.in_ok-request.ensures.found in
    let on = on_done c.self.inside.arena c.args.ticket (6 + 3 * c.in_ok-request.request.now.comm) c.if-not-is_on.ensures in
    known_outcome _ c.args.rank c.args.ticket c.in_ok-request.request.now c.self.invariant owns on
    c.known_outcome-known.result c.known_outcome-known.ensures

pub leave-requires-clause-joined : goal.leave-requires-clause-joined
leave-requires-clause-joined c =
    let owns = owned _ c.args.self.now c.args.rank c.args.ticket c.in_ok-request.request.now c.self.view_is
    c.in_ok-request.ensures.refused c.in_ok-request.ensures.named c.in_ok-request.ensures.found in
    let on = on_done c.self.inside.arena c.args.ticket (6 + 3 * c.in_ok-request.request.now.comm) c.if-not-is_on.ensures in
    leaves_joined _ c.args.rank c.args.ticket c.in_ok-request.request.now c.self.invariant owns on
    c.key-key.result c.sig.result.now.kind c.give_up-bytes.result.0 c.joined_by-joined.result c.key-key.ensures
    (ap (λ (s : Signature). s.kind) c.sig.ensures.sig) c.give_up-bytes.ensures.bytes c.joined_by-joined.ensures.kind c.joined_by-joined.ensures.same

pub leave-requires-clause-seated : goal.leave-requires-clause-seated
leave-requires-clause-seated c =
    let owns = owned _ c.args.self.now c.args.rank c.args.ticket c.in_ok-request.request.now c.self.view_is
    c.in_ok-request.ensures.refused c.in_ok-request.ensures.named c.in_ok-request.ensures.found in
    let on = on_done c.self.inside.arena c.args.ticket (6 + 3 * c.in_ok-request.request.now.comm) c.if-not-is_on.ensures in
    seated _ c.args.rank c.args.ticket c.in_ok-request.request.now c.self.invariant owns on
    c.key-key.result c.member-member.result c.key-key.ensures c.member-member.ensures.member

pub invariant_of-self : goal.invariant_of-self
invariant_of-self c =
    let owns = owned _ c.args.self.now c.args.rank c.args.ticket c.in_ok-request.request.now c.self.view_is
    c.in_ok-request.ensures.refused c.in_ok-request.ensures.named c.in_ok-request.ensures.found in
    let on = on_done c.self.inside.arena c.args.ticket (6 + 3 * c.in_ok-request.request.now.comm) c.if-not-is_on.ensures in
    kept _ c.give_up-bytes.new.arena c.leave.new.self c.args.ticket c.args.rank c.in_ok-request.request.now
    c.give_up-bytes.result.0 c.leave.result
    c.key-key.result c.member-member.result c.self.invariant owns on
    c.give_up-bytes.ensures.bytes c.give_up-bytes.ensures.rests c.key-key.ensures c.member-member.ensures.member
    (record {
      last_is = c.leave.ensures.last;
      members = (ap (λ (s : LookUps). s.members) c.leave.ensures.left);
      given = (ap (λ (s : LookUps). s.given) c.leave.ensures.left);
      seats = (ap (λ (s : LookUps). s.seats) c.leave.ensures.left);
      mail = (ap (λ (s : LookUps). s.mail) c.leave.ensures.left);
    })

pub returns-clause-completes : goal.returns-clause-completes
returns-clause-completes c =
    let owns = owned _ c.args.self.now c.args.rank c.args.ticket c.in_ok-request.request.now c.self.view_is
    c.in_ok-request.ensures.refused c.in_ok-request.ensures.named c.in_ok-request.ensures.found in
    let on = on_done c.self.inside.arena c.args.ticket (6 + 3 * c.in_ok-request.request.now.comm) c.if-not-is_on.ensures in
    completes _ c.give_up-bytes.new.arena c.leave.new.self c.args.ticket c.args.rank c.in_ok-request.request.now
    c.give_up-bytes.result.0 c.leave.result
    c.key-key.result c.member-member.result c.self.invariant owns on
    c.give_up-bytes.ensures.bytes c.give_up-bytes.ensures.rests c.key-key.ensures c.member-member.ensures.member
    (record {
      last_is = c.leave.ensures.last;
      members = (ap (λ (s : LookUps). s.members) c.leave.ensures.left);
      given = (ap (λ (s : LookUps). s.given) c.leave.ensures.left);
      seats = (ap (λ (s : LookUps). s.seats) c.leave.ensures.left);
      mail = (ap (λ (s : LookUps). s.mail) c.leave.ensures.left);
    })
    c.args.self.now c.self.view_is

pub returns-clause-progress : goal.returns-clause-progress
returns-clause-progress c =
    let owns = owned _ c.args.self.now c.args.rank c.args.ticket c.in_ok-request.request.now c.self.view_is
    c.in_ok-request.ensures.refused c.in_ok-request.ensures.named c.in_ok-request.ensures.found in
    let on = on_done c.self.inside.arena c.args.ticket (6 + 3 * c.in_ok-request.request.now.comm) c.if-not-is_on.ensures in
    retires_alone _ c.give_up-bytes.new.arena c.leave.new.self c.args.ticket c.args.rank c.in_ok-request.request.now
    c.give_up-bytes.result.0 c.leave.result
    c.key-key.result c.member-member.result c.self.invariant owns on
    c.give_up-bytes.ensures.bytes c.give_up-bytes.ensures.rests c.key-key.ensures c.member-member.ensures.member
    (record {
      last_is = c.leave.ensures.last;
      members = (ap (λ (s : LookUps). s.members) c.leave.ensures.left);
      given = (ap (λ (s : LookUps). s.given) c.leave.ensures.left);
      seats = (ap (λ (s : LookUps). s.seats) c.leave.ensures.left);
      mail = (ap (λ (s : LookUps). s.mail) c.leave.ensures.left);
    })
    c.args.self.now c.self.view_is c.is_sound.ensures c.give_up-bytes.ensures.lists
