use Rattle.std.proofs.Common.{◌≡◌, ◌<◌, ◌∙◌, ap, sym, length, None, arith}
use Rattle.std.specs.Arc.{arc_value}
use Rattle.std.specs.Option.{ForSome}
use Rattle.coll_queues.specs.Lists.{Lists, posts_in, signed_in}
use Rattle.coll_queues.specs.Refusing.{member_refusal}
use Rattle.coll_queues.proofs.Calls.{groups_kept, here, in_group, judged, low, place_is, posts_offered, signed_offered}
use Rattle.coll_queues.proofs.Comms.{agreed_set}
use Rattle.coll_queues.proofs.Judging.{accepted, judged_member}
use Rattle.coll_queues.proofs.queues.Queues.offer.Goals as goal

pub next_place-place-requires : goal.next_place-place-requires
next_place-place-requires c =
    in_group _ _ _ c.self.view_is c.args.comm c.args.rank c.number-member.result _
    (judged_member c.args.self.now c.args.comm c.args.rank (arc_value c.args.sig) c.requires.judged) c.number-member.ensures c.index_mut-lists.ensures.value

pub push-requires-clause-member_in : goal.push-requires-clause-member_in
push-requires-clause-member_in c =
    in_group _ _ _ c.self.view_is c.args.comm c.args.rank c.number-member.result _
    (judged_member c.args.self.now c.args.comm c.args.rank (arc_value c.args.sig) c.requires.judged) c.number-member.ensures c.index_mut-lists.ensures.value

pub invariant_of-self : goal.invariant_of-self
invariant_of-self c =
    let known : member_refusal c.args.self.now c.args.comm c.args.rank ≡ None =
    judged_member c.args.self.now c.args.comm c.args.rank (arc_value c.args.sig) c.requires.judged in
    agreed_set _ c.args.comm c.push.new.self
    (low _ _ _ c.self.view_is c.args.comm c.args.rank c.number-member.result _ known c.number-member.ensures c.index_mut-lists.ensures.value)
    c.self.invariant c.push.ensures.agreed

-- what the judgement says of the member's lists
fits : (c : goal.After-next_place-place)
    → ForSome (signed_in c.index_mut-lists.result.now (length (posts_in c.index_mut-lists.result.now c.number-member.result)))
    (λ known. known ≡ (arc_value c.args.sig))
    × (length (posts_in c.index_mut-lists.result.now c.number-member.result) < c.self.inside.places)
fits c =
    let known : member_refusal c.args.self.now c.args.comm c.args.rank ≡ None =
    judged_member c.args.self.now c.args.comm c.args.rank (arc_value c.args.sig) c.requires.judged in
    accepted c.index_mut-lists.result.now c.number-member.result (arc_value c.args.sig) c.self.inside.places
    (sym (judged _ _ _ c.self.view_is c.args.comm c.args.rank c.number-member.result _ known c.number-member.ensures
    c.index_mut-lists.ensures.value (arc_value c.args.sig)) ∙ c.requires.judged)

pub push-requires-clause-agrees : goal.push-requires-clause-agrees
push-requires-clause-agrees c = (fits c).0

pub push-requires-clause-room : goal.push-requires-clause-room
push-requires-clause-room c =
    let known : member_refusal c.args.self.now c.args.comm c.args.rank ≡ None =
    judged_member c.args.self.now c.args.comm c.args.rank (arc_value c.args.sig) c.requires.judged in
    let place = place_is _ _ _ c.self.view_is c.args.comm c.args.rank c.number-member.result _ known c.number-member.ensures c.index_mut-lists.ensures.value in
    let lists = here _ _ _ c.self.view_is c.args.comm c.args.rank c.number-member.result _ known c.number-member.ensures c.index_mut-lists.ensures.value in
    omega (arith, place, ap (λ (l : Lists). l.room) lists, c.requires.room)

pub push-requires-clause-short : goal.push-requires-clause-short
push-requires-clause-short c = let range = c.self.ranges in omega (arith, (fits c).1, range)

pub returns-clause-place : goal.returns-clause-place
returns-clause-place c =
    let known : member_refusal c.args.self.now c.args.comm c.args.rank ≡ None =
    judged_member c.args.self.now c.args.comm c.args.rank (arc_value c.args.sig) c.requires.judged in
    c.next_place-place.ensures
    ∙ place_is _ _ _ c.self.view_is c.args.comm c.args.rank c.number-member.result _ known c.number-member.ensures c.index_mut-lists.ensures.value

pub returns-clause-groups : goal.returns-clause-groups
returns-clause-groups c =
    let known : member_refusal c.args.self.now c.args.comm c.args.rank ≡ None =
    judged_member c.args.self.now c.args.comm c.args.rank (arc_value c.args.sig) c.requires.judged in
    groups_kept _ _ _ c.self.view_is c.args.comm c.args.rank c.number-member.result _ known c.number-member.ensures
    c.index_mut-lists.ensures.value _ c.push.ensures.group

pub returns-clause-posts : goal.returns-clause-posts
returns-clause-posts c =
    let known : member_refusal c.args.self.now c.args.comm c.args.rank ≡ None =
    judged_member c.args.self.now c.args.comm c.args.rank (arc_value c.args.sig) c.requires.judged in
    posts_offered _ _ _ c.self.view_is c.args.comm c.args.rank c.number-member.result _ known c.number-member.ensures
    c.index_mut-lists.ensures.value _ c.push.ensures.group (arc_value c.args.sig) c.push.ensures.posts

pub returns-clause-signed : goal.returns-clause-signed
returns-clause-signed c =
    let known : member_refusal c.args.self.now c.args.comm c.args.rank ≡ None =
    judged_member c.args.self.now c.args.comm c.args.rank (arc_value c.args.sig) c.requires.judged in
    signed_offered _ _ _ c.self.view_is c.args.comm c.args.rank c.number-member.result _ known c.number-member.ensures
    c.index_mut-lists.ensures.value _ c.push.ensures.group (arc_value c.args.sig) c.push.ensures.signed
