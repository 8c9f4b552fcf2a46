use Rattle.std.proofs.Common.{◌≡◌, ◌<◌, ◌+◌, ◌∙◌, ap, sym, subst, ◌∷◌, [], ◌++◌, Some, length, get_or, set, arith}
use Rattle.std.specs.Arc.{arc_value}
use Rattle.std.specs.Option.{ForSome}
use Rattle.std.proofs.lemmas.List.{get_or_default}
use Rattle.coll_kinds.specs.Puts.{put}
use Rattle.coll_queues.specs.Fronts.{AreFronts, lists_of}
use Rattle.coll_queues.specs.Lists.{Lists, posts_in, signed_in}
use Rattle.coll_queues.proofs.Fronts.{Extends, agreed, extends_push, extends_same, fronts_pushed, next_front, posts_pushed, signed_pushed, stands_already}
use Rattle.coll_queues.proofs.posting_lists.PostingLists.push.Goals as goal
use Rattle.coll_queues.proofs.posting_lists.PostingLists.push.Goals.{then-place-len, else-place-len}

-- what the branch leaves, by the fields
record Grown (c : goal.Joined-drop) : Type 0 where
  group : c.if-place-len.self-inside.group ≡ c.self.inside.group
  place : c.index-place.result.now ≡ get_or c.self.inside.lengths.items c.args.member 0
  longer : set c.if-place-len.self-inside.lengths.items c.from-2.result (c.index-place.result.now + 1)
      ≡ set c.self.inside.lengths.items c.args.member (c.index-place.result.now + 1)
  extends : Extends c.self.inside.signatures.items c.if-place-len.self-inside.signatures.items c.index-place.result.now (arc_value c.args.sig)

low : (c : goal.Joined-drop) → c.args.member < length c.self.inside.group.items
low c = subst (λ v. c.args.member < length v.group) (sym c.self.view_is) c.requires.member_in

grown : (c : goal.Joined-drop) → Grown c
grown c =
    let number : c.from.result ≡ c.args.member = c.from.ensures in
    let read = ap (λ i. get_or c.self.inside.lengths.items i 0) number in
    let place : c.index-place.result.now ≡ get_or c.self.inside.lengths.items c.args.member 0 =
    c.index-place.ensures ∙ get_or_default c.self.inside.lengths.items c.from.result c.index-place.result.now 0
    (omega (arith, number, low c, c.self.invariant.all)) ∙ read in
    let long : c.len.result ≡ length c.self.inside.signatures.items = c.len.ensures in
    elim c.if-place-len.branch [
      | then-place-len w ↦ record {
        group = ap (λ f. f.group) w.self-inside-is;
        place = place;
        longer = (λ z. set (w.self-inside-is z).lengths.items (c.from-2.ensures z) (c.index-place.result.now + 1));
        extends = subst (λ xs. Extends c.self.inside.signatures.items xs c.index-place.result.now (arc_value c.args.sig))
            (sym (ap (λ f. f.signatures.items) w.self-inside-is ∙ w.push.ensures.items))
            (extends_push c.self.inside.signatures.items c.index-place.result.now (arc_value c.args.sig) (w.if-place-len.true ∙ long));
      }
      | else-place-len w ↦ record {
        group = ap (λ f. f.group) w.self-inside-is;
        place = place;
        longer = (λ z. set (w.self-inside-is z).lengths.items (c.from-2.ensures z) (c.index-place.result.now + 1));
        extends = subst (λ xs. Extends c.self.inside.signatures.items xs c.index-place.result.now (arc_value c.args.sig))
            (sym (ap (λ f. f.signatures.items) w.self-inside-is))
            (extends_same c.self.inside.signatures.items c.index-place.result.now (arc_value c.args.sig)
            (stands_already c.self.inside.group.items c.self.inside.signatures.items c.self.inside.lengths.items
            c.self.inside.signatures.room c.self.invariant c.args.member c.index-place.result.now (arc_value c.args.sig)
            (subst (λ v. ForSome (signed_in v (length (posts_in v c.args.member))) (λ known. known ≡ (arc_value c.args.sig)))
            (sym c.self.view_is) c.requires.agrees) place
            (omega (arith, place, long, c.self.invariant.within c.args.member, w.if-place-len.false))));
      }
    ]

pub invariant_of-self : goal.invariant_of-self
invariant_of-self c =
    let g : Grown c = grown c in
    subst (λ group. AreFronts group.items c.if-place-len.self-inside.signatures.items
    (set c.if-place-len.self-inside.lengths.items c.from-2.result (c.index-place.result.now + 1))) (sym g.group)
    (fronts_pushed _ _ _ _ _ c.args.member c.index-place.result.now (arc_value c.args.sig) c.self.invariant (low c) g.place g.longer g.extends)

pub returns-clause-posts : goal.returns-clause-posts
returns-clause-posts c =
    let g : Grown c = grown c in
    ap (λ group. posts_in (lists_of group.items c.if-place-len.self-inside.signatures.items
    (set c.if-place-len.self-inside.lengths.items c.from-2.result (c.index-place.result.now + 1)) c.if-place-len.self-inside.signatures.room)) g.group
    ∙ posts_pushed _ _ _ _ _ c.args.member c.index-place.result.now (arc_value c.args.sig) c.self.invariant (low c) g.place
    g.longer g.extends c.self.inside.signatures.room c.if-place-len.self-inside.signatures.room
    ∙ ap (λ (v : Lists). put (posts_in v) c.args.member (posts_in v c.args.member ++ (arc_value c.args.sig) ∷ [])) c.self.view_is

pub returns-clause-signed : goal.returns-clause-signed
returns-clause-signed c =
    let g : Grown c = grown c in
    let next = next_front c.self.inside.group.items c.self.inside.signatures.items c.self.inside.lengths.items
    c.self.inside.signatures.room c.self.invariant c.args.member in
    ap (λ group. signed_in (lists_of group.items c.if-place-len.self-inside.signatures.items
    (set c.if-place-len.self-inside.lengths.items c.from-2.result (c.index-place.result.now + 1)) c.if-place-len.self-inside.signatures.room)) g.group
    ∙ signed_pushed _ _ _ _ _ c.args.member c.index-place.result.now (arc_value c.args.sig) c.self.invariant (low c) g.place
    g.longer g.extends c.self.inside.signatures.room c.if-place-len.self-inside.signatures.room
    ∙ ap (λ p. put (signed_in (lists_of c.self.inside.group.items c.self.inside.signatures.items c.self.inside.lengths.items
    c.self.inside.signatures.room)) p (Some (arc_value c.args.sig))) (g.place ∙ sym next)
    ∙ ap (λ (v : Lists). put (signed_in v) (length (posts_in v c.args.member)) (Some (arc_value c.args.sig))) c.self.view_is

pub returns-clause-agreed : goal.returns-clause-agreed
returns-clause-agreed c = agreed _ _ _ _ (invariant_of-self c)
