use Rattle.std.proofs.Common.{◌≡◌, ◌∙◌, ap, sym, subst, ltb, length, ℕ, List, Some, arith}
use Rattle.std.specs.Prelude.{IsSome, option_map, slice_index}
use Rattle.std.specs.List.{position}
use Rattle.std.proofs.lemmas.List.{get_or_default}
use Rattle.std.proofs.lemmas.Option.{none-some, same_Some}
use Rattle.coll_kinds.specs.declared.signature.Signature.{Signature}
use Rattle.coll_machine.specs.Refusals.{first_there}
use Rattle.coll_queues.specs.Lists.{Lists, posts_in, signed_in}
use Rattle.coll_queues.proofs.Fronts.{stood}
use Rattle.coll_queues.proofs.posting_lists.PostingLists.first_rank.Goals as goal

pub unreachable-requires : goal.unreachable-requires
unreachable-requires c =
    let found = stood _ _ _ c.self.inside.signatures.room c.self.invariant c.args.place
    (subst (λ v. IsSome (signed_in v c.args.place)) (sym c.self.view_is) c.requires) in
    none-some found.1.member
    (sym c.in-None.is ∙ c.first_beyond.ensures ∙ ap (λ (xs : List ℕ). position (λ n. ltb c.args.place n) xs) c.deref.ensures.value ∙ found.1.beyond)

pub returns : goal.returns
returns c =
    let found = stood _ _ _ c.self.inside.signatures.room c.self.invariant c.args.place
    (subst (λ v. IsSome (signed_in v c.args.place)) (sym c.self.view_is) c.requires) in
    let member : found.1.member ≡ c.in-Some.member =
    same_Some _ _ (sym found.1.beyond ∙ ap (λ (xs : List ℕ). position (λ n. ltb c.args.place n) xs) (sym c.deref.ensures.value)
    ∙ sym c.first_beyond.ensures ∙ c.in-Some.is) in
    let rank : slice_index c.self.inside.group.items found.1.member ≡ c.index.result.now =
    ap (slice_index c.self.inside.group.items) member
    ∙ sym (get_or_default c.self.inside.group.items c.in-Some.member c.index.result.now 0 (omega (arith, member, found.1.in_group)))
    ∙ sym c.index.ensures in
    ap (λ (v : Lists). option_map (λ (first : ℕ × Signature). slice_index v.group first.0) (first_there (posts_in v) c.args.place 0 (length v.group)))
    (sym c.self.view_is)
    ∙ ap (option_map (λ (first : ℕ × Signature). slice_index c.self.inside.group.items first.0)) found.1.first
    ∙ ap Some rank
