use Rattle.std.proofs.Common.{◌≡◌, ap, map, List, ◌∷◌, [], ◌++◌, ◌∙◌, ℕ, Vec, Global, subst, sym}
use Rattle.std.proofs.lemmas.List.{map-append}
use Rattle.coll_queues.specs.Lists.{Lists}
use Rattle.coll_queues.specs.Sound.{AreAgreed}
use Rattle.coll_queues.proofs.Comms.{Unposted, agreed_none, agreed_push, unposted_none, unposted_push}
use Rattle.coll_queues.proofs.queues.Queues.open.Goals as goal

pub loop-group-init : goal.loop-group-init
loop-group-init c = record {
  groups = ap (λ (xs : List Lists). map (λ m. m.group) xs) c.in_ok-comms.ensures.items;
  agreed = agreed_none _ c.in_ok-comms.ensures.items;
  unposted = unposted_none _ c.in_ok-comms.ensures.items;
}

pub loop-group-preserved : goal.loop-group-preserved
loop-group-preserved c =
    let items : c.push.new.self.items ≡ c.loop-group.comms.items ++ c.in_ok-new.field-0 ∷ [] = c.in_ok-push.ensures.items in
    record {
      groups = ap (λ (xs : List Lists). map (λ m. m.group) xs) items ∙ map-append (λ (m : Lists). m.group) c.loop-group.comms.items (c.in_ok-new.field-0 ∷ [])
          ∙ (λ z. c.loop-group.invariant.groups z ++ c.in_ok-new.ensures.group z ∷ [])
          ∙ sym (map-append (λ (g : Vec ℕ Global). g.items) c.loop-group.yielded (c.in-Some.group ∷ []));
      agreed = subst (λ xs. AreAgreed xs) (sym items) (agreed_push _ _ c.loop-group.invariant.agreed c.in_ok-new.ensures.agreed);
      unposted = subst (λ xs. Unposted xs) (sym items) (unposted_push _ _ c.loop-group.invariant.unposted c.in_ok-new.ensures.empty);
    }

pub returns-clause-posts : goal.returns-clause-posts
returns-clause-posts c = λ z comm. c.loop-group.invariant.unposted comm z
