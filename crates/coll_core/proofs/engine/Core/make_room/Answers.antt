use Rattle.std.proofs.Common.{IfOk, Ok, Result, List, ◌≡◌, ◌∙◌, ◌<◌, ℕ, None, length, ap, sym, subst, arith}
use Rattle.coll_kinds.specs.declared.kind.Mode.TheVariants.{Once}
use Rattle.coll_kinds.specs.Lengths.{given_len}
use Rattle.coll_machine.specs.Common.{Post, Setting, size}
use Rattle.coll_match.specs.Instances as instances
use Rattle.coll_queues.specs.Postings.{Postings, HasRoom, place_of}
use Rattle.coll_refinement.proofs.engine.Statements.{MayEnter}
use Rattle.coll_refinement.proofs.engine.Accepted.{entry_core}
use Rattle.coll_core.specs.Requests.{shown}
use Rattle.coll_core.specs.Cores.{Parts, setting}
use Rattle.coll_core.specs.declared.offer.Offer.{Offer}
use Rattle.coll_core.specs.Posts.{planned, refused_in, IsLaid}
use Rattle.coll_kinds.specs.declared.refusal.Refusal.{Refusal}
use Rattle.coll_core.proofs.post.Post.{accepted_from}
use Rattle.coll_core.proofs.engine.Core.make_room.Goals as goal

laid_for : (r : Result (List ℕ) Refusal) (offer : Offer) (buffer : List ℕ) → IfOk r (λ b. IsLaid offer b) → r ≡ Ok buffer → IsLaid offer buffer
laid_for r offer buffer all is = subst (λ x. IfOk x (λ b. IsLaid offer b)) is all

pub returns-clause-buffer : goal.returns-clause-buffer
returns-clause-buffer c =
    let p : Parts =
    record {
      ranks = c.self.inside.ranks;
      starts = c.self.inside.starts;
      trace = c.self.inside.trace;
      arena =
          c.self.inside.arena;
      queues = c.self.inside.queues;
      matches = c.self.inside.matches;
    } in
    let plan = planned c.args.offer.now.plan in
    let bytes = c.args.offer.now.bytes in
    let accepted : refused_in p (Post c.args.rank c.args.comm plan bytes) ≡ None =
    accepted_from p c.args.self.now (Post c.args.rank c.args.comm plan bytes) c.self.view_is c.requires.accepted in
    let tested : MayEnter (setting p) p.arena p.queues c.args.rank c.args.comm Once plan × (length bytes ≡ given_len plan.sig plan.n plan.member) =
    (entry_core shown (setting p) p.arena p.queues p.matches c.args.rank c.args.comm plan c.self.invariant c.is_sound.ensures).0 bytes accepted in
    c.in_ok-buffer.ensures.ok
    ∙ laid_for c.args.laid c.args.offer.now c.in_ok-bare.bare c.requires.laid c.in_ok-bare.was
    (tested.1 ∙ sym (c.is_planned.ensures.serves.takes_given plan.member tested.0.low))

pub make_instance-requires : goal.make_instance-requires
make_instance-requires c =
    let p : Parts =
    record {
      ranks = c.self.inside.ranks;
      starts = c.self.inside.starts;
      trace = c.self.inside.trace;
      arena =
          c.self.inside.arena;
      queues = c.self.inside.queues;
      matches = c.self.inside.matches;
    } in
    let plan = planned c.args.offer.now.plan in
    let bytes = c.args.offer.now.bytes in
    let accepted : refused_in p (Post c.args.rank c.args.comm plan bytes) ≡ None =
    accepted_from p c.args.self.now (Post c.args.rank c.args.comm plan bytes) c.self.view_is c.requires.accepted in
    let tested : MayEnter (setting p) p.arena p.queues c.args.rank c.args.comm Once plan × (length bytes ≡ given_len plan.sig plan.n plan.member) =
    (entry_core shown (setting p) p.arena p.queues p.matches c.args.rank c.args.comm plan c.self.invariant c.is_sound.ensures).0 bytes accepted in
    c.n.ensures.n ∙ (tested.0.size_is ∙ (ap (λ (x : Parts). size (setting x) c.args.comm) c.self.view_is
    ∙ sym (ap (λ (g : Setting). size g c.args.comm) c.make_place.ensures.unchanged.setting_is)))

low : (a b c d : ℕ) → a < b → c ≡ b → c ≡ d → a < d
low a b c d h e f = omega arith

pub returns-clause-room : goal.returns-clause-room
returns-clause-room c =
    let p : Parts =
    record {
      ranks = c.self.inside.ranks;
      starts = c.self.inside.starts;
      trace = c.self.inside.trace;
      arena =
          c.self.inside.arena;
      queues = c.self.inside.queues;
      matches = c.self.inside.matches;
    } in
    let plan = planned c.args.offer.now.plan in
    let bytes = c.args.offer.now.bytes in
    let accepted : refused_in p (Post c.args.rank c.args.comm plan bytes) ≡ None =
    accepted_from p c.args.self.now (Post c.args.rank c.args.comm plan bytes) c.self.view_is c.requires.accepted in
    let tested : MayEnter (setting p) p.arena p.queues c.args.rank c.args.comm Once plan × (length bytes ≡ given_len plan.sig plan.n plan.member) =
    (entry_core shown (setting p) p.arena p.queues p.matches c.args.rank c.args.comm plan c.self.invariant c.is_sound.ensures).0 bytes accepted in
    record {
      posting = subst (λ (q : Postings). HasRoom q c.args.comm c.args.rank) (sym c.make_instance.ensures.queues) c.in_ok-make_place.ensures.room;
      sharing = subst (λ place. plan.member < instances.size c.make_instance.new.self.matches (record { comm = c.args.comm; place = place; start = 0 }))
          (c.place_of.ensures ∙ ap (λ (p : Parts). place_of p.queues c.args.comm c.args.rank) c.self-2.view_is
          ∙ ap (λ (q : Postings). place_of q c.args.comm c.args.rank) (sym c.make_instance.ensures.queues))
          (low plan.member plan.n c.n.result _ tested.0.low c.n.ensures.n c.in_ok-make_instance.ensures.room);
    }
