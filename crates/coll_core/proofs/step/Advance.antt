-- A slot whose request was written, and which then advanced to another list.
use Rattle.std.proofs.Common.{◌≡◌, ◌∙◌, ◌<◌, ◌&&◌, ◌==◌, ℕ, suc, Bool, true, false, cond, Option, Some, ap, refl, sym, subst, eqb-true}
use Rattle.std.proofs.lemmas.Bool.{and_parts}
use Rattle.coll_kinds.specs.declared.ticket.Ticket.{Ticket}
use Rattle.coll_kinds.specs.Puts.{put}
use Rattle.coll_kinds.proofs.Puts.{put_put, put_same}
use Rattle.coll_arena.specs.declared.list_name.ListName.{ListName}
use Rattle.coll_arena.specs.ListNames.{number_of}
use Rattle.coll_lists.specs.Moves.{moved_back}
use Rattle.coll_arena.specs.Changes.{rewritten, shifted}
use Rattle.coll_arena.specs.Lookups.{PutsSlot}
use Rattle.coll_arena.specs.Slots.{Slots, count, generation_of, home, names, record_in, weight_of}
use Rattle.coll_arena.specs.Sound.{IsSound}
use Rattle.coll_arena.proofs.Lookups.{PutsSlot-rewritten, put-own, still-out}
use Rattle.coll_arena.proofs.Sounds.{Named-names}
use Rattle.coll_match.specs.Instances.{mail}
use Rattle.coll_refinement.specs.Requests.{Live, key}
use Rattle.coll_refinement.specs.Shown.{Instances}
use Rattle.coll_refinement.specs.Sound.{Stands}
use Rattle.coll_core.specs.declared.request.Request.{Request}
use Rattle.coll_core.specs.Requests.{PassesEnds, IsListOf, shown}
use Rattle.coll_core.specs.Advancing.{HasAdvanced, is_end}
use Rattle.coll_core.specs.Steps.{placed as into_place}

-- a change of a slot after a write to it is that change alone
pub puts_written : (a b : Slots Request) (i gen w list : ℕ) (y : Request) (o : Option Request) → IsSound a → i < count a
    → PutsSlot (rewritten a i y) b i gen w o list → PutsSlot a b i gen w o list
puts_written a b i gen w list y o sound low p = record {
  count_is = p.count_is;
  comms_is = p.comms_is;
  wear_is = p.wear_is;
  generations = p.generations;
  weights = p.weights;
  records = p.records ∙ (ap (λ (f : ℕ → Option Request). put f i o) one.records ∙ put_put (record_in a) i (Some y) o);
  homes = p.homes;
  lists_is = p.lists_is;
  others = p.others;
  from = p.from;
}
  where
    one : PutsSlot a (rewritten a i y) i (generation_of a i) (weight_of a i) (Some y) (home a i)
    one = PutsSlot-rewritten a sound i low y

pub record_written : (a : Slots Request) (i : ℕ) (y : Request) → IsSound a → i < count a → record_in (rewritten a i y) i ≡ Some y
record_written a i y sound low = ap (λ (f : ℕ → Option Request). f i) (PutsSlot-rewritten a sound i low y).records ∙ put_same (record_in a) i (Some y)

-- a request that is on that list lies there without a move
pub placed : (a : Slots Request) (t : Ticket) (list : ℕ) → IsSound a
    → (names a t && (home a t.slot == list)) ≡ true
    → PutsSlot a a t.slot t.generation (weight_of a t.slot) (record_in a t.slot) list
placed a t list sound on =
    let both = and_parts (names a t) (home a t.slot == list) on in
    let named = Named-names a t both.0 in
    let there = eqb-true (home a t.slot) list both.1 in
    record {
      count_is = refl;
      comms_is = refl;
      wear_is = refl;
      generations = put-own (generation_of a) t.slot ∙ ap (put (generation_of a) t.slot) named.generation;
      weights = put-own (weight_of a) t.slot;
      records = put-own (record_in a) t.slot;
      homes = put-own (home a) t.slot ∙ ap (put (home a) t.slot) there;
      lists_is = refl;
      others = λ other off away. refl;
      from = λ other away. sym (still-out (count a) t.slot a.lists sound.lawful other (λ same. away (same ∙ there)));
    }

-- and its list is as it was; one that goes to another list goes to the back of that
pub placed_there : (a : Slots Request) (t : Ticket) (list : ℕ) → (names a t && (home a t.slot == list)) ≡ true
    → a.lists ≡ into_place t.slot list a.lists
placed_there a t list on =
    sym (ap (λ b. cond b a.lists (moved_back t.slot list a.lists)) (and_parts (names a t) (home a t.slot == list) on).1)

pub placed_behind : (a b : Slots Request) (t : Ticket) (list : ℕ) → names a t ≡ true → (names a t && (home a t.slot == list)) ≡ false
    → b ≡ shifted a t.slot list → b.lists ≡ into_place t.slot list a.lists
placed_behind a b t list live off is =
    ap (λ (z : Slots Request). z.lists) is
    ∙ sym (ap (λ b. cond b a.lists (moved_back t.slot list a.lists)) (sym (ap (λ n. n && (home a t.slot == list)) live) ∙ off))

pub gone_on : (a b : Slots Request) (n : Instances) (t : Ticket) (x y : Request) (list : ListName) (finished : Bool)
    → IsSound a → names a t ≡ true → record_in a t.slot ≡ Some x
    → PassesEnds (shown x) (shown y) (suc x.index)
    → Stands y.plan.n (mail n (key (shown y))) (number_of list) (shown y)
    → IsListOf y.comm list
    → PutsSlot (rewritten a t.slot y) b t.slot t.generation (weight_of a t.slot) (record_in (rewritten a t.slot y) t.slot) (number_of list)
    → (home a t.slot ≡ number_of list → b ≡ rewritten a t.slot y)
    → b.lists ≡ into_place t.slot (number_of list) a.lists
    → finished ≡ is_end list
    → HasAdvanced a b n t finished
gone_on a b n t x y list finished sound live here goes stands onto puts stays place end = record {
  from = x;
  to = y;
  point = record { round = y.round; index = y.index; buf = x.buffer };
  list = list;
  here = here;
  puts = puts_written a b t.slot t.generation (weight_of a t.slot) (number_of list) y (Some y) sound low
      (subst (λ (o : Option Request). PutsSlot (rewritten a t.slot y) b t.slot t.generation (weight_of a t.slot) o (number_of list))
      (record_written a t.slot y sound low) puts);
  stays = λ e. ap (λ (z : Slots Request). z.lists) (stays e);
  placed_is = place;
  is = goes.is;
  buf = refl;
  over = goes.over;
  stands = subst (λ (q : Live). Stands q.members (mail n (key q)) (number_of list) (shown y)) goes.is stands;
  onto = subst (λ (q : Live). IsListOf q.comm list) goes.is onto;
  finished_is = end;
}
  where
    low : t.slot < count a
    low = (Named-names a t live).low
