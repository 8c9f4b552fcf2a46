-- A combination that was out.
use Rattle.std.proofs.Common.{◌≡◌, ◌∙◌, ◌&&◌, ◌==◌, inr, ℕ, Bool, true, false, List, length, cond, Option, Some, ap, refl, sym, subst, eqb-true, ne_eqb}
use Rattle.std.specs.Prelude.{IsTrue}
use Rattle.std.proofs.lemmas.Bool.{and_parts}
use Rattle.std.proofs.lemmas.Option.{same_Some}
use Rattle.coll_kinds.specs.declared.ticket.Ticket.{Ticket}
use Rattle.coll_kinds.proofs.Puts.{put_other, put_same}
use Rattle.coll_ops.specs.Combinations.{combined}
use Rattle.coll_lists.specs.Layouts.{sequence}
use Rattle.coll_lists.specs.Moves.{moved_back, taken_out}
use Rattle.coll_sched.specs.declared.action.Action.{Action}
use Rattle.coll_sched.specs.declared.action.Action.TheVariants.{Send, Copy, Combine, Recv}
use Rattle.coll_sched.specs.declared.region.Region.{Region}
use Rattle.coll_sched.specs.Regions.{read_of, written}
use Rattle.coll_arena.specs.ListNames.{number_of}
use Rattle.coll_arena.specs.Changes.{rewritten}
use Rattle.coll_arena.specs.Slots.{Slots, home, names, record_in}
use Rattle.coll_arena.specs.Sound.{IsSound}
use Rattle.coll_arena.proofs.Sounds.{Named-names}
use Rattle.coll_queues.specs.Postings.{Postings}
use Rattle.coll_refinement.specs.Requests.{Live, advanced}
use Rattle.coll_refinement.proofs.engine.Statements.{ActsOnce}
use Rattle.coll_refinement.specs.Shown.{Instances}
use Rattle.coll_refinement.proofs.engine.Actions.{compute_core}
use Rattle.coll_core.specs.declared.request.Request.{Request}
use Rattle.coll_core.specs.declared.stepped.Stepped.{Stepped}
use Rattle.coll_core.specs.Cores.{IsCore, Parts, setting}
use Rattle.coll_core.specs.Requests.{schedule, shown}
use Rattle.coll_core.specs.Advancing.{CanAdvance, HasAdvanced}
use Rattle.coll_core.specs.Steps.{Commits, CommitSteps, CommitsOwn, HasOwnResult, IsOut, MovesOne, stepped_by}
use Rattle.coll_core.specs.Works.{Combined, Made, NamesSame, Piece, StandsAt, result_of}
use Rattle.coll_core.proofs.step.Act.{Gone, Rewrites, can_go_on, core_after, done_here, goes, goes_on, going_not_done, gone_written, list_low, none_ends, parts}
use Rattle.coll_core.proofs.between.FirstOfReady.{have_lists, running_acting}

-- ---- whether it is out

pub out_filled : (p : Parts) (x : Request) (t u w : Ticket) → t ≡ w → u ≡ w → IsCore p → record_in p.arena t.slot ≡ Some x
    → true ≡ (names p.arena u && (home p.arena u.slot == 3)) → length x.buffer ≡ (schedule (shown x)).size
out_filled p x t u w t_is u_is core here on =
    (running_acting p core t.slot x here
    (ap (λ (z : Ticket). home p.arena z.slot) (t_is ∙ sym u_is)
    ∙ eqb-true (home p.arena u.slot) 3 (and_parts (names p.arena u) (home p.arena u.slot == 3) (sym on)).1)).filled

pub out_by : (p v : Parts) → p ≡ v → (x : Request) (w : Piece) (t u : Ticket) → t ≡ w.ticket → u ≡ w.ticket → record_in p.arena t.slot ≡ Some x
    → true ≡ (names p.arena u && (home p.arena u.slot == 3)) → (b : Bool) → (IsTrue b → StandsAt (shown x) w) × (StandsAt (shown x) w → IsTrue b)
    → (IsTrue b → IsOut v w) × (IsOut v w → IsTrue b)
out_by p v e x w t u t_is u_is here on b same = subst (λ (z : Parts). (IsTrue b → IsOut z w) × (IsOut z w → IsTrue b)) e (
  (λ yes. record {
    request = x;
    live = subst (λ (z : Ticket). names p.arena z ≡ true) u_is both.0;
    here = there;
    runs = subst (λ (z : Ticket). home p.arena z.slot ≡ 3) u_is (eqb-true (home p.arena u.slot) 3 both.1);
    stands = same.0 yes;
  }),
  λ out. same.1 (subst (λ (r : Request). StandsAt (shown r) w) (same_Some out.request x (sym out.here ∙ there)) out.stands),
)
  where
    both : (names p.arena u ≡ true) × ((home p.arena u.slot == 3) ≡ true)
    both = and_parts (names p.arena u) (home p.arena u.slot == 3) (sym on)

    there : record_in p.arena w.ticket.slot ≡ Some x
    there = subst (λ (z : Ticket). record_in p.arena z.slot ≡ Some x) t_is here

-- ---- from what is_out said

pub record OutAt (p : Parts) (t : Ticket) (x : Request) (w : Piece) : Type 0 where
  pub live : names p.arena t ≡ true
  pub here : record_in p.arena t.slot ≡ Some x
  pub runs : home p.arena t.slot ≡ 3
  pub stands : StandsAt (shown x) w

pub out_at : (p v : Parts) → p ≡ v → (w u : Piece) → u ≡ w → (t : Ticket) → t ≡ w.ticket → (x : Request) → IsOut v u
    → record_in p.arena t.slot ≡ Some x → OutAt p t x w
out_at p v e w u u_is t t_is x out here = record {
  live = subst (λ (z : Ticket). names p.arena z ≡ true) (sym t_is) at.live;
  here = here;
  runs = subst (λ (z : Ticket). home p.arena z.slot ≡ 3) (sym t_is) at.runs;
  stands = subst (λ (r : Request). StandsAt (shown r) w)
      (same_Some at.request x (sym at.here ∙ subst (λ (z : Ticket). record_in p.arena z.slot ≡ Some x) t_is here)) at.stands;
}
  where
    at : IsOut p w
    at = subst (λ (z : Parts). IsOut z w) (sym e) (subst (λ (z : Piece). IsOut v z) u_is out)

-- ---- the result of the request's own operands

-- the piece of its own operands
pub record OwnAt (p : Parts) (t : Ticket) (x : Request) (w : Piece) (bytes : List ℕ) : Type 0 where
  pub own : Piece
  pub names : NamesSame own w
  pub t_is : t ≡ own.ticket
  pub out : OutAt p t x own
  pub is : bytes ≡ result_of own

pub own_at : (p v : Parts) → p ≡ v → (w : Piece) (t : Ticket) → t ≡ w.ticket → (x : Request) (bytes : List ℕ)
    → HasOwnResult v w bytes → record_in p.arena t.slot ≡ Some x → OwnAt p t x w bytes
own_at p v e w t t_is x bytes has here = record {
  own = h.result.own;
  names = h.result.names;
  t_is = t_is ∙ sym h.result.names.ticket_is;
  out = record {
    live = subst (λ (z : Ticket). names p.arena z ≡ true) (sym t_is) h.live;
    here = here;
    runs = subst (λ (z : Ticket). home p.arena z.slot ≡ 3) (sym t_is) h.runs;
    stands = subst (λ (r : Request). StandsAt (shown r) h.result.own)
        (same_Some h.request x (sym h.here ∙ subst (λ (z : Ticket). record_in p.arena z.slot ≡ Some x) t_is here)) h.result.stands;
  };
  is = h.result.is;
}
  where
    h : HasOwnResult p w bytes
    h = subst (λ (z : Parts). HasOwnResult z w bytes) (sym e) has

-- ---- the commit

abbrev left_in : Action → Region → Region
left_in (Combine op ty left right into) other = left
left_in (Send to from) other = other
left_in (Copy from into) other = other
left_in (Recv of into) other = other

abbrev right_in : Action → Region → Region
right_in (Combine op ty left right into) other = right
right_in (Send to from) other = other
right_in (Copy from into) other = other
right_in (Recv of into) other = other

abbrev region_into : Action → Region → Region
region_into (Combine op ty left right into) other = into
region_into (Send to from) other = other
region_into (Copy from into) other = other
region_into (Recv of into) other = other

module _ (ranks starts trace : ℕ) (a b : Slots Request) (q : Postings) (m : Instances) (t : Ticket) (x y : Request) (d : Made)
    (sound : IsSound a) (core : IsCore (parts ranks starts trace a q m))
    (out : OutAt (parts ranks starts trace a q m) t x d.piece) (wrote : Combined (shown x) (shown y) d.bytes) where
  abbrev s : StandsAt (shown x) d.piece
  s = out.stands

  same_into : wrote.into ≡ s.into
  same_into = ap (λ (c : Action). region_into c wrote.into) (same_Some _ _ (sym wrote.next_is ∙ s.next_is))

  buf_is : y.buffer ≡ written x.buffer s.into d.bytes
  buf_is = ap (λ (l : Live). l.buf) wrote.is ∙ ap (λ (g : Region). written x.buffer g d.bytes) same_into

  pub rewrites : Rewrites x y (written x.buffer s.into d.bytes)
  rewrites = record {
    is = wrote.is ∙ (λ z. advanced (shown x) (record { round = x.round; index = x.index; buf = sym (ap (λ (l : Live). l.buf) wrote.is) z }));
    round_is = ap (λ (l : Live). l.round) wrote.is;
    index_is = ap (λ (l : Live). l.index) wrote.is;
    buf = buf_is;
  }

  pub commit_can_go : CanAdvance (rewritten a t.slot y) t
  commit_can_go = can_go_on a t x y (written x.buffer s.into d.bytes) (Combine d.piece.op d.piece.ty s.left s.right s.into) sound out.live rewrites
      (have_lists (parts ranks starts trace a q m) core t.slot x out.here)
      (running_acting (parts ranks starts trace a q m) core t.slot x out.here out.runs).round_in s.next_is

  module _ (finished : Bool) (is : d.bytes ≡ result_of d.piece) (t_is : t ≡ d.piece.ticket) (gone : HasAdvanced (rewritten a t.slot y) b m t finished) where
    abbrev bytes : List ℕ
    bytes = written x.buffer s.into d.bytes

    on : Gone a b m t x bytes finished
    on = gone_written a b m t x y bytes finished sound (Named-names a t out.live).low rewrites gone

    result_is : d.bytes ≡ combined d.piece.op d.piece.ty (read_of x.buffer s.left) (read_of x.buffer s.right)
    result_is = is ∙ (λ z. combined d.piece.op d.piece.ty (sym s.left_is z) (sym s.right_is z))

    once : ActsOnce shown (setting (parts ranks starts trace a q m)) a b q m m
    once = compute_core shown (setting (parts ranks starts trace a q m)) a b q m t x on.to
        (Combine d.piece.op d.piece.ty s.left s.right s.into) on.point (number_of on.list) core
        (goes_on a b m t x bytes finished (Combine d.piece.op d.piece.ty s.left s.right s.into) out.live out.here (inr out.runs) s.next_is on) tt
        (on.buf ∙ ap (λ (l : List ℕ). written x.buffer s.into l) result_is)

    there : record_in b t.slot ≡ Some on.to
    there = ap (λ (f : ℕ → Option Request). f t.slot) on.puts.records ∙ put_same (record_in a) t.slot (Some on.to)

    moves : MovesOne (parts ranks starts trace a q m) (parts ranks starts trace b q m) t.slot
    moves = record {
      lists_is = on.placed_is
          ∙ (ap (λ d. cond d a.lists (moved_back t.slot (number_of on.list) a.lists))
          (ne_eqb (home a t.slot) (number_of on.list) (λ e. list_low x.comm on.list on.onto (sym e ∙ out.runs)))
          ∙ ap (λ l. moved_back t.slot l a.lists) (sym (ap (λ (f : ℕ → ℕ). f t.slot) on.puts.homes ∙ put_same (home a) t.slot (number_of on.list))));
      others = λ j away. ap (λ (f : ℕ → Option Request). f j) on.puts.records ∙ put_other (record_in a) t.slot (Some on.to) j away;
    }

    pub committed : IsCore (parts ranks starts trace b q m) × Commits (parts ranks starts trace a q m) (parts ranks starts trace b q m) d finished
    committed = (
      core_after ranks starts trace a b q m m on.puts.count_is on.puts.wear_is once,
      record {
        goes = goes ranks starts trace a b q m m on.puts.count_is on.puts.wear_is once t.slot finished
            (going_not_done a t.slot x out.here (inr out.runs)) (done_here a b m t x bytes finished on)
            (λ e. none_ends a b m t x bytes (subst (λ f. Gone a b m t x bytes f) e on));
        moves = subst (λ (z : Ticket). MovesOne (parts ranks starts trace a q m) (parts ranks starts trace b q m) z.slot) t_is moves;
        result = record {
          from = x;
          to = on.to;
          into = s.into;
          here = subst (λ (z : Ticket). record_in a z.slot ≡ Some x) t_is out.here;
          there = subst (λ (z : Ticket). record_in b z.slot ≡ Some on.to) t_is there;
          next_is = (s.left, s.right, s.next_is);
          buf = ap (λ (l : Live). l.buf) on.is ∙ on.buf;
        };
        running_is =
            subst (λ (z : Ticket). sequence b.lists 3 ≡ taken_out z.slot (sequence a.lists 3)) t_is
            (on.puts.from 3 (λ e. list_low x.comm on.list on.onto (sym e)));
      },
    )

pub commit_steps : (p r : Parts) (d : Made) (finished : Bool) (s : Stepped) → s ≡ stepped_by finished → Commits p r d finished → CommitSteps p r d s
commit_steps p r d true s e c = subst (λ (z : Stepped). CommitSteps p r d z) (sym e) c
commit_steps p r d false s e c = subst (λ (z : Stepped). CommitSteps p r d z) (sym e) c

pub commits_own : (p v r : Parts) → p ≡ v → (x : Request) (w : Piece) (t : Ticket) (bytes : List ℕ) (finished : Bool) (s : Stepped) → s ≡ stepped_by finished
    → (o : OwnAt p t x w bytes) → Commits p r (record { piece = o.own; bytes = bytes }) finished → CommitsOwn v r w s
commits_own p v r e x w t bytes finished s s_is o c = subst (λ (z : Parts). CommitsOwn z r w s) e (record {
  own = o.own;
  names = o.names;
  out = record {
    request = x;
    live = subst (λ (z : Ticket). names p.arena z ≡ true) o.t_is o.out.live;
    here = subst (λ (z : Ticket). record_in p.arena z.slot ≡ Some x) o.t_is o.out.here;
    runs = subst (λ (z : Ticket). home p.arena z.slot ≡ 3) o.t_is o.out.runs;
    stands = o.out.stands;
  };
  steps = subst (λ (b : List ℕ). CommitSteps p r (record { piece = o.own; bytes = b }) s) o.is
      (commit_steps p r (record { piece = o.own; bytes = bytes }) finished s s_is c);
})

-- a piece that is out is that of its own operands
module _ (p v : Parts) (e : p ≡ v) (x : Request) (w : Piece) (t : Ticket) (t_is : t ≡ w.ticket) (bytes : List ℕ)
    (o : OwnAt p t x w bytes) (out : IsOut v w) where
  at : OutAt p t x w
  at = out_at p v e w w refl t t_is x out o.out.here

  same_next : Some (Combine o.own.op o.own.ty o.out.stands.left o.out.stands.right o.out.stands.into)
      ≡ Some (Combine w.op w.ty at.stands.left at.stands.right at.stands.into)
  same_next = sym o.out.stands.next_is ∙ at.stands.next_is

  same_left : o.own.left ≡ w.left
  same_left = sym o.out.stands.left_is ∙ (ap (λ (a : Action). read_of x.buffer (left_in a o.out.stands.left)) (same_Some _ _ same_next) ∙ at.stands.left_is)

  same_right : o.own.right ≡ w.right
  same_right =
      sym o.out.stands.right_is ∙ (ap (λ (a : Action). read_of x.buffer (right_in a o.out.stands.right)) (same_Some _ _ same_next) ∙ at.stands.right_is)

  pub same_piece : o.own ≡ w
  same_piece = λ k. record {
    ticket = o.names.ticket_is k;
    round = o.names.round_is k;
    index = o.names.index_is k;
    op = o.names.op_is k;
    ty = o.names.ty_is k;
    left = same_left k;
    right = same_right k;
  }

pub steps_exactly : (p v r : Parts) (e : p ≡ v) (x : Request) (w : Piece) (t : Ticket) (t_is : t ≡ w.ticket) (bytes : List ℕ) (finished : Bool) (s : Stepped)
    → s ≡ stepped_by finished
    → (o : OwnAt p t x w bytes) → Commits p r (record { piece = o.own; bytes = bytes }) finished → (d : Made) → d.piece ≡ w
    → d.bytes ≡ result_of d.piece → IsOut v w → CommitSteps v r d s
steps_exactly p v r e x w t t_is bytes finished s s_is o c d is made out =
    subst (λ (z : Made). CommitSteps v r z s) same
    (commit_steps v r (record { piece = o.own; bytes = bytes }) finished s s_is
    (subst (λ (z : Parts). Commits z r (record { piece = o.own; bytes = bytes }) finished) e c))
  where
    own_is : o.own ≡ d.piece
    own_is = same_piece p v e x w t t_is bytes o out ∙ sym is

    same : record { piece = o.own; bytes = bytes } ≡ d
    same = λ k. record { piece = own_is k; bytes = (o.is ∙ (ap result_of own_is ∙ sym made)) k }
