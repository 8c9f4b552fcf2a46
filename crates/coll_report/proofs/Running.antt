-- A legal trace from a state on, in which the ranks do what is left of their scripts.
use Rattle.std.proofs.Common.{◌≡◌, ℕ, ◌+◌, ◌⊎◌, inl, inr, ◌&&◌, Bool, true, false, cond, eqb, List, [], ◌∷◌, ◌++◌, length, Some, None, refl, sym, ap}
use Rattle.std.proofs.Common.{subst, ◌∙◌, arith, eq-eqb, ne_eqb}
use Rattle.std.specs.Prelude.{slice_get}
use Rattle.std.specs.List.{AllByRecursion, count_by}
use Rattle.std.proofs.lemmas.List.Sums.{sum_by-cons}
use Rattle.std.proofs.lemmas.Option.{none-some, same_Some}
use Rattle.std.proofs.lemmas.Bool.{eqb-true, and_parts, and_from, false≢true}
use Rattle.coll_kinds.specs.declared.signature.Signature.{Signature}
use Rattle.coll_kinds.specs.declared.kind.Mode.{Mode}
use Rattle.coll_kinds.specs.declared.kind.Mode.TheVariants.{Once, Persistent}
use Rattle.coll_ops.specs.Values.{value}
use Rattle.coll_report.specs.Scripts.{Command, Post, Init, Start, Other, Asked, asked_at, one_more, changed_at, asked_from, outcome, Says}
use Rattle.coll_kinds.proofs.Puts.{put_same, put_other, put_at, put_cases}
use Rattle.coll_kinds.specs.Common.{member_of, put}
use Rattle.coll_kinds.specs.declared.ticket.Ticket.{Ticket}
use Rattle.coll_machine.proofs.Accepted.{found_is, retired_mine, started_mine, freed_mine}
use Rattle.coll_machine.proofs.Pushed.{get_pushed}
use Rattle.coll_machine.specs.Common.{Planned, holding, created, new_request, started, rested, rested_by, forgotten, Entry, Posted, Inited, Started}
use Rattle.coll_machine.specs.Common.{Retired, Freed, posts_of, Setting, size, group, AreGroups, Request, State, key_of, filled, Posts, Inits, Starts}
use Rattle.coll_machine.specs.Common.{Frees, Retires, Clears, IsNew, Leads, ArePosted}
use Rattle.coll_report.proofs.Counted.{Fair, IsSame, fair_created, fair_started, fair_freed, fair_retired}
use Rattle.coll_report.proofs.Lists.{changed_last, Grows, grows_asked}
use Rattle.coll_machine.proofs.Posted.{are_entered}
use Rattle.coll_report.proofs.Standing.{Requests, Tickets, Known, Stands, stands_created, grows_new, stands_started, grows_started, at_started}
use Rattle.coll_report.proofs.Standing.{stands_holding, stands_forgotten, known_rested}
use Rattle.coll_report.proofs.Valued.{value_is}
use Rattle.coll_report.specs.Told.{retires, HasValue}

-- how often each start of each place was completed
abbrev pub Tally : Type 0
Tally = ℕ → ℕ → ℕ → ℕ → ℕ

pub record Good (g : Setting) (s : State) (now : Requests) (ts : Tickets) (count : Tally) : Type 0 where
  pub stands : Stands g s now ts
  pub fair : (r c p n : ℕ) → Fair s.request (now r) (count r c p n) r c p n

-- ---- what a rank says next

chosen : {X : Type 0} (a b : ℕ) (x y : X) → a ≡ b → cond (eqb a b) x y ≡ x
chosen a b x y e = ap (λ t. cond t x y) (eq-eqb a b e)

passed : {X : Type 0} (a b : ℕ) (x y : X) → (a ≡ b → ⊥) → cond (eqb a b) x y ≡ y
passed a b x y d = ap (λ t. cond t x y) (ne_eqb a b d)

-- what is left to say of every rank, and what each has asked for and will have
pub record Left (ts : Tickets) (es : List Entry) (now whole : Requests) : Type 0 where
  pub rest : ℕ → List Command
  pub says : (r : ℕ) → Says (ts r) (rest r) (posts_of r es)
  pub whole_is : (r : ℕ) → asked_from (now r) (rest r) ≡ whole r

says_end : (ts : List Ticket) (cs : List Command) (xs : List Asked) → Says ts cs [] → asked_from xs cs ≡ xs
says_end ts [] xs h = refl
says_end ts (Post comm sig given ∷ cs) xs h = elim h [ ]
says_end ts (Init comm sig ∷ cs) xs h = elim h [ ]
says_end ts (Start q given ∷ cs) xs h = elim h [ ]
says_end ts (Other ∷ cs) xs h = says_end ts cs xs h

-- a rank's next post
record NextPost (ts : List Ticket) (t : Ticket) (x : Asked) (es : List Entry) (xs : List Asked) (cs : List Command) : Type 0 where
  rest : List Command
  says : Says (ts ++ t ∷ []) rest es
  same : asked_from xs cs ≡ asked_from (xs ++ x ∷ []) rest

next_post : (ts : List Ticket) (rank : ℕ) (t : Ticket) (comm place : ℕ) (sig : Signature) (bytes : List ℕ) (es : List Entry)
    (xs : List Asked) (cs : List Command) → Says ts cs (Posted rank t comm place sig bytes ∷ es) → NextPost ts t (asked_at comm sig (bytes ∷ [])) es xs cs
next_post ts rank t comm place sig bytes es xs [] h = elim h [ ]
next_post ts rank t comm place sig bytes es xs (Post c s b ∷ cs) h =
    record { rest = cs; says = h.3; same = λ z. asked_from (xs ++ asked_at (sym h.0 z) (sym h.1 z) (sym h.2 z ∷ []) ∷ []) cs }
next_post ts rank t comm place sig bytes es xs (Init c s ∷ cs) h = elim h [ ]
next_post ts rank t comm place sig bytes es xs (Start q b ∷ cs) h = elim h [ ]
next_post ts rank t comm place sig bytes es xs (Other ∷ cs) h = let n =
    next_post ts rank t comm place sig bytes es xs cs h in record { rest = n.rest; says = n.says; same = n.same }

next_init : (ts : List Ticket) (rank : ℕ) (t : Ticket) (comm place : ℕ) (sig : Signature) (es : List Entry) (xs : List Asked) (cs : List Command)
    → Says ts cs (Inited rank t comm place sig ∷ es) → NextPost ts t (asked_at comm sig []) es xs cs
next_init ts rank t comm place sig es xs [] h = elim h [ ]
next_init ts rank t comm place sig es xs (Post c s b ∷ cs) h = elim h [ ]
next_init ts rank t comm place sig es xs (Init c s ∷ cs) h =
    record { rest = cs; says = h.2; same = λ z. asked_from (xs ++ asked_at (sym h.0 z) (sym h.1 z) [] ∷ []) cs }
next_init ts rank t comm place sig es xs (Start q b ∷ cs) h = elim h [ ]
next_init ts rank t comm place sig es xs (Other ∷ cs) h = let n =
    next_init ts rank t comm place sig es xs cs h in record { rest = n.rest; says = n.says; same = n.same }

-- a rank's next start
record NextStart (ts : List Ticket) (t : Ticket) (bytes : List ℕ) (es : List Entry) (xs : List Asked) (cs : List Command) : Type 0 where
  number : ℕ
  rest : List Command
  named : slice_get ts number ≡ Some t
  says : Says ts rest es
  same : asked_from xs cs ≡ asked_from (changed_at number (one_more bytes) xs) rest

next_start : (ts : List Ticket) (rank : ℕ) (t : Ticket) (start : ℕ) (bytes : List ℕ) (es : List Entry) (xs : List Asked) (cs : List Command)
    → Says ts cs (Started rank t start bytes ∷ es) → NextStart ts t bytes es xs cs
next_start ts rank t start bytes es xs [] h = elim h [ ]
next_start ts rank t start bytes es xs (Post c s b ∷ cs) h = elim h [ ]
next_start ts rank t start bytes es xs (Init c s ∷ cs) h = elim h [ ]
next_start ts rank t start bytes es xs (Start q b ∷ cs) h =
    record { number = q; rest = cs; named = h.0; says = h.2; same = λ z. asked_from (changed_at q (one_more (sym h.1 z)) xs) cs }
next_start ts rank t start bytes es xs (Other ∷ cs) h = let n =
    next_start ts rank t start bytes es xs cs h in record { number = n.number; rest = n.rest; named = n.named; says = n.says; same = n.same }

-- what is left when one rank has said something
record Own (ts : List Ticket) (es : List Entry) (xs whole : List Asked) : Type 0 where
  rest : List Command
  says : Says ts rest es
  whole_is : asked_from xs rest ≡ whole

left_own : (ts ts1 : Tickets) (e : Entry) (es : List Entry) (now now1 whole : Requests) (rank : ℕ) → Left ts (e ∷ es) now whole
    → ((r : ℕ) → (rank ≡ r → ⊥) → posts_of r (e ∷ es) ≡ posts_of r es)
    → ((r : ℕ) → (r ≡ rank → ⊥) → ts1 r ≡ ts r) → ((r : ℕ) → (r ≡ rank → ⊥) → now1 r ≡ now r)
    → Own (ts1 rank) (posts_of rank es) (now1 rank) (whole rank) → Left ts1 es now1 whole
left_own ts ts1 e es now now1 whole rank left others tickets requests own = record {
  rest = put left.rest rank own.rest;
  says = λ r. (each r).0;
  whole_is = λ r. (each r).1;
}
  where
    each : (r : ℕ) → Says (ts1 r) (put left.rest rank own.rest r) (posts_of r es) × (asked_from (now1 r) (put left.rest rank own.rest r) ≡ whole r)
    each r = go (put_cases left.rest rank own.rest r)
      where
        go : ((r ≡ rank) × (put left.rest rank own.rest r ≡ own.rest)) ⊎ ((r ≡ rank → ⊥) × (put left.rest rank own.rest r ≡ left.rest r))
            → Says (ts1 r) (put left.rest rank own.rest r) (posts_of r es) × (asked_from (now1 r) (put left.rest rank own.rest r) ≡ whole r)
        go (inl a) =
            subst (λ (cs : List Command). Says (ts1 r) cs (posts_of r es) × (asked_from (now1 r) cs ≡ whole r)) (sym a.1)
            (subst (λ r. Says (ts1 r) own.rest (posts_of r es) × (asked_from (now1 r) own.rest ≡ whole r)) (sym a.0) (own.says, own.whole_is))
        go (inr a) = subst (λ (cs : List Command). Says (ts1 r) cs (posts_of r es) × (asked_from (now1 r) cs ≡ whole r)) (sym a.1) (
          subst (λ (l : List Ticket). Says l (left.rest r) (posts_of r es)) (sym (tickets r a.0))
              (subst (λ (l : List Entry). Says (ts r) (left.rest r) l) (others r (λ e. a.0 (sym e))) (left.says r)),
          ap (λ (l : List Asked). asked_from l (left.rest r)) (requests r a.0) ∙ left.whole_is r,
        )

-- ---- one entry

-- after an entry
pub record After (g : Setting) (u : State) (es : List Entry) (whole : Requests) (count : Tally) : Type 0 where
  now : Requests
  ts : Tickets
  good : Good g u now ts count
  left : Left ts es now whole

good_created : (g : Setting) (groups : AreGroups g) (s : State) (now : Requests) (ts : Tickets) (count : Tally)
    → Good g s now ts count → (rank comm member place : ℕ) (mode : Mode) (t : Ticket) (sig : Signature)
    → member_of rank (group g comm) ≡ Some member → place ≡ length (s.posts comm member) → IsNew g s t
    → Good g (created s t (new_request rank comm member place mode) sig) (put now rank (now rank ++ asked_at comm sig [] ∷ []))
    (put ts rank (ts rank ++ t ∷ [])) count
good_created g groups s now ts count h rank comm member place mode t sig is place_is new = record {
  stands = stands_created g groups s now ts h.stands rank comm member place mode t sig is place_is new;
  fair = λ r c p n. fair_created s.request now t.slot (new_request rank comm member place mode) rank comm (asked_at comm sig [])
      new.spare refl refl refl r (grows_new g groups s now ts h.stands rank comm member place mode t sig is place_is new r)
      (count r c p n) c p n (h.fair r c p n);
}

-- a request is started, by its number among its rank's
module _ (g : Setting) (groups : AreGroups g) (s : State) (now : Requests) (ts : Tickets) (count : Tally)
    (h : Good g s now ts count) (t : Ticket) (q : Request) (bytes : List ℕ) (gen : s.generation t.slot ≡ t.generation)
    (here : s.request t.slot ≡ Some q) (member_is : member_of q.rank (group g q.comm) ≡ Some q.member) (idle : q.active ≡ false)
    (number : ℕ) (named : slice_get (ts q.rank) number ≡ Some t) where
  abbrev own : Known g now ts t.slot (s.generation t.slot) q
  own = h.stands.known t.slot q here

  number_is : own.number ≡ number
  number_is = h.stands.apart q.rank own.number number t (own.named ∙ (λ z. Some (record { slot = t.slot; generation = gen z }))) named

  abbrev pub now_next : Requests
  now_next = put now q.rank (changed_at number (one_more bytes) (now q.rank))

  pub good_started : Good g (started s t.slot q bytes) now_next ts count
  good_started = subst (λ k. Good g (started s t.slot q bytes) (put now q.rank (changed_at k (one_more bytes) (now q.rank))) ts count) number_is (record {
    stands = stands_started g groups s now ts h.stands t.slot q bytes here member_is;
    fair = λ r c p n. fair_started g s.request now ts t.slot (s.generation t.slot) q bytes here idle own r
        (grows_started g groups s now ts h.stands t.slot q bytes here member_is r)
        (at_started g groups s now ts h.stands t.slot q bytes here member_is) (count r c p n) c p n (h.fair r c p n);
  })

good_at : (g : Setting) (s u : State) (now : Requests) (ts : Tickets) (count : Tally) → u ≡ s → Good g s now ts count → Good g u now ts count
good_at g s u now ts count e h = subst (λ (s : State). Good g s now ts count) (sym e) h

after_init : (g : Setting) (groups : AreGroups g) (s u : State) (now whole : Requests) (ts : Tickets) (count : Tally)
    → Good g s now ts count → (rank : ℕ) (t : Ticket) (comm place : ℕ) (sig : Signature) (plan : Planned) (es : List Entry)
    → plan.sig ≡ sig → Inits g s rank t comm place plan u → Left ts (Inited rank t comm place sig ∷ es) now whole → After g u es whole count
after_init g groups s u now whole ts count h rank t comm place sig plan es same i left =
    let next = next_init (ts rank) rank t comm place sig (posts_of rank es) (now rank) (left.rest rank)
    (subst (λ (l : List Entry). Says (ts rank) (left.rest rank) l) (chosen rank rank _ _ refl) (left.says rank)) in
    record {
      now = put now rank (now rank ++ asked_at comm plan.sig [] ∷ []);
      ts = put ts rank (ts rank ++ t ∷ []);
      good = good_at g _ u _ _ count i.leaves
          (good_created g groups s now ts count h rank comm i.member place Persistent t plan.sig i.member_is i.place_is i.new);
      left = left_own ts (put ts rank (ts rank ++ t ∷ [])) (Inited rank t comm place sig) es now
          (put now rank (now rank ++ asked_at comm plan.sig [] ∷ [])) whole rank left (λ r d. passed rank r _ _ d)
          (λ r d. put_other ts rank _ r d) (λ r d. put_other now rank _ r d) (record {
            rest = next.rest;
            says = subst (λ (l : List Ticket). Says l next.rest (posts_of rank es)) (sym (put_same ts rank (ts rank ++ t ∷ []))) next.says;
            whole_is = ap (λ (l : List Asked). asked_from l next.rest)
                (put_same now rank (now rank ++ asked_at comm plan.sig [] ∷ []) ∙ ap (λ sig. now rank ++ asked_at comm sig [] ∷ []) same)
                ∙ (sym next.same ∙ left.whole_is rank);
          });
    }

module _ (g : Setting) (groups : AreGroups g) (s u : State) (now whole : Requests) (ts : Tickets) (count : Tally)
    (h : Good g s now ts count) (rank : ℕ) (t : Ticket) (comm place : ℕ) (sig : Signature) (bytes : List ℕ) (plan : Planned)
    (es : List Entry) (same : plan.sig ≡ sig) (i : Posts g s rank t comm place plan bytes u)
    (left : Left ts (Posted rank t comm place sig bytes ∷ es) now whole) where
  abbrev q : Request
  q = new_request rank comm i.member place Once

  abbrev x : Asked
  x = asked_at comm plan.sig []

  abbrev now1 : Requests
  now1 = put now rank (now rank ++ x ∷ [])

  abbrev ts1 : Tickets
  ts1 = put ts rank (ts rank ++ t ∷ [])

  abbrev now2 : Requests
  now2 = put now1 rank (changed_at (length (now rank)) (one_more bytes) (now1 rank))

  good1 : Good g (created s t q plan.sig) now1 ts1 count
  good1 = good_created g groups s now ts count h rank comm i.member place Once t plan.sig i.member_is i.place_is i.new

  named1 : slice_get (ts1 rank) (length (now rank)) ≡ Some t
  named1 = ap (λ (l : List Ticket). slice_get l (length (now rank))) (put_same ts rank (ts rank ++ t ∷ []))
      ∙ (ap (slice_get (ts rank ++ t ∷ [])) (sym (h.stands.even rank)) ∙ get_pushed (ts rank) t)

  now2_is : now2 rank ≡ now rank ++ asked_at comm plan.sig (bytes ∷ []) ∷ []
  now2_is = put_same now1 rank (changed_at (length (now rank)) (one_more bytes) (now1 rank))
      ∙ (ap (λ (l : List Asked). changed_at (length (now rank)) (one_more bytes) l) (put_same now rank (now rank ++ x ∷ []))
      ∙ changed_last (one_more bytes) (now rank) x)

  next : NextPost (ts rank) t (asked_at comm sig (bytes ∷ [])) (posts_of rank es) (now rank) (left.rest rank)
  next = next_post (ts rank) rank t comm place sig bytes (posts_of rank es) (now rank) (left.rest rank)
      (subst (λ (l : List Entry). Says (ts rank) (left.rest rank) l)
      (chosen rank rank (Posted rank t comm place sig bytes ∷ posts_of rank es) (posts_of rank es) refl) (left.says rank))

  pub after_post : After g u es whole count
  after_post = record {
    now = now2;
    ts = ts1;
    good = good_at g (started (created s t q plan.sig) t.slot q bytes) u now2 ts1 count i.leaves
        (good_started g groups (created s t q plan.sig) now1 ts1 count good1 t q bytes
        (put_same s.generation t.slot t.generation) (put_same s.request t.slot (Some q)) i.member_is refl (length (now rank)) named1);
    left = left_own ts ts1 (Posted rank t comm place sig bytes) es now now2 whole rank left
        (λ r d. passed rank r (Posted rank t comm place sig bytes ∷ posts_of r es) (posts_of r es) d) (λ r d. put_other ts rank (ts rank ++ t ∷ []) r d)
        (λ r d. put_other now1 rank (changed_at (length (now rank)) (one_more bytes) (now1 rank)) r d ∙ put_other now rank (now rank ++ x ∷ []) r d) (record {
          rest = next.rest;
          says = subst (λ (l : List Ticket). Says l next.rest (posts_of rank es)) (sym (put_same ts rank (ts rank ++ t ∷ []))) next.says;
          whole_is = ap (λ (l : List Asked). asked_from l next.rest) (now2_is ∙ ap (λ sig. now rank ++ asked_at comm sig (bytes ∷ []) ∷ []) same)
              ∙ (sym next.same ∙ left.whole_is rank);
        });
  }

after_start : (g : Setting) (groups : AreGroups g) (s u : State) (now whole : Requests) (ts : Tickets) (count : Tally)
    → Good g s now ts count → ArePosted g s → (rank : ℕ) (t : Ticket) (start : ℕ) (bytes : List ℕ) (es : List Entry)
    → Starts g s rank t start bytes u → Left ts (Started rank t start bytes ∷ es) now whole → After g u es whole count
after_start g groups s u now whole ts count h posted rank t start bytes es i left =
    let next = next_start (ts rank) rank t start bytes (posts_of rank es) (now rank) (left.rest rank)
    (subst (λ (l : List Entry). Says (ts rank) (left.rest rank) l) (chosen rank rank _ _ refl) (left.says rank)) in
    let found = found_is s t i.request i.is in
    let mine = started_mine g s rank t bytes i.request i.is i.accepted in
    let now1 : Requests = put now i.request.rank (changed_at next.number (one_more bytes) (now i.request.rank)) in
    record {
      now = now1;
      ts = ts;
      good = good_at g _ u _ _ count i.leaves
          (good_started g groups s now ts count h t i.request bytes found.0 found.1
          (posted.posted t.slot i.request found.1).member_is mine.idle next.number (ap (λ r. slice_get (ts r) next.number) mine.rank_is ∙ next.named));
      left = left_own ts ts (Started rank t start bytes) es now now1 whole rank left (λ r d. passed rank r _ _ d) (λ r d. refl)
          (λ r d. put_other now i.request.rank _ r (λ e. d (e ∙ mine.rank_is))) (record {
            rest = next.rest;
            says = next.says;
            whole_is = ap (λ (l : List Asked). asked_from l next.rest)
                (put_at now i.request.rank _ rank (sym mine.rank_is) ∙ ap (λ r. changed_at next.number (one_more bytes) (now r)) mine.rank_is)
                ∙ (sym next.same ∙ left.whole_is rank);
          });
    }

after_free : (g : Setting) (s u : State) (now whole : Requests) (ts : Tickets) (count : Tally) → Good g s now ts count
    → ArePosted g s → (rank : ℕ) (t : Ticket) (es : List Entry) → Frees g s rank t u → Left ts (Freed rank t ∷ es) now whole → After g u es whole count
after_free g s u now whole ts count h posted rank t es i left =
    let f = freed_mine g s rank t i.accepted in
    record {
      now = now;
      ts = ts;
      good = good_at g (holding s t.slot None) u now ts count i.leaves (record {
        stands = stands_holding g s now ts t.slot None h.stands (λ p e. absurd (none-some p e));
        fair = λ r c p n. fair_freed g s now ts h.stands posted t.slot f.request None f.is (λ p e. absurd (none-some p e))
            f.idle_of.idle r (count r c p n) c p n (h.fair r c p n);
      });
      left = record { rest = left.rest; says = left.says; whole_is = left.whole_is };
    }

-- a completion counts
abbrev pub counted : Tally → Entry → Tally
counted count e r c p n = count r c p n + cond (retires r c p n e) 1 0

rests : (mode : Mode) (q p : Request) → rested_by mode q ≡ Some p → p.active ≡ false
rests Once q p e = absurd (none-some p e)
rests Persistent q p e = ap (λ (p : Request). p.active) (sym (same_Some _ p e))

module _ (g : Setting) (s u : State) (now whole : Requests) (ts : Tickets) (count : Tally) (h : Good g s now ts count)
    (posted : ArePosted g s) (rank : ℕ) (t : Ticket) (comm place start : ℕ) (bytes : List ℕ) (es : List Entry)
    (i : Retires g s rank t comm place start bytes u) (left : Left ts (Retired rank t comm place start bytes ∷ es) now whole) where
  abbrev by : Request
  by = i.request

  here : s.request t.slot ≡ Some by
  here = (found_is s t by i.is).1

  mine : by.rank ≡ rank
  mine = retired_mine g s rank t by i.is i.accepted

  abbrev one : Tally
  one = counted count (Retired rank t comm place start bytes)

  yes_same : (r c p n : ℕ) → retires r c p n (Retired rank t comm place start bytes) ≡ true → IsSame by start r c p n
  yes_same r c p n e =
      let a = and_parts (eqb rank r) (eqb comm c && (eqb place p && eqb start n)) e in
      let b = and_parts (eqb comm c) (eqb place p && eqb start n) a.1 in
      let d = and_parts (eqb place p) (eqb start n) b.1 in
      record {
        rank_is = mine ∙ eqb-true rank r a.0;
        comm_is = i.comm_is ∙ eqb-true comm c b.0;
        place_is =
            i.place_is ∙ eqb-true place p d.0;
        start_is = eqb-true start n d.1;
      }

  no_other : (r c p n : ℕ) → retires r c p n (Retired rank t comm place start bytes) ≡ false → IsSame by start r c p n → ⊥
  no_other r c p n e same =
      false≢true (sym e ∙ and_from (eqb rank r) (eqb comm c && (eqb place p && eqb start n))
      (eq-eqb rank r (sym mine ∙ same.rank_is))
      (and_from (eqb comm c) (eqb place p && eqb start n) (eq-eqb comm c (sym i.comm_is ∙ same.comm_is))
      (and_from (eqb place p) (eqb start n) (eq-eqb place p (sym i.place_is ∙ same.place_is)) (eq-eqb start n same.start_is))))

  held : Good g (holding s t.slot (rested by)) now ts one
  held = record {
    stands = stands_holding g s now ts t.slot (rested by) h.stands (known_rested g now ts t.slot (s.generation t.slot) by (h.stands.known t.slot by here));
    fair = λ r c p n. fair_retired g s now ts h.stands posted t.slot by (rested by) here (rests by.mode by) start i.ready.active
        i.ready.start_is r (count r c p n) c p n (retires r c p n (Retired rank t comm place start bytes)) (yes_same r c p n)
        (no_other r c p n) (h.fair r c p n);
  }

  cleared : Clears g (holding s t.slot (rested by)) (key_of by start) u → Good g u now ts one
  cleared (inl a) =
      good_at g (forgotten (holding s t.slot (rested by)) (key_of by start)) u now ts one a.1
      (record { stands = stands_forgotten g (holding s t.slot (rested by)) now ts (key_of by start) held.stands; fair = held.fair })
  cleared (inr a) = good_at g (holding s t.slot (rested by)) u now ts one a.1 held

  pub after_retire : After g u es whole (counted count (Retired rank t comm place start bytes))
  after_retire = record {
    now = now;
    ts = ts;
    good = cleared i.leaves;
    left = record { rest = left.rest; says = left.says; whole_is = left.whole_is };
  }

-- ---- a whole trace

pub record Ends (g : Setting) (u : State) (whole : Requests) (es : List Entry) (count : Tally) : Type 0 where
  pub now : Requests
  pub ts : Tickets
  pub last : Tally
  pub good : Good g u now ts last
  pub now_is : (r : ℕ) → now r ≡ whole r
  pub counts : (r c p n : ℕ) → last r c p n ≡ count r c p n + count_by (retires r c p n) es
  pub values : AllByRecursion (HasValue g whole) es

pub count_next : (p : Entry → Bool) (e : Entry) (es : List Entry) → count_by p (e ∷ es) ≡ cond (p e) 1 0 + count_by p es
count_next p e es = sum_by-cons (λ x. cond (p x) 1 0) e es

-- one entry that completes nothing
silent : (g : Setting) (u : State) (whole : Requests) (e : Entry) (es : List Entry) (count : Tally) → HasValue g whole e
    → ((r c p n : ℕ) → retires r c p n e ≡ false) → Ends g u whole es count → Ends g u whole (e ∷ es) count
silent g u whole e es count right none h = record {
  now = h.now;
  ts = h.ts;
  last = h.last;
  good = h.good;
  now_is = h.now_is;
  counts = λ r c p n. (let f : h.last r c p n ≡ count r c p n + count_by (retires r c p n) es =
      h.counts r c p n in let z : cond (retires r c p n e) 1 0 ≡ 0 =
      ap {B = ℕ} (λ t. cond t 1 0) (none r c p n) in omega (arith, count_next (retires r c p n) e es));
  values = (right, h.values);
}

module _ (g : Setting) (groups : AreGroups g) (whole : Requests) where
  pub run : (es : List Entry) (s u : State) (now : Requests) (ts : Tickets) (count : Tally) → Leads g s es u
      → Good g s now ts count → ArePosted g s → Left ts es now whole → Ends g u whole es count
  run [] s u now ts count l h posted left = record {
    now = now;
    ts = ts;
    last = count;
    good = subst (λ (s : State). Good g s now ts count) l h;
    now_is = λ r. sym (says_end (ts r) (left.rest r) (now r) (left.says r)) ∙ left.whole_is r;
    counts = λ r c p n. omega arith;
    values = tt;
  }
  run (Posted rank t comm place sig bytes ∷ es) s u now ts count l h posted left =
      let a = after_post g groups s l.0 now whole ts count h rank t comm place sig bytes l.1.0 es l.1.1 l.1.2 left in
      silent g u whole (Posted rank t comm place sig bytes) es count tt (λ r c p n. refl)
      (run es l.0 u a.now a.ts count l.2 a.good (are_entered g s l.0 (Posted rank t comm place sig bytes) posted l.1) a.left)
  run (Inited rank t comm place sig ∷ es) s u now ts count l h posted left =
      let a = after_init g groups s l.0 now whole ts count h rank t comm place sig l.1.0 es l.1.1 l.1.2 left in
      silent g u whole (Inited rank t comm place sig) es count tt (λ r c p n. refl)
      (run es l.0 u a.now a.ts count l.2 a.good (are_entered g s l.0 (Inited rank t comm place sig) posted l.1) a.left)
  run (Started rank t start bytes ∷ es) s u now ts count l h posted left =
      let a = after_start g groups s l.0 now whole ts count h posted rank t start bytes es l.1 left in
      silent g u whole (Started rank t start bytes) es count tt (λ r c p n. refl)
      (run es l.0 u a.now a.ts count l.2 a.good (are_entered g s l.0 (Started rank t start bytes) posted l.1) a.left)
  run (Retired rank t comm place start bytes ∷ es) s u now ts count l h posted left =
      let a = after_retire g s l.0 now whole ts count h posted rank t comm place start bytes es l.1 left in
      let e = run es l.0 u a.now a.ts (counted count (Retired rank t comm place start bytes)) l.2 a.good
      (are_entered g s l.0 (Retired rank t comm place start bytes) posted l.1) a.left in
      record {
        now = e.now;
        ts = e.ts;
        last = e.last;
        good = e.good;
        now_is = e.now_is;
        counts = λ r c p n. (let f : e.last r c p n
            ≡ count r c p n + cond (retires r c p n (Retired rank t comm place start bytes)) 1 0 + count_by (retires r c p n) es =
            e.counts r c p n in omega (arith, count_next (retires r c p n) (Retired rank t comm place start bytes) es));
        values = (told l.1, e.values);
      }
    where
      grows : (r : ℕ) → Grows (now r) (whole r)
      grows r = subst (λ (l : List Asked). Grows (now r) l) (left.whole_is r) (grows_asked (left.rest r) (now r))

      told : Retires g s rank t comm place start bytes l.0 → bytes ≡ outcome g whole rank (record { comm = comm; place = place; start = start })
      told i =
          let here = (found_is s t i.request i.is).1 in
          let mine = retired_mine g s rank t i.request i.is i.accepted in
          i.bytes_is ∙ (ap (λ c. value i.sig (filled i.sig (size g c) (s.given (key_of i.request start))) i.request.member) (sym i.comm_is)
          ∙ (value_is g s now whole ts h.stands posted grows t.slot start i.request i.sig here i.ready.sig_is i.ready.needed
          ∙ (λ z. outcome g whole (mine z) (record { comm = i.comm_is z; place = i.place_is z; start = start }))))
  run (Freed rank t ∷ es) s u now ts count l h posted left =
      let a = after_free g s l.0 now whole ts count h posted rank t es l.1 left in
      silent g u whole (Freed rank t) es count tt (λ r c p n. refl)
      (run es l.0 u a.now a.ts count l.2 a.good (are_entered g s l.0 (Freed rank t) posted l.1) a.left)
