-- Room that is made changes nothing that the tables show.
use Rattle.std.proofs.Common.{◌≡◌, ◌∙◌, inl, inr, ◌==◌, ◌&&◌, ℕ, true, cond, Option, Some, None, unwrap_or, Result, Ok, Err, ap, refl, sym, subst, arith}
use Rattle.std.specs.Prelude.{OnOk, OnErr}
use Rattle.std.proofs.lemmas.Bool.Decides.{nat_tests}
use Rattle.coll_arena.specs.Slots.{count}
use Rattle.coll_kinds.specs.declared.refusal.Refusal.{Refusal}
use Rattle.coll_machine.specs.Common.{Setting, size, put_key, same_key}
use Rattle.coll_machine.specs.declared.key.Key.{Key}
use Rattle.coll_match.specs.Instances.{LookUps, given, look_ups, mail, members, roomed, seats}
use Rattle.coll_match.specs.Instances as instances
use Rattle.coll_queues.specs.Postings.{Postings}
use Rattle.coll_refinement.specs.Cores as tabled
use Rattle.coll_refinement.proofs.engine.Changes.{HasMade}
use Rattle.coll_refinement.specs.Shown.{Instances}
use Rattle.coll_refinement.specs.Shown as tabled_parts
use Rattle.coll_refinement.proofs.engine.Completions.{room_core}
use Rattle.coll_core.specs.Requests.{shown}
use Rattle.coll_core.specs.Cores.{Parts, IsCore, setting, tables, Unchanged}

abbrev pub with_room : Parts → Postings → Instances → Parts
with_room p r n = record {
  ranks = p.ranks;
  starts = p.starts;
  trace = p.trace;
  arena = p.arena;
  queues = r;
  matches = n;
}

pub unchanged_from : (p q r : Parts) → p ≡ q → Unchanged p r → Unchanged q r
unchanged_from p q r e u = subst (λ (x : Parts). Unchanged x r) e u

module _ (p : Parts) (r : Postings) (n : Instances) (k : Key) (core : IsCore p)
    (made : HasMade p.queues r p.matches n k (size (setting p) k.comm)) where
  setting_same : setting (with_room p r n) ≡ setting p
  setting_same = λ i. record {
    ranks = p.ranks;
    groups = made.groups i;
    slots = count p.arena;
    places = made.places i;
    wear = p.arena.wear;
    starts = p.starts;
    trace = p.trace;
  }

  pub room_kept : IsCore (with_room p r n)
  room_kept =
      subst (λ (g : Setting). tabled.IsCore shown g p.arena r n) (sym setting_same)
      (room_core shown (setting p) p.arena p.queues r p.matches n k core made).0

  tables_same : tables (with_room p r n) ≡ tables p
  tables_same =
      ap (λ (g : Setting). tabled_parts.tables shown g p.arena r n) setting_same
      ∙ (room_core shown (setting p) p.arena p.queues r p.matches n k core made).1

  pub room_unchanged : Unchanged p (with_room p r n)
  room_unchanged = record { setting_is = setting_same; tables_is = tables_same; arena_is = refl }

-- ---- room for an instance

pub made_by : {T : Type 0} (res : Result T Refusal) (q : Postings) (m n : Instances) (k : Key) (size : ℕ)
    → OnOk res (look_ups n ≡ roomed (look_ups m) k size) → OnErr res (n ≡ m)
    → HasMade q q m n k size
made_by (Ok x) q m n k size a e = record {
  groups = refl;
  places = refl;
  posted = refl;
  members = inr (ap (λ (s : LookUps). s.members) a);
  given = ap (λ (s : LookUps). s.given) a;
  seats = ap (λ (s : LookUps). s.seats) a;
  mail = ap (λ (s : LookUps). s.mail) a;
}
made_by (Err why) q m n k size a e = record {
  groups = refl;
  places = refl;
  posted = refl;
  members = inl (ap members e);
  given = ap given e;
  seats = ap seats e;
  mail = ap mail e;
}

same_number : (x : ℕ) → (x == x) ≡ true
same_number x = grind (arith, nat_tests)

own_key : (k : Key) → same_key k k ≡ true
own_key k =
    ap (λ t. t && ((k.place == k.place) && (k.start == k.start))) (same_number k.comm)
    ∙ (ap (λ t. t && (k.start == k.start)) (same_number k.place) ∙ same_number k.start)

pub at_own_key : {X : Type 0} (f : Key → X) (k : Key) (x : X) → put_key f k x k ≡ x
at_own_key f k x = ap (λ t. cond t x (f k)) (own_key k)

held : (o : Option ℕ) (size : ℕ) → ((n : ℕ) → o ≡ Some n → n ≡ size) → unwrap_or o size ≡ size
held None size h = refl
held (Some n) size h = h n refl

pub roomy : {T : Type 0} (res : Result T Refusal) (m n : Instances) (k : Key) (size : ℕ)
    → ((j : ℕ) → members m k ≡ Some j → j ≡ size)
    → OnOk res (look_ups n ≡ roomed (look_ups m) k size)
    → OnOk res (size ≡ instances.size n k)
roomy (Ok x) m n k size h e =
    sym (ap (λ (s : LookUps). unwrap_or (s.members k) 0) e
    ∙ (ap (λ o. unwrap_or o 0) (at_own_key (members m) k (Some (unwrap_or (members m k) size)))
    ∙ held (members m k) size h))
roomy (Err why) m n k size h e = tt
