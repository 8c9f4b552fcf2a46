-- What it means that a place or a start is missing.
use Rattle.std.proofs.Common.{◌≡◌, ◌≢◌, ℕ, suc, ◌<◌, ◌≤◌, Bool, true, false, cond, ◌&&◌, eqb, List, [], ◌∷◌, length, get_or, Option, Some, None, Ok}
use Rattle.std.proofs.Common.{Err, refl, subst, sym, ◌∙◌, arith, inl, inr}
use Rattle.std.specs.Prelude.{slice_get}
use Rattle.std.specs.List.{list_all}
use Rattle.std.proofs.lemmas.Bool.{cases_lt, eqb-true, eq-eqb}
use Rattle.std.proofs.lemmas.Option.{none-some, slice_get-get_or, slice_get_within}
use Rattle.coll_parser.specs.declared.cause.Cause.{Cause}
use Rattle.coll_parser.specs.Judging.{fault_at}
use Rattle.coll_parser.specs.declared.cause.Cause.TheVariants.{PlaceMismatch, PlaceMissing, StartMissing}
use Rattle.coll_parser.specs.declared.fault.Fault.{Fault}
use Rattle.coll_parser.specs.Histories.{History}
use Rattle.coll_parser.specs.Requests.{Request}
use Rattle.coll_script.specs.Matching.{mismatch, first_list, have_places, started_alike, have_starts}
use Rattle.coll_script.specs.Jobs.{job_of, all_postings, matched, belonging}
use Rattle.coll_script.specs.Belonging.{LacksPlace, LacksStart, SaysOf, Belong}
use Rattle.coll_script.proofs.Matches.{list_all-at, starts-same}
use Rattle.coll_script.proofs.Differing.{none-differs, first-differs}

record FailsAt (X : Type 0) (p : X → Bool) (xs : List X) : Type 0 where
  pub at : ℕ
  pub x : X
  pub is : slice_get xs at ≡ Some x
  pub fails : p x ≡ false

list_all-fails : {X : Type 0} (p : X → Bool) (xs : List X) → list_all p xs ≡ false → FailsAt X p xs
list_all-fails p [] e = absurd cc
list_all-fails {X} p (x ∷ xs) e = turn (p x) refl (list_all-fails p xs) e
  where
    turn : (b : Bool) → p x ≡ b → (list_all p xs ≡ false → FailsAt X p xs) → (b && list_all p xs) ≡ false → FailsAt X p (x ∷ xs)
    turn true here rest e = (let found = rest e in record { at = suc found.at; x = found.x; is = found.is; fails = found.fails })
    turn false here rest e = record { at = 0; x = x; is = refl; fails = here }

some-list : (lists : List (List Request)) (m : ℕ) (list : List Request) → slice_get lists m ≡ Some list → slice_get lists 0 ≡ Some (first_list lists)
some-list [] m list is = absurd (none-some list is)
some-list (first ∷ lists) m list is = refl

-- ---- places

length-member : (all : List (List (List Request))) (comm : ℕ) (lists : List (List Request)) (m : ℕ) (list : List Request)
    → list_all have_places all ≡ true → slice_get all comm ≡ Some lists → slice_get lists m ≡ Some list
    → length list ≡ length (first_list lists)
length-member all comm lists m list e is at =
    eqb-true (length list) (length (first_list lists))
    (list_all-at (λ (l : List Request). eqb (length l) (length (first_list lists))) lists m list (list_all-at have_places all comm lists e is) at)

no-place-lacks : (all : List (List (List Request))) → list_all have_places all ≡ true → LacksPlace all → ⊥
no-place-lacks all e lacks =
    let them = lacks.members in
    let one = length-member all them.comm them.lists them.member lacks.one e them.is_comm them.is_one in
    let other = length-member all them.comm them.lists them.peer lacks.other e them.is_comm them.is_other in
    let has = lacks.has in
    let past = lacks.lacks in
    omega (arith, one, other, has, past)

place-lacks : (all : List (List (List Request))) → list_all have_places all ≡ false → LacksPlace all
place-lacks all e =
    let comm = list_all-fails have_places all e in
    let lists = comm.x in
    let member = list_all-fails (λ (l : List Request). eqb (length l) (length (first_list lists))) lists comm.fails in
    let list = member.x in
    let first = some-list lists member.at list member.is in
    let differ : length list ≡ length (first_list lists)
    → ⊥ = λ same. (let yes : eqb (length list) (length (first_list lists)) ≡ true = eq-eqb (length list) (length (first_list lists)) same in
    let no : true ≡ false = sym yes ∙ member.fails in absurd cc) in
    elim (cases_lt (length list) (length (first_list lists))) [
      | inl lt ↦ record {
        one = first_list lists;
        other = list;
        members = record { comm = comm.at; lists = lists; is_comm = comm.is; member = 0; is_one = first; peer = member.at; is_other = member.is };
        place = length list;
        has = lt;
        lacks = omega arith;
      }
      | inr le ↦ record {
        one = list;
        other = first_list lists;
        members = record { comm = comm.at; lists = lists; is_comm = comm.is; member = member.at; is_one = member.is; peer = 0; is_other = first };
        place = length (first_list lists);
        has = longer (length list) (length (first_list lists)) le differ;
        lacks = omega arith;
      }
    ]
  where
    longer : (a b : ℕ) → b ≤ a → (a ≡ b → ⊥) → b < a
    longer a b le ne = elim (cases_lt b a) [ inl lt ↦ lt | inr ge ↦ absurd (ne (omega (arith, le, ge))) ]

-- ---- starts

record StartsDiffer (first list : List Request) : Type 0 where
  pub at : ℕ
  pub p : Request
  pub q : Request
  pub is_first : slice_get first at ≡ Some p
  pub is_other : slice_get list at ≡ Some q
  pub differs : length p.starts ≢ length q.starts

starts-differ : (first list : List Request) → started_alike first list ≡ false → StartsDiffer first list
starts-differ [] list e = absurd cc
starts-differ (p ∷ first) [] e = absurd cc
starts-differ (p ∷ first) (q ∷ list) e = turn (eqb (length q.starts) (length p.starts)) refl (starts-differ first list) e
  where
    turn : (b : Bool) → eqb (length q.starts) (length p.starts) ≡ b
        → (started_alike first list ≡ false → StartsDiffer first list) → (b && started_alike first list) ≡ false → StartsDiffer (p ∷ first) (q ∷ list)
    turn true here rest e =
        (let found =
        rest e in record { at = suc found.at; p = found.p; q = found.q; is_first = found.is_first; is_other = found.is_other; differs = found.differs })
    turn false here rest e = record {
      at = 0;
      p = p;
      q = q;
      is_first = refl;
      is_other = refl;
      differs = λ same. (let yes : eqb (length q.starts) (length p.starts) ≡ true = eq-eqb (length q.starts) (length p.starts) (sym same) in
          let no : true ≡ false = sym yes ∙ here in absurd cc);
    }

start-lacks : (all : List (List (List Request))) → list_all have_starts all ≡ false → LacksStart all
start-lacks all e =
    let comm = list_all-fails have_starts all e in
    let member = list_all-fails (started_alike (first_list comm.x)) comm.x comm.fails in
    let it = starts-differ (first_list comm.x) member.x member.fails in
    record {
      one = first_list comm.x;
      other = member.x;
      members = record {
        comm = comm.at;
        lists = comm.x;
        is_comm = comm.is;
        member = 0;
        is_one =
            some-list comm.x member.at member.x member.is;
        peer = member.at;
        is_other = member.is;
      };
      place = it.at;
      p = it.p;
      q = it.q;
      is_one = it.is_first;
      is_other = it.is_other;
      differs = it.differs;
    }

no-start-lacks : (all : List (List (List Request))) → list_all have_places all ≡ true → list_all have_starts all ≡ true → LacksStart all → ⊥
no-start-lacks all places starts lacks =
    let them = lacks.members in
    let first = first_list them.lists in
    let alike : (m : ℕ) (list : List Request) → slice_get them.lists m ≡ Some list → started_alike first list ≡ true =
    λ m list is. list_all-at (started_alike first) them.lists m list (list_all-at have_starts all them.comm them.lists starts them.is_comm) is in
    let below = slice_get_within lacks.one lacks.place lacks.p lacks.is_one in
    let long = length-member all them.comm them.lists them.member lacks.one places them.is_comm them.is_one in
    let there : slice_get first lacks.place ≡ Some (get_or first lacks.place lacks.p) =
    slice_get-get_or first lacks.place lacks.p (omega (arith, below, long)) in
    let one = starts-same first lacks.one lacks.place (get_or first lacks.place lacks.p) lacks.p (alike them.member lacks.one them.is_one) there lacks.is_one in
    let other = starts-same first lacks.other lacks.place (get_or first lacks.place lacks.p) lacks.q
    (alike them.peer lacks.other them.is_other) there lacks.is_other in
    lacks.differs (one ∙ sym other)

-- ---- what is judged after the last line

says-same : (all : List (List (List Request))) (last line : ℕ) (cause : Cause) (fault : Fault) → SaysOf all last line cause
    → fault_at {A = History} line cause ≡ Err fault → SaysOf all last fault.line fault.cause
says-same all last line cause fault says e =
    let f : Fault = record { line = line; cause = cause } in
    let same : f ≡ fault = cc in
    subst (λ (g : Fault). SaysOf all last g.line g.cause) same says

lacking : (last : ℕ) (all : List (List (List Request))) (h : History) (places starts : Bool) (fault : Fault)
    → list_all have_places all ≡ places → list_all have_starts all ≡ starts → mismatch all ≡ None
    → cond places (cond starts (Ok h) (fault_at last StartMissing)) (fault_at last PlaceMissing) ≡ Err fault → SaysOf all last fault.line fault.cause
lacking last all h true true fault has begun none e = absurd cc
lacking last all h true false fault has begun none e =
    says-same all last last StartMissing fault (refl, none-differs all none, no-place-lacks all has, start-lacks all begun) e
lacking last all h false starts fault has begun none e = says-same all last last PlaceMissing fault (refl, none-differs all none, place-lacks all has) e

says-of : (last : ℕ) (all : List (List (List Request))) (h : History) (found : Option ℕ) (fault : Fault) → mismatch all ≡ found
    → matched last all h found ≡ Err fault → SaysOf all last fault.line fault.cause
says-of last all h (Some line) fault is e = says-same all last line PlaceMismatch fault (first-differs all line is) e
says-of last all h None fault is e = lacking last all h (list_all have_places all) (list_all have_starts all) fault refl refl is e

pub fault-says : (last : ℕ) (h : History) (fault : Fault) → belonging last h ≡ Err fault → SaysOf (all_postings (job_of h)) last fault.line fault.cause
fault-says last h fault e = says-of last (all_postings (job_of h)) h (mismatch (all_postings (job_of h))) fault refl e

whole : (last : ℕ) (all : List (List (List Request))) (h made : History) (places starts : Bool)
    → list_all have_places all ≡ places → list_all have_starts all ≡ starts → mismatch all ≡ None
    → cond places (cond starts (Ok h) (fault_at last StartMissing)) (fault_at last PlaceMissing) ≡ Ok made → Belong all
whole last all h made true true has begun none e =
    record { alike = none-differs all none; whole = no-place-lacks all has; started = no-start-lacks all has begun }
whole last all h made true false has begun none e = absurd cc
whole last all h made false starts has begun none e = absurd cc

belong-of : (last : ℕ) (all : List (List (List Request))) (h made : History) (found : Option ℕ) → mismatch all ≡ found
    → matched last all h found ≡ Ok made → Belong all
belong-of last all h made (Some line) is e = absurd cc
belong-of last all h made None is e = whole last all h made (list_all have_places all) (list_all have_starts all) refl refl is e

pub script-belongs : (last : ℕ) (h made : History) → belonging last h ≡ Ok made → Belong (all_postings (job_of h))
script-belongs last h made e = belong-of last (all_postings (job_of h)) h made (mismatch (all_postings (job_of h))) refl e
