-- What a plan is tested for, in order: its member's refusals, its own, those of the posting list; then its bytes and
-- whether a slot is free.
use Rattle.std.proofs.Common.{◌≡◌, ◌≢◌, ◌∙◌, ◌++◌, ◌==◌, ℕ, Bool, true, false, List, [], ◌∷◌, length, unwrap_or, Option, Some, None, nat_lt, ap, refl}
use Rattle.std.proofs.Common.{sym, arith}
use Rattle.std.specs.Option.{option_or}
use Rattle.std.proofs.lemmas.Bool.Decides.{nat_tests}
use Rattle.coll_arena.specs.Slots.{Slots}
use Rattle.coll_arena.specs.Sound.{IsSound as IsArena}
use Rattle.coll_lists.specs.Layouts.{sequence}
use Rattle.coll_kinds.specs.declared.kind.Mode.{Mode}
use Rattle.coll_kinds.specs.declared.kind.Mode.TheVariants.{Once, Persistent}
use Rattle.coll_kinds.specs.declared.signature.Signature.{Signature}
use Rattle.coll_kinds.specs.declared.refusal.Refusal.{Refusal}
use Rattle.coll_kinds.specs.declared.refusal.Refusal.TheVariants.{BadLength, Full}
use Rattle.coll_kinds.specs.Lengths.{given_len}
use Rattle.coll_machine.specs.Common.{Planned, Post, Init, first_of, unless, wrong_length, plan_refusals}
use Rattle.coll_queues.specs.Postings.{Postings, member_of, number_of, size}
use Rattle.coll_queues.specs.Refusing.{judge_refusal, member_refusal}
use Rattle.coll_refinement.specs.Engines.{entry_refusals}
use Rattle.coll_refinement.proofs.engine.Statements.{full_refusal}
use Rattle.coll_refinement.proofs.engine.Tests.{init_refused, post_refused}
use Rattle.coll_core.specs.declared.request.Request.{Request}
use Rattle.coll_core.specs.Requests.{shown}
use Rattle.coll_core.specs.Cores.{Parts, IsCore, setting}
use Rattle.coll_core.specs.Posts.{refused_in}

-- ---- the first of several conditions

by_none : (a b : Option Refusal) → a ≡ None → option_or a b ≡ b
by_none a b e = ap (λ o. option_or o b) e

option_or-none : (a : Option Refusal) → option_or a None ≡ a
option_or-none None = refl
option_or-none (Some x) = refl

option_or-assoc : (a b c : Option Refusal) → option_or a (option_or b c) ≡ option_or (option_or a b) c
option_or-assoc None b c = refl
option_or-assoc (Some x) b c = refl

first_of-append : (xs ys : List (Option Refusal)) → first_of (xs ++ ys) ≡ option_or (first_of xs) (first_of ys)
first_of-append [] ys = refl
first_of-append (x ∷ xs) ys = ap (option_or x) (first_of-append xs ys) ∙ option_or-assoc x (first_of xs) (first_of ys)

-- ---- of a plan

-- what the posting lists tell of a rank that is a member
pub record IsMember (q : Postings) (rank comm member n : ℕ) : Type 0 where
  pub member_is : member_of q comm rank ≡ Some member
  pub unrefused : member_refusal q comm rank ≡ None
  pub size_is : n ≡ size q comm

module _ (q : Postings) (rank comm member n : ℕ) (mode : Mode) (plan : Planned) (m : IsMember q rank comm member n) where
  plans_same : first_of (plan_refusals plan (size q comm) (number_of q comm rank) mode)
      ≡ first_of (plan_refusals plan n member mode)
  plans_same =
      ap (λ k. first_of (plan_refusals plan k (number_of q comm rank) mode)) (sym m.size_is)
      ∙ ap (λ o. first_of (plan_refusals plan n (unwrap_or o 0) mode)) m.member_is

  entry_is : first_of (entry_refusals q rank comm mode plan)
      ≡ option_or (first_of (plan_refusals plan n member mode)) (first_of (judge_refusal q comm rank plan.sig ∷ []))
  entry_is =
      by_none (member_refusal q comm rank)
      (first_of (plan_refusals plan (size q comm) (number_of q comm rank) mode ++ judge_refusal q comm rank plan.sig ∷ [])) m.unrefused
      ∙ (first_of-append (plan_refusals plan (size q comm) (number_of q comm rank) mode) (judge_refusal q comm rank plan.sig ∷ [])
      ∙ ap (λ o. option_or o (first_of (judge_refusal q comm rank plan.sig ∷ []))) plans_same)

  pub entry_misfits : (why : Refusal) → first_of (plan_refusals plan n member mode) ≡ Some why
      → first_of (entry_refusals q rank comm mode plan) ≡ Some why
  entry_misfits why e = entry_is ∙ ap (λ o. option_or o (first_of (judge_refusal q comm rank plan.sig ∷ []))) e

  pub entry_fits : first_of (plan_refusals plan n member mode) ≡ None
      → first_of (entry_refusals q rank comm mode plan) ≡ judge_refusal q comm rank plan.sig
  entry_fits e =
      entry_is ∙ (ap (λ o. option_or o (first_of (judge_refusal q comm rank plan.sig ∷ []))) e
      ∙ option_or-none (judge_refusal q comm rank plan.sig))

pub judge_moved : (q r : Postings) (rank comm : ℕ) (a b : Signature) → q ≡ r → a ≡ b
    → judge_refusal q comm rank a ≡ judge_refusal r comm rank b
judge_moved q r rank comm a b e f =
    ap (λ (x : Postings). judge_refusal x comm rank a) e ∙ ap (λ (x : Signature). judge_refusal r comm rank x) f

-- ---- of a post and an initialisation

abbrev pub post_tests : Postings → Slots Request → ℕ → ℕ → Planned → List ℕ → List (Option Refusal)
post_tests q a rank comm plan bytes =
    entry_refusals q rank comm Once plan ++ wrong_length plan.sig plan.n plan.member bytes ∷ full_refusal a ∷ []

abbrev pub init_tests : Postings → Slots Request → ℕ → ℕ → Planned → List (Option Refusal)
init_tests q a rank comm plan = entry_refusals q rank comm Persistent plan ++ full_refusal a ∷ []

pub post_tested : (p0 p : Parts) (rank comm : ℕ) (plan : Planned) (bytes : List ℕ) → p0 ≡ p → IsCore p0
    → IsArena p0.arena
    → refused_in p (Post rank comm plan bytes) ≡ first_of (post_tests p.queues p0.arena rank comm plan bytes)
post_tested p0 p rank comm plan bytes e core sound =
    sym (ap (λ (x : Parts). refused_in x (Post rank comm plan bytes)) e)
    ∙ (post_refused shown (setting p0) p0.arena p0.queues p0.matches rank comm plan bytes core sound
    ∙ ap (λ (x : Parts). first_of (post_tests x.queues p0.arena rank comm plan bytes)) e)

pub init_tested : (p0 p : Parts) (rank comm : ℕ) (plan : Planned) → p0 ≡ p → IsCore p0
    → IsArena p0.arena
    → refused_in p (Init rank comm plan) ≡ first_of (init_tests p.queues p0.arena rank comm plan)
init_tested p0 p rank comm plan e core sound =
    sym (ap (λ (x : Parts). refused_in x (Init rank comm plan)) e)
    ∙ (init_refused shown (setting p0) p0.arena p0.queues p0.matches rank comm plan core sound
    ∙ ap (λ (x : Parts). first_of (init_tests x.queues p0.arena rank comm plan)) e)

pub stops_at_entry : (xs ys : List (Option Refusal)) (why : Refusal) → first_of xs ≡ Some why → first_of (xs ++ ys) ≡ Some why
stops_at_entry xs ys why e = first_of-append xs ys ∙ ap (λ o. option_or o (first_of ys)) e

pub enters : (xs ys : List (Option Refusal)) → first_of xs ≡ None → first_of (xs ++ ys) ≡ first_of ys
enters xs ys e = first_of-append xs ys ∙ by_none (first_of xs) (first_of ys) e

unequal : (x y : ℕ) → x ≢ y → (x == y) ≡ false
unequal x y d = grind (arith, nat_tests)

equal : (x y : ℕ) → x ≡ y → (x == y) ≡ true
equal x y e = grind (arith, nat_tests)

module _ (plan : Planned) (bytes : List ℕ) (want got : ℕ) (want_is : want ≡ given_len plan.sig plan.n plan.member) (got_is : got ≡ length bytes) where
  pub misses : (rest : List (Option Refusal)) → got ≢ want
      → first_of (wrong_length plan.sig plan.n plan.member bytes ∷ rest) ≡ Some (BadLength want got)
  misses rest d =
      ap (λ t. option_or (unless t (BadLength (given_len plan.sig plan.n plan.member) (length bytes))) (first_of rest))
      (unequal (given_len plan.sig plan.n plan.member) (length bytes) (λ e. d (got_is ∙ (sym e ∙ sym want_is))))
      ∙ (ap (λ w. Some (BadLength w (length bytes))) (sym want_is) ∙ ap (λ g. Some (BadLength want g)) (sym got_is))

  pub right_length : (rest : List (Option Refusal)) → got ≡ want
      → first_of (wrong_length plan.sig plan.n plan.member bytes ∷ rest) ≡ first_of rest
  right_length rest e =
      ap (λ t. option_or (unless t (BadLength (given_len plan.sig plan.n plan.member) (length bytes))) (first_of rest))
      (equal (given_len plan.sig plan.n plan.member) (length bytes) (sym want_is ∙ (sym e ∙ got_is)))

pub at_free : (a : Slots Request) (t u : Bool) → t ≡ nat_lt 0 (length (sequence a.lists 0)) → t ≡ u
    → first_of (full_refusal a ∷ []) ≡ unless u Full
at_free a t u e is =
    option_or-none (full_refusal a) ∙ (ap (λ x. unless x Full) (sym e) ∙ ap (λ x. unless x Full) is)
