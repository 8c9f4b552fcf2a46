-- The calls that name a member, under the names of the fields: `v` is what clauses see.
use Rattle.std.proofs.Common.{◌≡◌, ℕ, ◌<◌, List, [], ◌∷◌, ◌++◌, length, get_or, set, refl, sym, ap, subst, ◌∙◌, Option, Some, None, arith, inl, inr}
use Rattle.std.proofs.lemmas.Bool.{cases_lt}
use Rattle.std.proofs.lemmas.Option.{slice_get_past}
use Rattle.coll_machine.specs.Common.{group_in, put2, first_of}
use Rattle.std.specs.Prelude.{nat_lt, is_some, option_map, slice_get, unwrap_or}
use Rattle.coll_kinds.specs.declared.signature.Signature.{Signature}
use Rattle.coll_kinds.specs.declared.refusal.Refusal.TheVariants.{BadComm, NotMember, BadSignature, PlacesUsed}
use Rattle.coll_kinds.specs.Common.{broken, put}
use Rattle.coll_kinds.specs.Groups as membership
use Rattle.coll_kinds.proofs.Puts.{put_at, put_cases}
use Rattle.coll_machine.specs.Refusals.{member_refusals}
use Rattle.coll_queues.specs.Lists.{Lists, posts_in, signed_in}
use Rattle.coll_queues.specs.Postings.{HasRoom, Postings, groups_of, lists_at, member_of, no_lists, number_of, place_of, posts, signed, size}
use Rattle.coll_queues.specs.Refusing.{judge_refusal, member_refusal, place_refusals, refusal_in}
use Rattle.coll_queues.proofs.Comms.{group_at, groups_set, lists_read, lists_set, posts_set, signed_at, signed_set}
use Rattle.coll_queues.proofs.Judging.{judge_at, known_comm, member_known, member_low, place_at}

put_own : {X : Type 0} (f : ℕ → X) (k : ℕ) (x : X) → x ≡ f k → put f k x ≡ f
put_own f k x e = λ z i. at i z
  where
    at : (i : ℕ) → put f k x i ≡ f i
    at i = elim (put_cases f k x i) [
      | inl here ↦ here.1 ∙ e ∙ ap f (sym here.0)
      | inr else_where ↦ else_where.1
    ]

-- a member by its number
pub low_comm : (q : Postings) (comm member : ℕ) → member < size q comm → comm < length q.comms
low_comm q comm member low = elim (cases_lt comm (length q.comms)) [
  | inl within ↦ within
  | inr past ↦
      let nothing : lists_at q.comms comm ≡ no_lists = ap (λ (o : Option Lists). unwrap_or o no_lists) (slice_get_past q.comms comm past) in
      let nobody : length (group_in (groups_of q) comm) ≡ 0 = ap length (group_at q comm ∙ ap (λ (l : Lists). l.group) nothing) in
      absurd (omega (arith, low, nobody))
]

-- what a posting meets depends on the groups, the lists and their greatest length
pub refusals_kept : (p q : Postings) → groups_of p ≡ groups_of q → posts p ≡ posts q → p.places ≡ q.places → judge_refusal p ≡ judge_refusal q
refusals_kept p q g f n = λ z comm rank sig.
    let group : List ℕ = unwrap_or (slice_get (g z) comm) [] in
    let place : ℕ = length (f z comm (unwrap_or (membership.member_of rank group) 0)) in
    first_of (
    member_refusals (g z) comm rank
    ++ place_refusals sig group (f z comm) place (n z))

-- under the names of the fields, where only the member's number is known
module _ (comms : List Lists) (places : ℕ) (v : Postings) (e : ◌≡◌ {A = Postings} (record { comms = comms; places = places }) v) (comm member : ℕ) (l : Lists)
    (member_in : member < size v comm) (is : l ≡ get_or comms comm l) where
  pub comm_in : comm < length comms
  comm_in = subst (λ (q : Postings). comm < length q.comms) (sym e) (low_comm v comm member member_in)

  pub same_group : group_in (groups_of v) comm ≡ l.group
  same_group = group_at v comm ∙ ap (λ (l : Lists). l.group) (ap (λ (q : Postings). lists_at q.comms comm) (sym e) ∙ lists_read comms comm l comm_in is)

  pub member_there : member < length l.group
  member_there = omega (arith, member_in, ap length same_group)

  pub unbroken : (sig : Signature) → broken sig (size v comm) ≡ None → broken sig (length l.group) ≡ None
  unbroken sig none = ap (λ (group : List ℕ). broken sig (length group)) (sym same_group) ∙ none

  pub known : (rank : ℕ) → member_of v comm rank ≡ Some member → member_refusal v comm rank ≡ None
  known rank number_is = member_known v comm rank member (low_comm v comm member member_in) number_is

module _ (comms : List Lists) (places : ℕ) (v : Postings) (e : ◌≡◌ {A = Postings} (record { comms = comms; places = places }) v)
    (comm rank member : ℕ) (l : Lists)
    (known : member_refusal v comm rank ≡ None) (number_is : member_of v comm rank ≡ Some member) (is : l ≡ get_or comms comm l) where
  pub low : comm < length comms
  low = subst (λ (q : Postings). comm < length q.comms) (sym e) (known_comm v comm rank known)

  pub here : lists_at v.comms comm ≡ l
  here = ap (λ (q : Postings). lists_at q.comms comm) (sym e) ∙ lists_read comms comm l low is

  pub in_group : member < length l.group
  in_group = member_low v comm rank l member number_is here

  pub place_is : length (posts_in l member) ≡ place_of v comm rank
  place_is = sym (place_at v comm rank l member number_is here)

  pub judged : (sig : Signature) → judge_refusal v comm rank sig ≡ refusal_in l member sig places
  judged sig = judge_at v comm rank sig l member known number_is here ∙ ap (λ (q : Postings). refusal_in l member sig q.places) (sym e)

  -- another value of the named communicator's lists
  module _ (new : Lists) (same : new.group ≡ l.group) where
    pub groups_kept : groups_of (record { comms = set comms comm new; places = places }) ≡ groups_of v
    groups_kept = groups_set comms comm new low l is same ∙ ap groups_of e

    pub posts_changed : posts (record { comms = set comms comm new; places = places }) ≡ put (posts v) comm (posts_in new)
    posts_changed = posts_set comms comm new low places ∙ ap (λ q. put (posts q) comm (posts_in new)) e

    -- more room
    pub posts_kept : new.lists ≡ l.lists → posts (record { comms = set comms comm new; places = places }) ≡ posts v
    posts_kept lists = posts_changed ∙ put_own (posts v) comm (posts_in new) ((λ z m. unwrap_or (slice_get (lists z) m) []) ∙ ap posts_in (sym here))

    pub has_room : length (posts_in new member) < new.room → HasRoom (record { comms = set comms comm new; places = places }) comm rank
    has_room room =
        let at : lists_at (set comms comm new) comm ≡ new = lists_set comms comm new low comm ∙ put_at (lists_at comms) comm new comm refl in
        let number : member_of (record { comms = set comms comm new; places = places }) comm rank ≡ Some member =
        ap (λ gs. membership.member_of rank (unwrap_or (slice_get gs comm) [])) groups_kept ∙ number_is in
        omega (arith, place_at (record { comms = set comms comm new; places = places }) comm rank new member number at, ap (λ (l : Lists). l.room) at, room)

    -- one more signature
    module _ (sig : Signature) where
      pub posts_offered : posts_in new ≡ put (posts_in l) member (posts_in l member ++ sig ∷ []) →
          posts (record { comms = set comms comm new; places = places })
          ≡ put2 (posts v) comm (number_of v comm rank) (posts v comm (number_of v comm rank) ++ sig ∷ [])
      posts_offered pushed =
          posts_changed ∙ ap (put (posts v) comm)
          (pushed ∙ (λ z. let m : ℕ = unwrap_or (sym number_is z) 0 in put (posts_in (sym here z)) m (posts_in (sym here z) m ++ sig ∷ [])))

      pub signed_offered : signed_in new ≡ put (signed_in l) (length (posts_in l member)) (Some sig) →
          signed (record { comms = set comms comm new; places = places }) ≡ put2 (signed v) comm (place_of v comm rank) (Some sig)
      signed_offered pushed =
          signed_set comms comm new low places ∙ ap (λ q. put (signed q) comm (signed_in new)) e
          ∙ ap (put (signed v) comm)
          (pushed ∙ (λ z. put (signed_in (sym here z)) (place_is z) (Some sig))
          ∙ ap (λ f. put f (place_of v comm rank) (Some sig)) (sym (signed_at v comm)))
