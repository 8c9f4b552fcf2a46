-- What a refusal that didn't come says.
use Rattle.std.proofs.Common.{◌≡◌, ℕ, ◌<◌, ◌≤◌, List, [], ◌∷◌, Bool, true, false, length, refl, sym, ap, subst, ◌∙◌, Option, Some, None, Result, Ok, Err, arith}
use Rattle.std.specs.Prelude.{nat_lt, is_some, slice_index, unwrap_or, option_and_then, option_map, MatchOption, IsOk, IsErrOf}
use Rattle.std.specs.Option.{ForSome}
use Rattle.std.specs.Result.{result_err}
use Rattle.std.proofs.lemmas.Bool.{ltb-true, le-ltb, lt-ltb}
use Rattle.std.proofs.lemmas.List.{length-map}
use Rattle.std.proofs.lemmas.Option.{none-some, same_Some}
use Rattle.coll_kinds.specs.declared.signature.Signature.{Signature}
use Rattle.coll_kinds.specs.declared.refusal.Refusal.{Refusal}
use Rattle.coll_kinds.specs.declared.refusal.Refusal.TheVariants.{BadComm, NotMember, BadSignature, PlacesUsed}
use Rattle.coll_kinds.specs.declared.refusal.SignatureFault.{SignatureFault}
use Rattle.coll_kinds.specs.Common.{broken, mismatch_at, same_signature}
use Rattle.coll_kinds.proofs.Members.{member_of-place}
use Rattle.coll_kinds.proofs.Sameness.{same_signature-Decides}
use Rattle.coll_machine.specs.Common.{first_of, first_there, mismatch_in, unless, group_in}
use Rattle.coll_queues.specs.Lists.{Lists, posts_in, signed_in}
use Rattle.coll_queues.specs.Postings.{Postings, groups_of, lists_at, member_of, number_of, place_of, posts}
use Rattle.coll_queues.specs.Refusing.{judge_refusal, member_refusal, place_refusals, refusal_in}
use Rattle.coll_queues.proofs.Comms.{group_at}

both : (a b : Bool) (x y : Refusal) → first_of (unless a x ∷ unless b y ∷ []) ≡ None → (a ≡ true) × (b ≡ true)
both true true x y e = (refl, refl)
both true false x y e = absurd (none-some y (sym e))
both false b x y e = absurd (none-some x (sym e))

past_both : (a b : Bool) (x y : Refusal) (rest : List (Option Refusal)) → (a ≡ true) × (b ≡ true) → first_of (unless a x ∷ unless b y ∷ rest) ≡ first_of rest
past_both true true x y rest h = refl
past_both true false x y rest h = absurd (let e : false ≡ true = h.1 in cc)
past_both false b x y rest h = absurd (let e : false ≡ true = h.0 in cc)

-- what a named member's call says when it isn't refused
pub known_comm : (q : Postings) (comm rank : ℕ) → member_refusal q comm rank ≡ None → comm < length q.comms
known_comm q comm rank e =
    let low : comm < length (groups_of q) =
    ltb-true comm _ (both (nat_lt comm (length (groups_of q))) (is_some (member_of q comm rank)) (BadComm comm) (NotMember rank) e).0 in
    omega (arith, low, length-map q.comms (λ (l : Lists). l.group))

-- and what such a call may rely on
pub member_known : (q : Postings) (comm rank member : ℕ) → comm < length q.comms → member_of q comm rank ≡ Some member → member_refusal q comm rank ≡ None
member_known q comm rank member low number_is =
    past_both (nat_lt comm (length (groups_of q))) (is_some (member_of q comm rank)) (BadComm comm) (NotMember rank) []
    (lt-ltb comm (length (groups_of q)) (omega (arith, low, length-map q.comms (λ (l : Lists). l.group))), ap is_some number_is)

pub judge_at : (q : Postings) (comm rank : ℕ) (sig : Signature) (l : Lists) (member : ℕ) → member_refusal q comm rank ≡ None
    → member_of q comm rank ≡ Some member → lists_at q.comms comm ≡ l
    → judge_refusal q comm rank sig ≡ refusal_in l member sig q.places
judge_at q comm rank sig l member known number_is e =
    past_both (nat_lt comm (length (groups_of q))) (is_some (member_of q comm rank)) (BadComm comm) (NotMember rank)
    (place_refusals sig (group_in (groups_of q) comm) (posts q comm) (place_of q comm rank) q.places) (both _ _ _ _ known)
    ∙ (λ z. first_of (place_refusals sig (g z) (posts_in (e z)) (length (posts_in (e z) (m z))) q.places))
  where
    g : group_in (groups_of q) comm ≡ l.group
    g = group_at q comm ∙ ap (λ (l : Lists). l.group) e

    m : number_of q comm rank ≡ member
    m = ap (λ (o : Option ℕ). unwrap_or o 0) number_is

pub place_at : (q : Postings) (comm rank : ℕ) (l : Lists) (member : ℕ) → member_of q comm rank ≡ Some member
    → lists_at q.comms comm ≡ l → place_of q comm rank ≡ length (posts_in l member)
place_at q comm rank l member number_is e = λ z. length (posts_in (e z) (unwrap_or (number_is z) 0))

pub member_low : (q : Postings) (comm rank : ℕ) (l : Lists) (member : ℕ) → member_of q comm rank ≡ Some member
    → lists_at q.comms comm ≡ l → member < length l.group
member_low q comm rank l member number_is e =
    let low : member < length (group_in (groups_of q) comm) = (member_of-place rank (group_in (groups_of q) comm) member number_is).1 in
    omega (arith, low, ap length (group_at q comm ∙ ap (λ (l : Lists). l.group) e))

front_of : (a b : Bool) (x y : Refusal) (rest : List (Option Refusal)) → first_of (unless a x ∷ unless b y ∷ rest) ≡ None
    → first_of (unless a x ∷ unless b y ∷ []) ≡ None
front_of true true x y rest e = refl
front_of true false x y rest e = e
front_of false b x y rest e = e

pub judged_member : (q : Postings) (comm rank : ℕ) (sig : Signature) → judge_refusal q comm rank sig ≡ None → member_refusal q comm rank ≡ None
judged_member q comm rank sig e =
    front_of _ _ (BadComm comm) (NotMember rank) (place_refusals sig (group_in (groups_of q) comm) (posts q comm) (place_of q comm rank) q.places) e

-- ---- within one communicator

all_past : (a b c : Option Refusal) → first_of (a ∷ b ∷ c ∷ []) ≡ None → (b ≡ None) × (c ≡ None)
all_past None None None e = (refl, refl)
all_past None None (Some why) e = absurd (none-some why (sym e))
all_past None (Some why) c e = absurd (none-some why (sym e))
all_past (Some why) b c e = absurd (none-some why (sym e))

fits : (b : Bool) (why : Refusal) → unless b why ≡ None → b ≡ true
fits true why e = refl
fits false why e = absurd (none-some why (sym e))

same_first : (group : List ℕ) (place : ℕ) (sig : Signature) (found : Option (ℕ × Signature))
    → option_and_then (λ first. unless (same_signature first.1 sig) (mismatch_at place (slice_index group first.0) first.1)) found ≡ None
    → ForSome (option_map (λ first. first.1) found) (λ known. known ≡ sig)
same_first group place sig None e known is = absurd (none-some known is)
same_first group place sig (Some first) e known is = sym (same_Some first.1 known is) ∙ (same_signature-Decides first.1 sig).0 (fits _ _ e)

pub accepted : (l : Lists) (member : ℕ) (sig : Signature) (places : ℕ) → refusal_in l member sig places ≡ None
    → ForSome (signed_in l (length (posts_in l member))) (λ known. known ≡ sig) × (length (posts_in l member) < places)
accepted l member sig places e =
    let past = all_past (option_map BadSignature (broken sig (length l.group)))
    (mismatch_in l.group (posts_in l) (length (posts_in l member)) sig) (unless (nat_lt (length (posts_in l member)) places) PlacesUsed) e in
    (same_first l.group _ sig (first_there (posts_in l) (length (posts_in l member)) 0 (length l.group)) past.0, ltb-true _ places (fits _ PlacesUsed past.1))

-- the answer of a signature's check, as a refusal
checked : {T : Type 0} (o : Option SignatureFault) (r : Result T Refusal)
    → MatchOption o (IsOk r) (λ cause. IsErrOf r (BadSignature cause)) → result_err r ≡ option_map BadSignature o
checked None (Ok u) h = refl
checked None (Err why) h = absurd cc
checked (Some cause) r h = ap result_err h

no_fault : (o : Option SignatureFault) → option_map BadSignature o ≡ None → o ≡ None
no_fault None e = refl
no_fault (Some cause) e = absurd (none-some (BadSignature cause) (sym e))

-- a signature whose check is passed breaks no rule
pub faultless : {T : Type 0} (sig : Signature) (n m : ℕ) (r : Result T Refusal) (u : T) → n ≡ m
    → MatchOption (broken sig n) (IsOk r) (λ cause. IsErrOf r (BadSignature cause)) → r ≡ Ok u → broken sig m ≡ None
faultless sig n m r u same h is = ap (broken sig) (sym same) ∙ no_fault (broken sig n) (sym (checked (broken sig n) r h) ∙ ap result_err is)

-- and the other way round
pub passed : (sig : Signature) (n : ℕ) → broken sig n ≡ None
    → MatchOption (broken sig n) (IsOk {T = ℕ} {E = Refusal} (Ok 0)) (λ cause. IsErrOf {T = ℕ} (Ok 0) (BadSignature cause))
passed sig n e = subst (λ o. MatchOption o (IsOk {T = ℕ} {E = Refusal} (Ok 0)) (λ cause. IsErrOf {T = ℕ} (Ok 0) (BadSignature cause))) (sym e) refl

first_is : (a : Option Refusal) (rest : List (Option Refusal)) (why : Refusal) → a ≡ Some why → first_of (a ∷ rest) ≡ Some why
first_is a rest why e = ap (λ (o : Option Refusal). first_of (o ∷ rest)) e

passes : (a : Option Refusal) (rest : List (Option Refusal)) → a ≡ None → first_of (a ∷ rest) ≡ first_of rest
passes a rest e = ap (λ (o : Option Refusal). first_of (o ∷ rest)) e

module _ (l : Lists) (member : ℕ) (sig : Signature) (places : ℕ) {T : Type 0} (check : Result T Refusal) (n place : ℕ) (n_is : n ≡ length l.group)
    (check_is : MatchOption (broken sig n) (IsOk check) (λ cause. IsErrOf check (BadSignature cause))) where
  fault : Option Refusal
  fault = option_map BadSignature (broken sig (length l.group))

  fault_is : fault ≡ result_err check
  unfolding fault
  fault_is = sym (checked (broken sig n) check check_is ∙ ap (λ k. option_map BadSignature (broken sig k)) n_is)

  -- the conditions after it
  abbrev behind : ℕ → List (Option Refusal)
  behind k = mismatch_in l.group (posts_in l) k sig ∷ unless (nat_lt k places) PlacesUsed ∷ []

  pub refused_check : (why : Refusal) → check ≡ Err why → refusal_in l member sig places ≡ Some why
  unfolding fault
  refused_check why e = first_is fault (behind (length (posts_in l member))) why (fault_is ∙ ap result_err e)

  past_check : (u : T) → check ≡ Ok u → place ≡ length (posts_in l member) → refusal_in l member sig places ≡ first_of (behind place)
  unfolding fault
  past_check u e at = passes fault (behind (length (posts_in l member))) (fault_is ∙ ap result_err e) ∙ ap (λ k. first_of (behind k)) (sym at)

  module _ (u : T) (check_ok : check ≡ Ok u) (at : place ≡ length (posts_in l member)) where
    pub refused_mismatch : (why : Refusal) → mismatch_in l.group (posts_in l) place sig ≡ Some why → refusal_in l member sig places ≡ Some why
    refused_mismatch why e =
        past_check u check_ok at ∙ first_is (mismatch_in l.group (posts_in l) place sig) (unless (nat_lt place places) PlacesUsed ∷ []) why e

    pub refused_places : mismatch_in l.group (posts_in l) place sig ≡ None → places ≤ place → refusal_in l member sig places ≡ Some PlacesUsed
    refused_places e far =
        past_check u check_ok at
        ∙ passes (mismatch_in l.group (posts_in l) place sig) (unless (nat_lt place places) PlacesUsed ∷ []) e
        ∙ first_is (unless (nat_lt place places) PlacesUsed) [] PlacesUsed (ap (λ b. unless b PlacesUsed) (le-ltb place places far))

    pub not_refused : mismatch_in l.group (posts_in l) place sig ≡ None → place < places → refusal_in l member sig places ≡ None
    not_refused e low =
        past_check u check_ok at
        ∙ passes (mismatch_in l.group (posts_in l) place sig) (unless (nat_lt place places) PlacesUsed ∷ []) e
        ∙ passes (unless (nat_lt place places) PlacesUsed) [] (ap (λ b. unless b PlacesUsed) (lt-ltb place places low))
