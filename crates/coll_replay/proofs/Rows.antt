-- The worked rows.
use Rattle.std.proofs.Common.{◌≡◌, ℕ, ◌⊎◌, inl, inr, Bool, true, false, cond, ltb}
use Rattle.std.proofs.Common.{List, [], ◌∷◌, length, Option, Some, None, refl, sym, ap, subst, ◌∙◌, arith, le-ltb}
use Rattle.std.proofs.lemmas.Bool.{cases_eq}
use Rattle.std.proofs.lemmas.Option.{none-some, same_Some}
use Rattle.std.specs.Prelude.{slice_get}
use Rattle.coll_kinds.specs.declared.signature.Signature.{Signature}
use Rattle.coll_kinds.specs.Common.{needs, put}
use Rattle.coll_kinds.proofs.Puts.{put_other}
use Rattle.coll_machine.specs.Common.{MachineStep, Request, Setting, barrier, key_of, nothing, once_more, same_key, signature_of, size}
use Rattle.coll_machine.specs.declared.key.Key.{Key}
use Rattle.coll_machine.specs.Calls as calls
use Rattle.coll_machine.specs.Machines as machine
use Rattle.coll_parser.specs.declared.command.Command.{Command}
use Rattle.coll_parser.specs.declared.command.Command.TheVariants.{Init, Post, WaitAll}
use Rattle.coll_verdict.specs.Standings.{Standing, carried_out, nothing_made, one_more}
use Rattle.coll_verdict.specs.Standings as standings
use Rattle.coll_verdict.specs.Stalls.{Waits, lines_of}
use Rattle.coll_verdict.specs.Stalls as stalls
use Rattle.coll_verdict.specs.Waiting.{HasHeard, Hearing, ReachesBy}
use Rattle.coll_verdict.specs.Waiting as waiting
use Rattle.coll_verdict.specs.Rows.{only_request, only_ticket, posted}
use Rattle.coll_replay.specs.Rows.{EmptyJobEndsInSome, UnmetBarrierStallsInSome, unmet, with_another}

pub empty_job_ends_in_some : EmptyJobEndsInSome
empty_job_ends_in_some hears = record {
  limits = with_nobody;
  groups = refl;
  standing = standings.beginning;
  reached = waiting.begins;
  ended = λ rank. (let none : ltb rank 0 ≡ false = le-ltb rank 0 (omega arith) in rw none refl);
}
  where
    with_nobody : Setting
    with_nobody = record with_another { groups = [] }

-- ---- the barrier whose second member says nothing

posts : MachineStep with_another standings.beginning.machine (calls.Post 0 0 (record {
  sig =
      barrier;
  n = 2;
  member = 0;
}) []) (calls.Ticketed only_ticket) posted
posts = machine.post 0 0 0 (record { sig = barrier; n = 2; member = 0 }) [] only_ticket (record {
  member = 0;
  accepted = refl;
  member_is = refl;
  place_is = refl;
  new = record { low = omega arith; spare = refl; unworn = omega arith; next = refl };
  leaves = refl;
})

abbrev has_posted : Standing
has_posted = carried_out standings.beginning 0 posted (one_more nothing_made only_ticket)

run : (hears : Hearing) → ReachesBy hears with_another (lines_of unmet) has_posted
run hears =
    waiting.goes_on waiting.begins (waiting.carries 0 (Post 0 barrier []) refl (standings.post 0 barrier []
    (record { sig = barrier; n = 2; member = 0 }) only_ticket refl posts))

-- the rank is at its last wait, and no other has lines
next_is : (rank : ℕ) (c : Command) → slice_get (lines_of unmet rank) (has_posted.at rank) ≡ Some c → (rank ≡ 0) × (WaitAll (0 ∷ []) ≡ c)
next_is rank c get = go (cases_eq rank 0)
  where
    go : (rank ≡ 0) ⊎ (rank ≡ 0 → ⊥) → (rank ≡ 0) × (WaitAll (0 ∷ []) ≡ c)
    go (inl e) = (e, same_Some (WaitAll (0 ∷ [])) c (ap (λ r. slice_get (lines_of unmet r) (has_posted.at r)) (sym e) ∙ get))
    go (inr d) =
        let none : ltb rank 1 ≡ false = le-ltb rank 1 (omega arith) in
        absurd (none-some c (rw none at get))

waits : (rank : ℕ) (c : Command) → slice_get (lines_of unmet rank) (has_posted.at rank) ≡ Some c → Waits with_another (lines_of unmet) has_posted rank c
waits rank c get =
    let is = next_is rank c get in
    subst (λ r. Waits with_another (lines_of unmet) has_posted r c) (sym is.0)
    (subst (Waits with_another (lines_of unmet) has_posted 0) is.1 (stalls.wait_all (0 ∷ []) 0 refl refl))

-- the second member has given to no collective
abbrev none_given : ℕ → Option (List ℕ)
none_given member = None

either_none : (b : Bool) → cond {A = ℕ → Option (List ℕ)} b (put none_given 0 (Some [])) none_given 1 ≡ None
either_none true = refl
either_none false = refl

given_none : (k : Key) → posted.state.given k 1 ≡ None
given_none k = either_none (same_key k (key_of only_request 0))

other_slot : (slot : ℕ) (q : Request) → posted.state.request slot ≡ Some q → q ≡ once_more only_request
other_slot slot q is = go (cases_eq slot 0)
  where
    go : (slot ≡ 0) ⊎ (slot ≡ 0 → ⊥) → q ≡ once_more only_request
    go (inl e) = sym (same_Some (once_more only_request) q (ap posted.state.request (sym e) ∙ is))
    go (inr d) =
        absurd (none-some q (sym (put_other (put nothing.request 0 (Some only_request)) 0 (Some (once_more only_request)) slot d
        ∙ put_other nothing.request 0 (Some only_request) slot d) ∙ is))

unheard : (hears : Hearing) (slot start : ℕ) (q : Request) (sig : Signature) → posted.state.request slot ≡ Some q
    → HasHeard hears with_another posted.state q start sig → ⊥
unheard hears slot start q sig is has =
    let same : q ≡ once_more only_request = other_slot slot q is in
    let signed : sig ≡ barrier = sym (same_Some barrier sig (ap (signature_of posted.state) (sym same) ∙ has.ready.sig_is)) in
    let needed : needs sig (size with_another q.comm) q.member 1 ≡ true = (λ z. needs (signed z) (size with_another (same z).comm) (same z).member 1) in
    has.ready.needed 1 needed (given_none (key_of q start))

pub unmet_barrier_stalls_in_some : UnmetBarrierStallsInSome
unmet_barrier_stalls_in_some hears = record {
  limits = with_another;
  groups = refl;
  standing = has_posted;
  reached = run hears;
  stalled = record {
    waits = waits;
    returns = λ rank comm sig get. (let e : WaitAll (0 ∷ []) ≡ Init comm sig = (next_is rank (Init comm sig) get).1 in absurd cc);
    settled = λ slot start q sig is has. absurd (unheard hears slot start q sig is has);
    early = λ end. short (has_posted.at 0) (length (lines_of unmet 0)) refl refl (end 0);
  };
}
  where
    short : (a b : ℕ) → a ≡ 1 → b ≡ 2 → a ≡ b → ⊥
    short a b x y e = absurd (omega arith)
