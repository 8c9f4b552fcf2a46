-- Each command as calls on a core.
use Rattle.std.proofs.Common.{◌≡◌, ◌⊎◌, inl, inr, ℕ, Bool, true, false, List, [], ◌∷◌, Some, refl, sym, subst, ◌∙◌}
use Rattle.std.proofs.Common.{Option, Result, Ok, Err}
use Rattle.std.specs.Prelude.{IfOk, IfSome, IsTrue}
use Rattle.coll_kinds.specs.declared.refusal.Refusal.{Refusal}
use Rattle.coll_kinds.specs.declared.signature.Signature.{Signature}
use Rattle.coll_kinds.specs.declared.ticket.Ticket.{Ticket}
use Rattle.coll_kinds.specs.Common.{is_among}
use Rattle.coll_machine.specs.Common.{MachineStep, StepsTo}
use Rattle.coll_machine.specs.Calls as calls
use Rattle.coll_plans.specs.Plans.{Planned}
use Rattle.coll_parser.specs.declared.command.Command.TheVariants.{Post, Init, Start, Wait, Test, Free, WaitAny, WaitSome, WaitAll}
use Rattle.coll_verdict.specs.Standings.{Carries, Holding, NoneActive, SomeDone, holding_at, is_active, is_done, is_pending, kept, one_more}
use Rattle.coll_verdict.specs.Standings as standings
use Rattle.coll_core.specs.declared.offer.Offer.{Offer}
use Rattle.coll_core.specs.Cores.{Parts, seen, setting}
use Rattle.coll_core.specs.Posts.{init_of, planned, post_of}
use Rattle.coll_replay.specs.declared.completing.Survey.{Survey}
use Rattle.coll_replay.specs.Calls.{CarriesOut, Completed, CompletedIf, IsSurvey, Sweeps}
use Rattle.coll_replay.proofs.Sweeping.{any_among, none_among}

module _ (p r : Parts) (rank : ℕ) (set : setting r ≡ setting p) where
  -- the communicator's number is the text's
  pub posted : (comm number : ℕ) (sig : Signature) (given : List ℕ) (offer : Offer) (t : Ticket) (h i : Holding)
      → number ≡ comm → offer.plan.sig ≡ sig → offer.bytes ≡ given → i ≡ one_more h t
      → StepsTo (setting p) (seen p) (post_of rank number offer) (calls.Ticketed t) (seen r)
      → CarriesOut p r rank (Post comm sig given) h i
  posted comm number sig given offer t h i same is bytes leaves step = record {
    set = set;
    mid = step.0;
    carries = subst (λ (i : Holding). Carries (setting p) rank (seen p) h (Post comm sig given) step.0 i) (sym leaves)
        (subst (λ (given : List ℕ). Carries (setting p) rank (seen p) h (Post comm sig given) step.0 (one_more h t)) bytes
        (subst (λ (comm : ℕ). Carries (setting p) rank (seen p) h (Post comm sig offer.bytes) step.0 (one_more h t)) same
        (standings.post number sig offer.bytes (planned offer.plan) t is step.1)));
    finish = step.2;
  }

  pub made : (comm number : ℕ) (sig : Signature) (plan : Planned) (t : Ticket) (h i : Holding)
      → number ≡ comm → plan.sig ≡ sig → i ≡ one_more h t
      → MachineStep (setting p) (seen p) (init_of rank number plan) (calls.Ticketed t) (seen r)
      → CarriesOut p r rank (Init comm sig) h i
  made comm number sig plan t h i same is leaves step = record {
    set = set;
    mid = seen r;
    carries = subst (λ (i : Holding). Carries (setting p) rank (seen p) h (Init comm sig) (seen r) i) (sym leaves)
        (subst (λ (comm : ℕ). Carries (setting p) rank (seen p) h (Init comm sig) (seen r) (one_more h t)) same
        (standings.init number sig (planned plan) t is step));
    finish = inl refl;
  }

  pub started : (q : ℕ) (given bytes : List ℕ) (t : Ticket) (h : Holding)
      → bytes ≡ given → h.of q ≡ Some t
      → StepsTo (setting p) (seen p) (calls.Start rank t bytes) calls.Nothing (seen r)
      → CarriesOut p r rank (Start q given) h h
  started q given bytes t h is held step = record {
    set = set;
    mid = step.0;
    carries = subst (λ (given : List ℕ). Carries (setting p) rank (seen p) h (Start q given) step.0 h) is
        (standings.start q bytes t held step.1);
    finish = step.2;
  }

  pub freed : (q : ℕ) (t : Ticket) (h i : Holding)
      → h.of q ≡ Some t → i ≡ holding_at h q (kept (seen r).state t)
      → MachineStep (setting p) (seen p) (calls.Free rank t) calls.Nothing (seen r)
      → CarriesOut p r rank (Free q) h i
  freed q t h i held leaves step = record {
    set = set;
    mid = seen r;
    carries = subst (λ (i : Holding). Carries (setting p) rank (seen p) h (Free q) (seen r) i) (sym leaves) (standings.free q t held step);
    finish = inl refl;
  }

  pub taken : (qs : List ℕ) (q : ℕ) (h i : Holding) → is_among q qs ≡ true → Completed (setting p) rank q (seen p) (seen r) h i
      → CarriesOut p r rank (WaitAny qs) h i
  taken qs q h i among done = record {
    set = set;
    mid = seen r;
    carries = subst (λ (i : Holding). Carries (setting p) rank (seen p) h (WaitAny qs) (seen r) i) (sym done.leaves)
        (standings.wait_any qs q done.comm done.place done.start done.bytes done.ticket among done.held done.step);
    finish = inl refl;
  }

pub waited_for_none : (p : Parts) (rank : ℕ) (qs : List ℕ) (h : Holding) (survey : Survey) → IsSurvey (seen p) h qs survey
    → survey.has_active ≡ false → CarriesOut p p rank (WaitAny qs) h h
waited_for_none p rank qs h survey was none = record {
  set = refl;
  mid = seen p;
  carries = standings.wait_for_none qs (none_among (λ q. is_active (seen p) (h.of q)) qs (sym was.active ∙ none));
  finish = inl refl;
}

module _ (p r : Parts) (rank : ℕ) (h i : Holding) (before : Survey) where
  pub waited : (q : ℕ) → Sweeps p r rank (q ∷ []) h i before → before.has_pending ≡ false → CarriesOut p r rank (Wait q) h i
  waited q s none = record {
    set = s.set;
    mid = seen r;
    carries = standings.wait q (none_among (λ q. is_pending (seen p) (h.of q)) (q ∷ []) (sym s.was.pending ∙ none)) s.completes s.none_left;
    finish = inl refl;
  }

  pub tested : (q : ℕ) → Sweeps p r rank (q ∷ []) h i before → CarriesOut p r rank (Test q) h i
  tested q s = record { set = s.set; mid = seen r; carries = standings.test q s.completes s.none_left; finish = inl refl }

  pub waited_all : (qs : List ℕ) → Sweeps p r rank qs h i before → before.has_pending ≡ false → CarriesOut p r rank (WaitAll qs) h i
  waited_all qs s none = record {
    set = s.set;
    mid = seen r;
    carries = standings.wait_all qs (none_among (λ q. is_pending (seen p) (h.of q)) qs (sym s.was.pending ∙ none)) s.completes s.none_left;
    finish = inl refl;
  }

  some_of : (qs : List ℕ) → IsSurvey (seen p) h qs before → (before.has_done ≡ true) ⊎ (before.has_active ≡ false)
      → NoneActive (seen p) h qs ⊎ SomeDone (seen p) h qs
  some_of qs was (inl done) = inr (any_among (λ q. is_done (seen p) (h.of q)) qs (sym was.done ∙ done))
  some_of qs was (inr none) = inl (none_among (λ q. is_active (seen p) (h.of q)) qs (sym was.active ∙ none))

  pub waited_some : (qs : List ℕ) → Sweeps p r rank qs h i before → (before.has_done ≡ true) ⊎ (before.has_active ≡ false)
      → CarriesOut p r rank (WaitSome qs) h i
  waited_some qs s enough = record {
    set = s.set;
    mid = seen r;
    carries = standings.wait_some qs (some_of qs s.was enough) s.completes s.none_left;
    finish = inl refl;
  }

-- the sweep of a list that is known by another name
pub swept_at : (p r : Parts) (rank : ℕ) (named qs : List ℕ) (h i : Holding) (found : Option Survey) (before : Survey)
    → IfSome found (Sweeps p r rank named h i) → found ≡ Some before → named ≡ qs → Sweeps p r rank qs h i before
swept_at p r rank named qs h i found before s is same =
    subst (λ (ns : List ℕ). Sweeps p r rank ns h i before) same (subst (λ (o : Option Survey). IfSome o (Sweeps p r rank named h i)) is s)

-- where the request was completed, the call took it
pub taken_if : (p r : Parts) (rank : ℕ) → setting r ≡ setting p → (qs : List ℕ) (q : ℕ) (h i : Holding) → is_among q qs ≡ true → (result : Result Bool Refusal)
    → IfOk result (λ is_done. CompletedIf is_done (setting p) rank q (seen p) (seen r) h i)
    → IfOk result (λ is_done. IsTrue is_done → CarriesOut p r rank (WaitAny qs) h i)
taken_if p r rank set qs q h i among (Ok true) done = λ yes. taken p r rank set qs q h i among done
taken_if p r rank set qs q h i among (Ok false) done = λ no. absurd cc
taken_if p r rank set qs q h i among (Err why) done = tt
