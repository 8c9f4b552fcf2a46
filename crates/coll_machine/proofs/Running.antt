-- A legal trace as a run: each request finishes right before it is completed.
use Rattle.std.proofs.Common.{◌≡◌, ℕ, ◌⊎◌, inl, inr, Bool, true, false, List, [], ◌∷◌, refl, sym, ap, ◌∙◌}
use Rattle.coll_kinds.specs.Puts.{put}
use Rattle.coll_kinds.proofs.Puts.{put_same, put_other, put_cases}
use Rattle.coll_machine.specs.Common.{Setting, State, Machine, nothing, phased, post, init, start, finish, retire, free, Event, Runs, Entry, Posted}
use Rattle.coll_machine.specs.Common.{Inited, Started, Retired, Freed, Leads}
use Rattle.coll_machine.specs.Calls as calls
use Rattle.coll_machine.specs.Laws.{Shows, TracesAreRun}
use Rattle.coll_machine.proofs.Accepted.{found_is}

-- nothing is Done
abbrev NoneDone : (ℕ → Bool) → Type 0
NoneDone done = (i : ℕ) → done i ≡ false

-- a run from a state on, in which nothing is Done at its beginning
record RunOf (g : Setting) (s u : State) (done : ℕ → Bool) (es : List Entry) : Type 0 where
  events : List Event
  last : Machine
  runs : Runs g (phased s done) events last
  shows : Shows events es
  state_is : last.state ≡ u

-- the slot of a completed request isn't Done afterwards
done_again : (done : ℕ → Bool) (slot : ℕ) → NoneDone done → NoneDone (put (put done slot true) slot false)
done_again done slot none i = go (put_cases (put done slot true) slot false i)
  where
    go : ((i ≡ slot) × (put (put done slot true) slot false i ≡ false)) ⊎ ((i ≡ slot → ⊥) × (put (put done slot true) slot false i ≡ put done slot true i))
        → put (put done slot true) slot false i ≡ false
    go (inl a) = a.1
    go (inr a) = a.1 ∙ (put_other done slot true i a.0 ∙ none i)

run_of : (g : Setting) (es : List Entry) (s u : State) (done : ℕ → Bool) → NoneDone done → Leads g s es u → RunOf g s u done es
run_of g [] s u done none l = record { events = []; last = phased s done; runs = refl; shows = refl; state_is = l }
run_of g (Posted rank t comm place sig bytes ∷ es) s u done none l =
    let plan = l.1.0 in
    let r = run_of g es l.0 u done none l.2 in
    record {
      events = record { call = calls.Post rank comm plan bytes; reply = calls.Ticketed t } ∷ r.events;
      last = r.last;
      runs = (phased l.0 done, post rank comm place plan bytes t l.1.2, r.runs);
      shows = (Posted rank t comm place sig bytes ∷ [], es, (place, ap (λ sig. Posted rank t comm place sig bytes ∷ []) (sym l.1.1)), r.shows, refl);
      state_is = r.state_is;
    }
run_of g (Inited rank t comm place sig ∷ es) s u done none l =
    let plan = l.1.0 in
    let r = run_of g es l.0 u done none l.2 in
    record {
      events = record { call = calls.Init rank comm plan; reply = calls.Ticketed t } ∷ r.events;
      last = r.last;
      runs = (phased l.0 done, init rank comm place plan t l.1.2, r.runs);
      shows = (Inited rank t comm place sig ∷ [], es, (place, ap (λ sig. Inited rank t comm place sig ∷ []) (sym l.1.1)), r.shows, refl);
      state_is = r.state_is;
    }
run_of g (Started rank t begin bytes ∷ es) s u done none l =
    let r = run_of g es l.0 u done none l.2 in
    record {
      events = record { call = calls.Start rank t bytes; reply = calls.Nothing } ∷ r.events;
      last = r.last;
      runs = (phased l.0 done, start rank begin t bytes l.1, r.runs);
      shows = (Started rank t begin bytes ∷ [], es, (begin, refl), r.shows, refl);
      state_is = r.state_is;
    }
run_of g (Retired rank t comm place begin bytes ∷ es) s u done none l =
    let e = l.1 in
    let r = run_of g es l.0 u (put (put done t.slot true) t.slot false) (done_again done t.slot none) l.2 in
    record {
      events = record { call = calls.Finish; reply = calls.Nothing }
          ∷ record { call = calls.Retire rank t; reply = calls.Outcome rank comm place begin bytes } ∷ r.events;
      last = r.last;
      runs = (
        phased s (put done t.slot true),
        finish t.slot (record {
          request = e.request;
          sig = e.sig;
          start = begin;
          is = (found_is s t e.request e.is).1;
          pending =
              none t.slot;
          ready = e.ready;
          leaves = refl;
        }),
        (phased l.0 (put (put done t.slot true) t.slot false), retire rank t comm place begin bytes e (put_same done t.slot true), r.runs),
      );
      shows = ([], Retired rank t comm place begin bytes ∷ es, refl, (Retired rank t comm place begin bytes ∷ [], es, refl, r.shows, refl), refl);
      state_is = r.state_is;
    }
run_of g (Freed rank t ∷ es) s u done none l =
    let r = run_of g es l.0 u done none l.2 in
    record {
      events = record { call = calls.Free rank t; reply = calls.Nothing } ∷ r.events;
      last = r.last;
      runs = (phased l.0 done, free rank t l.1, r.runs);
      shows = (Freed rank t ∷ [], es, refl, r.shows, refl);
      state_is = r.state_is;
    }

pub traces_are_run : TracesAreRun
traces_are_run g s es l = let r = run_of g es nothing s (λ slot. false) (λ i. refl) l in (r.events, r.last, r.runs, r.shows, r.state_is)
