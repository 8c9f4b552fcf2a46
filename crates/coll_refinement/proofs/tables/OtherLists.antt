-- The lists of the requests that did not act.
use Rattle.std.proofs.Common.{◌≡◌, ℕ, ◌+◌, ◌*◌, ◌≢◌, ◌⊎◌, inl, inr, true, List, length, Option, Some, None, refl, sym, ap, subst, ◌∙◌, arith}
use Rattle.std.proofs.lemmas.Option.{none-some}
use Rattle.coll_sched.specs.declared.action.Action.{Action}
use Rattle.coll_sched.specs.declared.action.Action.TheVariants.{Send, Copy, Combine, Recv}
use Rattle.coll_sched.specs.Worlds.{put_mail}
use Rattle.coll_sched.proofs.Counts.{put_mail_cases}
use Rattle.coll_machine.specs.declared.key.Key.{Key}
use Rattle.coll_plans.specs.Plans.{family}
use Rattle.coll_refinement.specs.Requests.{Live, key}
use Rattle.coll_refinement.specs.Tables.{Mail}
use Rattle.coll_refinement.specs.Sound.{Doable, Stands, ready, running, idle, queued, done, Called}
use Rattle.coll_refinement.specs.Changes.{mailed}
use Rattle.coll_refinement.proofs.tables.Keys.{split_key, at_key, off_key}

pub mailed_cases : (mail : Key → Mail) (k : Key) (a b c : ℕ) (o : Option (List ℕ)) (l : Key) (x y z : ℕ)
    → ((l ≡ k) × (x ≡ a) × (y ≡ b) × (z ≡ c) × (mailed mail k a b c o l x y z ≡ o))
    ⊎ (((l ≡ k) × (x ≡ a) × (y ≡ b) × (z ≡ c) → ⊥) × (mailed mail k a b c o l x y z ≡ mail l x y z))
mailed_cases mail k a b c o l x y z = go (split_key l k)
  where
    here : (l ≡ k) → ((x ≡ a) × (y ≡ b) × (z ≡ c) × (put_mail (mail k) a b c o x y z ≡ o))
        ⊎ (((x ≡ a) × (y ≡ b) × (z ≡ c) → ⊥) × (put_mail (mail k) a b c o x y z ≡ mail k x y z))
        → ((l ≡ k) × (x ≡ a) × (y ≡ b) × (z ≡ c) × (mailed mail k a b c o l x y z ≡ o))
        ⊎ (((l ≡ k) × (x ≡ a) × (y ≡ b) × (z ≡ c) → ⊥) × (mailed mail k a b c o l x y z ≡ mail l x y z))
    here e (inl h) = inl (e, h.0, h.1, h.2, ap (λ (f : Mail). f x y z) (at_key mail k (put_mail (mail k) a b c o) l e) ∙ h.3)
    here e (inr h) =
        inr (λ g. h.0 (g.1, g.2, g.3), ap (λ (f : Mail). f x y z) (at_key mail k (put_mail (mail k) a b c o) l e) ∙ (h.1 ∙ ap (λ l. mail l x y z) (sym e)))

    go : (l ≡ k) ⊎ (l ≢ k) → ((l ≡ k) × (x ≡ a) × (y ≡ b) × (z ≡ c) × (mailed mail k a b c o l x y z ≡ o))
        ⊎ (((l ≡ k) × (x ≡ a) × (y ≡ b) × (z ≡ c) → ⊥) × (mailed mail k a b c o l x y z ≡ mail l x y z))
    go (inl e) = here e (put_mail_cases (mail k) a b c o x y z)
    go (inr d) = inr (λ h. d h.0, ap (λ (f : Mail). f x y z) (off_key mail k (put_mail (mail k) a b c o) l d))

-- of an inactive request no messages are asked for
pub stands_mail : (n l : ℕ) (old new : Mail) (q : Live) → (q.active ≡ true → new ≡ old) → Stands n old l q → Stands n new l q
stands_mail n l old new q same (idle a e p) = idle a e p
stands_mail n l old new q same (ready x a e nx d) = subst (λ (m : Mail). Stands n m l q) (sym (same a)) (ready x a e nx d)
stands_mail n l old new q same (running op ty x y into a e nx) = running op ty x y into a e nx
stands_mail n l old new q same (queued of into a e nx none) = subst (λ (m : Mail). Stands n m l q) (sym (same a)) (queued of into a e nx none)
stands_mail n l old new q same (done a e r) = done a e r

-- a message more: each stands, or is called
pub stands_sent : (n l : ℕ) (mail : Key → Mail) (k : Key) (a b c : ℕ) (bytes : List ℕ) (r : Live) → Stands n (mail (key r)) l r
    → Stands n (mailed mail k a b c (Some bytes) (key r)) l r ⊎ (Called n (mailed mail k a b c (Some bytes) (key r)) l r × (key r ≡ k) × (r.member ≡ b))
stands_sent n l mail k a b c bytes r (idle t e p) = inl (idle t e p)
stands_sent n l mail k a b c bytes r (ready x t e nx d) = inl (ready x t e nx (doable x d))
  where
    doable : (x : Action) → Doable (mail (key r)) r x → Doable (mailed mail k a b c (Some bytes) (key r)) r x
    doable (Send to from) h = tt
    doable (Copy from into) h = tt
    doable (Combine op ty p q into) h = tt
    doable (Recv of into) h = λ none. go none (mailed_cases mail k a b c (Some bytes) (key r) of r.member r.round)
      where
        go : mailed mail k a b c (Some bytes) (key r) of r.member r.round ≡ None
            → ((key r ≡ k) × (of ≡ a) × (r.member ≡ b) × (r.round ≡ c) × (mailed mail k a b c (Some bytes) (key r) of r.member r.round ≡ Some bytes))
            ⊎ (((key r ≡ k) × (of ≡ a) × (r.member ≡ b) × (r.round ≡ c) → ⊥)
            × (mailed mail k a b c (Some bytes) (key r) of r.member r.round ≡ mail (key r) of r.member r.round)) → ⊥
        go none (inl z) = none-some bytes (sym none ∙ z.4)
        go none (inr z) = h (sym z.1 ∙ none)
stands_sent n l mail k a b c bytes r (running op ty x y into t e nx) = inl (running op ty x y into t e nx)
stands_sent n l mail k a b c bytes r (done t e h) = inl (done t e h)
stands_sent n l mail k a b c bytes r (queued of into t e nx none) = go (mailed mail k a b c (Some bytes) (key r) of r.member r.round) refl
  where
    go : (o : Option (List ℕ)) → mailed mail k a b c (Some bytes) (key r) of r.member r.round ≡ o
        → Stands n (mailed mail k a b c (Some bytes) (key r)) l r ⊎ (Called n (mailed mail k a b c (Some bytes) (key r)) l r × (key r ≡ k) × (r.member ≡ b))
    go None h = inl (queued of into t e nx h)
    go (Some bs) h = new bs h (mailed_cases mail k a b c (Some bytes) (key r) of r.member r.round)
      where
        new : (bs : List ℕ) → mailed mail k a b c (Some bytes) (key r) of r.member r.round ≡ Some bs
            → ((key r ≡ k) × (of ≡ a) × (r.member ≡ b) × (r.round ≡ c) × (mailed mail k a b c (Some bytes) (key r) of r.member r.round ≡ Some bytes))
            ⊎ (((key r ≡ k) × (of ≡ a) × (r.member ≡ b) × (r.round ≡ c) → ⊥)
            × (mailed mail k a b c (Some bytes) (key r) of r.member r.round ≡ mail (key r) of r.member r.round))
            → Stands n (mailed mail k a b c (Some bytes) (key r)) l r ⊎ (Called n (mailed mail k a b c (Some bytes) (key r)) l r × (key r ≡ k) × (r.member ≡ b))
        new bs h (inl y) = inr (record { of = of; into = into; active = t; on_queue = e; next_is = nx; came = λ z. none-some bs (sym z ∙ h) }, y.0, y.2)
        new bs h (inr y) = absurd (none-some bs (sym none ∙ (sym y.1 ∙ h)))

-- a message of another member's less
pub stands_took : (n l : ℕ) (mail : Key → Mail) (k : Key) (a b c : ℕ) (r : Live) → (r.active ≡ true → (key r ≡ k) → r.member ≢ b)
    → Stands n (mail (key r)) l r → Stands n (mailed mail k a b c None (key r)) l r
stands_took n l mail k a b c r other (idle t e p) = idle t e p
stands_took n l mail k a b c r other (ready x t e nx d) = ready x t e nx (doable x d)
  where
    doable : (x : Action) → Doable (mail (key r)) r x → Doable (mailed mail k a b c None (key r)) r x
    doable (Send to from) h = tt
    doable (Copy from into) h = tt
    doable (Combine op ty p q into) h = tt
    doable (Recv of into) h = λ none. go none (mailed_cases mail k a b c None (key r) of r.member r.round)
      where
        go : mailed mail k a b c None (key r) of r.member r.round ≡ None
            → ((key r ≡ k) × (of ≡ a) × (r.member ≡ b) × (r.round ≡ c) × (mailed mail k a b c None (key r) of r.member r.round ≡ None))
            ⊎ (((key r ≡ k) × (of ≡ a) × (r.member ≡ b) × (r.round ≡ c) → ⊥)
            × (mailed mail k a b c None (key r) of r.member r.round ≡ mail (key r) of r.member r.round)) → ⊥
        go none (inl z) = other t z.0 z.2
        go none (inr z) = h (sym z.1 ∙ none)
stands_took n l mail k a b c r other (running op ty x y into t e nx) = running op ty x y into t e nx
stands_took n l mail k a b c r other (done t e h) = done t e h
stands_took n l mail k a b c r other (queued of into t e nx none) = queued of into t e nx (go (mailed_cases mail k a b c None (key r) of r.member r.round))
  where
    go : ((key r ≡ k) × (of ≡ a) × (r.member ≡ b) × (r.round ≡ c) × (mailed mail k a b c None (key r) of r.member r.round ≡ None))
        ⊎ (((key r ≡ k) × (of ≡ a) × (r.member ≡ b) × (r.round ≡ c) → ⊥)
        × (mailed mail k a b c None (key r) of r.member r.round ≡ mail (key r) of r.member r.round))
        → mailed mail k a b c None (key r) of r.member r.round ≡ None
    go (inl z) = z.4
    go (inr z) = z.1 ∙ none

-- called, it stands on Ready
pub called_stands : (n l : ℕ) (mail : Mail) (q : Live) → Called n mail l q → Stands n mail 2 q
called_stands n l mail q c = ready (Recv c.of c.into) c.active refl c.next_is c.came

-- on Done: all is done
pub finished_there : (n l : ℕ) (mail : Mail) (q : Live) → l ≡ 6 + 3 * q.comm → Stands n mail l q
    → (q.active ≡ true) × (q.round ≡ length (family q.sig n q.member).rounds)
finished_there n l mail q e (idle t x p) = absurd (omega arith)
finished_there n l mail q e (ready a t x nx d) = absurd (omega arith)
finished_there n l mail q e (running op ty a b into t x nx) = absurd (omega arith)
finished_there n l mail q e (queued of into t x nx h) = absurd (omega arith)
finished_there n l mail q e (done t x h) = (t, h)
