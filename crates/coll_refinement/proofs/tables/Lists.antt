-- On which list a request belongs that waited for a message which is there now; the start under way.
use Rattle.std.proofs.Common.{◌≡◌, ℕ, zero, suc, ◌-◌, true, List, [], length, slice_get, unwrap_or, Option, None, refl, sym, ap, subst, ◌∙◌, arith}
use Rattle.std.proofs.lemmas.Bool.{false≢true}
use Rattle.std.proofs.lemmas.Option.{none-some, same_Some}
use Rattle.coll_sched.specs.declared.action.Action.{Action}
use Rattle.coll_sched.specs.declared.action.Action.TheVariants.{Recv}
use Rattle.coll_sched.specs.declared.region.Region.{Region}
use Rattle.coll_sched.specs.Families.{is_recv}
use Rattle.coll_plans.specs.Plans.{family}
use Rattle.coll_refinement.specs.Requests.{Live, before}
use Rattle.coll_refinement.specs.Tables.{Mail}
use Rattle.coll_refinement.specs.Sound.{next, Called, Stands, ready, running, idle, queued, done}
use Rattle.coll_refinement.specs.Shown.{listed}
use Rattle.coll_refinement.proofs.tables.Finished.{slice_get_past}

-- where all rounds are done there is no next action
pub no_next : (n : ℕ) (q : Live) → q.round ≡ length (family q.sig n q.member).rounds → next n q ≡ None
no_next n q e =
    ap (λ (xs : List Action). slice_get xs q.index)
    (ap (λ (o : Option (List Action)). unwrap_or o []) (slice_get_past (family q.sig n q.member).rounds q.round (omega (arith, e))))

-- a request that is called belongs on Ready
pub called_ready : (n l list : ℕ) (mail : Mail) (q : Live) → q.active ≡ true → Called n mail l (listed l q) → Stands n mail list q → list ≡ 2
called_ready n l list mail q t c (ready a u e nx d) = e
called_ready n l list mail q t c (running op ty x y into u e nx) = absurd (false≢true (ap is_recv (same_Some _ (Recv c.of c.into) (sym nx ∙ c.next_is))))
called_ready n l list mail q t c (done u e r) = absurd (none-some (Recv c.of c.into) (sym (no_next n q r) ∙ c.next_is))
called_ready n l list mail q t c (idle f e p) = absurd (false≢true (sym f ∙ t))
called_ready n l list mail q t c (queued of into u e nx none) =
    absurd (c.came (subst (λ x. mail x q.member q.round ≡ None) (same_of (same_Some (Recv of into) (Recv c.of c.into) (sym nx ∙ c.next_is))) none))
  where
    same_of : {a b : ℕ} {g k : Region} → Recv a g ≡ Recv b k → a ≡ b
    same_of e = cc

-- the start under way, as code counts it
pub before_less_one : (n : ℕ) → n - 1 ≡ before n
before_less_one zero = refl
before_less_one (suc n) = let e : suc n - 1 ≡ n = omega arith in e
