-- the round of direct exchange is lawful, and what each member has for another arrives
use Rattle.std.proofs.Common.{◌≡◌, ℕ, zero, suc, ◌+◌, ◌<◌, ◌≤◌, ◌≢◌, ◌⊎◌, inl, inr, Bool, true, false, eqb, List, [], ◌∷◌, ◌++◌, Some, refl, sym, ap}
use Rattle.std.proofs.Common.{subst, ◌∙◌, arith, ne_eqb}
use Rattle.std.proofs.lemmas.Bool.{eqb-false, cond-true, cond-false, cond_both, cases_eq, cases_Bool, false≢true}
use Rattle.std.specs.List.{AllByRecursion}
use Rattle.coll_sched.specs.declared.action.Action.{Action}
use Rattle.coll_sched.specs.declared.action.Action.TheVariants.{Send, Copy, Recv}
use Rattle.coll_sched.specs.Common.{Inside, Apart, read_of, Fits, Follows, EachFollows, IsAmong, Family, actions_at, out_link, in_link, len_of}
use Rattle.coll_sched.specs.Common.{lock_step, Heard, IsLawful}
use Rattle.coll_sched.proofs.Rounds.{GivenFits}
use Rattle.coll_sched.proofs.Builders.{Has, has_left, has_right, all_append, each_append, receives_has, out_link_has, in_link_has, NotTo, NotOf}
use Rattle.coll_sched.proofs.Builders.{out_link_none, in_link_none, round_held, message_is}
use Rattle.coll_trees.proofs.Columns.{IsLawfulColumn}
use Rattle.coll_sched.specs.declared.region.Region.{Region}
use Rattle.coll_plans.specs.declared.direct_pattern.Pattern.{Pattern}
use Rattle.coll_plans.specs.DirectExchange.{carries, crosses, chosen, sends, keeps, recvs, exchange_by}

-- chosen actions
pub all_chosen : (P : Action → Type 0) (pick : ℕ → Bool) (act : ℕ → Action) (k c : ℕ)
    → ((m : ℕ) → k ≤ m → m < k + c → pick m ≡ true → P (act m)) → AllByRecursion P (chosen pick act k c)
all_chosen P pick act k zero h = tt
all_chosen P pick act k (suc c) h =
    let rest : AllByRecursion P (chosen pick act (suc k) c) = all_chosen P pick act (suc k) c (λ m x y e. h m (omega arith) (omega arith) e) in
    cond_both (pick k) (act k ∷ chosen pick act (suc k) c) (chosen pick act (suc k) c) (λ xs. AllByRecursion P xs)
    (λ e. (h k (omega arith) (omega arith) e, rest)) (λ e. rest)

pub has_chosen : (pick : ℕ → Bool) (act : ℕ → Action) (k c m : ℕ) → k ≤ m → m < k + c → pick m ≡ true → Has (chosen pick act k c) (act m)
has_chosen pick act k zero m x y e = absurd (omega arith)
has_chosen pick act k (suc c) m x y e =
    let more : (k ≡ m → ⊥) → Has (chosen pick act (suc k) c) (act m) = λ d. has_chosen pick act (suc k) c m (omega arith) (omega arith) e in
    cond_both (pick k) (act k ∷ chosen pick act (suc k) c) (chosen pick act (suc k) c) (λ xs. Has xs (act m))
    (λ t. here (cases_eq k m) more) (λ t. past t (cases_eq k m) more)
  where
    here : (k ≡ m) ⊎ (k ≡ m → ⊥) → ((k ≡ m → ⊥) → Has (chosen pick act (suc k) c) (act m)) → Has (act k ∷ chosen pick act (suc k) c) (act m)
    here (inl s) more = inl (ap act s)
    here (inr d) more = inr (more d)

    past : pick k ≡ false → (k ≡ m) ⊎ (k ≡ m → ⊥) → ((k ≡ m → ⊥) → Has (chosen pick act (suc k) c) (act m)) → Has (chosen pick act (suc k) c) (act m)
    past t (inl s) more = absurd (false≢true (sym t ∙ (ap pick s ∙ e)))
    past t (inr d) more = more d

each_chosen : (pick : ℕ → Bool) (act : ℕ → Action) (k c : ℕ)
    → ((m p : ℕ) → m < p → p < k + c → pick m ≡ true → pick p ≡ true → Follows (act m) (act p)) → EachFollows (chosen pick act k c)
each_chosen pick act k zero h = tt
each_chosen pick act k (suc c) h =
    let rest : EachFollows (chosen pick act (suc k) c) = each_chosen pick act (suc k) c (λ m p x y d e. h m p x (omega arith) d e) in
    cond_both (pick k) (act k ∷ chosen pick act (suc k) c) (chosen pick act (suc k) c) EachFollows
    (λ e. (all_chosen (Follows (act k)) pick act (suc k) c (λ p x y d. h k p (omega arith) (omega arith) e d), rest)) (λ e. rest)

-- bytes that cross go between two members
crossing : (pattern : Pattern) (q r : ℕ) → crosses pattern q r ≡ true → (q ≢ r) × (carries pattern q r ≡ true)
crossing pattern q r h = go (cases_Bool (eqb q r))
  where
    go : (eqb q r ≡ true) ⊎ (eqb q r ≡ false) → (q ≢ r) × (carries pattern q r ≡ true)
    go (inl e) = absurd (false≢true (sym (cond-true (eqb q r) false (carries pattern q r) e) ∙ h))
    go (inr e) = (eqb-false q r e, sym (cond-false (eqb q r) false (carries pattern q r) e) ∙ h)

crossed : (pattern : Pattern) (q r : ℕ) → q ≢ r → carries pattern q r ≡ true → crosses pattern q r ≡ true
crossed pattern q r d h = cond-false (eqb q r) false (carries pattern q r) (ne_eqb q r d) ∙ h

-- what a member gives is as long as what the other gets; the regions lie within the buffers; none that a member gets shares
-- a byte with one that it gives or with another one that it gets
pub record IsRouted (n : ℕ) (size : ℕ → ℕ) (pattern : Pattern) (from into : ℕ → ℕ → Region) : Type 0 where
  pub same : (q r : ℕ) → (from q r).len ≡ (into r q).len
  pub from_inside : (r p : ℕ) → r < n → p < n → carries pattern r p ≡ true → Inside (size r) (from r p)
  pub into_inside : (r q : ℕ) → r < n → q < n → carries pattern q r ≡ true → Inside (size r) (into r q)
  pub sent_apart : (r p q : ℕ) → p < n → q < n → carries pattern r p ≡ true → carries pattern q r ≡ true → Apart (into r q) (from r p)
  pub got_apart : (r p q : ℕ) → p < n → q < n → p ≢ q → carries pattern p r ≡ true → carries pattern q r ≡ true → Apart (into r p) (into r q)

module _ (n : ℕ) (pattern : Pattern) (from into : ℕ → ℕ → Region) where
  has_send : (r p : ℕ) → p < n → r ≢ p → carries pattern r p ≡ true → Has (exchange_by pattern from into n r) (Send p (from r p))
  has_send r p low d h =
      has_left (sends pattern (from r) r 0 n) _ (Send p (from r p))
      (has_chosen (crosses pattern r) (λ m. Send m (from r m)) 0 n p (omega arith) (omega arith) (crossed pattern r p d h))

  has_copy : (r : ℕ) → carries pattern r r ≡ true → Has (exchange_by pattern from into n r) (Copy (from r r) (into r r))
  has_copy r h =
      has_right (sends pattern (from r) r 0 n) _ (Copy (from r r) (into r r)) (has_left (keeps pattern (from r) (into r) r) _ (Copy (from r r) (into r r))
      (subst (λ xs. Has xs (Copy (from r r) (into r r))) (sym (cond-true (carries pattern r r) (Copy (from r r) (into r r) ∷ []) [] h)) (inl refl)))

  has_recv : (r q : ℕ) → q < n → q ≢ r → carries pattern q r ≡ true → Has (exchange_by pattern from into n r) (Recv q (into r q))
  has_recv r q low d h =
      has_right (sends pattern (from r) r 0 n) _ (Recv q (into r q)) (has_right (keeps pattern (from r) (into r) r) _ (Recv q (into r q))
      (has_chosen (λ m. crosses pattern m r) (λ m. Recv m (into r m)) 0 n q (omega arith) (omega arith) (crossed pattern q r d h)))

  all_kept : (P : Action → Type 0) (r : ℕ) → (carries pattern r r ≡ true → P (Copy (from r r) (into r r)))
      → AllByRecursion P (keeps pattern (from r) (into r) r)
  all_kept P r h = cond_both (carries pattern r r) (Copy (from r r) (into r r) ∷ []) [] (λ xs. AllByRecursion P xs) (λ e. (h e, tt)) (λ e. tt)

  all_recvs : (P : Action → Type 0) (r : ℕ) → ((q : ℕ) → q < n → q ≢ r → carries pattern q r ≡ true → P (Recv q (into r q)))
      → AllByRecursion P (recvs pattern (into r) r 0 n)
  all_recvs P r h =
      all_chosen P (λ m. crosses pattern m r) (λ m. Recv m (into r m)) 0 n (λ m x y e. let c = crossing pattern m r e in h m (omega arith) c.0 c.1)

  all_sends : (P : Action → Type 0) (r : ℕ) → ((p : ℕ) → p < n → r ≢ p → carries pattern r p ≡ true → P (Send p (from r p)))
      → AllByRecursion P (sends pattern (from r) r 0 n)
  all_sends P r h = all_chosen P (crosses pattern r) (λ m. Send m (from r m)) 0 n (λ m x y e. let c = crossing pattern r m e in h m (omega arith) c.0 c.1)

  -- what holds of the Sends, the Copy and the Recvs holds of the round
  pub each_action : (P : Action → Type 0) (r : ℕ)
      → ((p : ℕ) → p < n → r ≢ p → carries pattern r p ≡ true → P (Send p (from r p)))
      → (carries pattern r r ≡ true → P (Copy (from r r) (into r r)))
      → ((q : ℕ) → q < n → q ≢ r → carries pattern q r ≡ true → P (Recv q (into r q))) → AllByRecursion P (exchange_by pattern from into n r)
  each_action P r s c v =
      all_append P (sends pattern (from r) r 0 n) (keeps pattern (from r) (into r) r ++ recvs pattern (into r) r 0 n) (all_sends P r s)
      (all_append P (keeps pattern (from r) (into r) r) (recvs pattern (into r) r 0 n) (all_kept P r c) (all_recvs P r v))

  module _ (size : ℕ → ℕ) (routed : IsRouted n size pattern from into) where
    round_follows : (r : ℕ) → r < n → EachFollows (exchange_by pattern from into n r)
    round_follows r low =
        each_append (sends pattern (from r) r 0 n) (keeps pattern (from r) (into r) r ++ recvs pattern (into r) r 0 n) sent_round
        (each_append (keeps pattern (from r) (into r) r) (recvs pattern (into r) r 0 n) kept_round got_round kept_got)
        (all_sends (λ a. AllByRecursion (Follows a) (keeps pattern (from r) (into r) r ++ recvs pattern (into r) r 0 n)) r
        (λ p h d e. all_append (Follows (Send p (from r p))) (keeps pattern (from r) (into r) r) (recvs pattern (into r) r 0 n)
        (all_kept (Follows (Send p (from r p))) r
        (λ k. record {
          in_order = omega arith;
          other_peer = tt;
          read_later = tt;
          read_before =
              ((routed.sent_apart r p r h low e k, tt), tt);
          both_written = tt;
        }))
        (all_recvs (Follows (Send p (from r p))) r
        (λ q l m k. record {
          in_order = omega arith;
          other_peer = tt;
          read_later = tt;
          read_before =
              ((routed.sent_apart r p q h l e k, tt), tt);
          both_written = tt;
        }))))
      where
        sent_round : EachFollows (sends pattern (from r) r 0 n)
        sent_round =
            each_chosen (crosses pattern r) (λ m. Send m (from r m)) 0 n
            (λ m p x y d e. record { in_order = omega arith; other_peer = omega arith; read_later = tt; read_before = tt; both_written = tt })

        kept_round : EachFollows (keeps pattern (from r) (into r) r)
        kept_round = cond_both (carries pattern r r) (Copy (from r r) (into r r) ∷ []) [] EachFollows (λ e. (tt, tt)) (λ e. tt)

        got_round : EachFollows (recvs pattern (into r) r 0 n)
        got_round = each_chosen (λ m. crosses pattern m r) (λ m. Recv m (into r m)) 0 n
            (λ m p x y d e. record {
              in_order = omega arith;
              other_peer = omega arith;
              read_later = (tt, tt);
              read_before = (tt, tt);
              both_written =
                  ((routed.got_apart r m p (omega arith) (omega arith) (omega arith) ((crossing pattern m r d).1) ((crossing pattern p r e).1), tt), tt);
            })

        kept_got : AllByRecursion (λ a. AllByRecursion (Follows a) (recvs pattern (into r) r 0 n)) (keeps pattern (from r) (into r) r)
        kept_got = all_kept (λ a. AllByRecursion (Follows a) (recvs pattern (into r) r 0 n)) r
            (λ k. all_recvs (Follows (Copy (from r r) (into r r))) r
            (λ q l m e. record {
              in_order = omega arith;
              other_peer = tt;
              read_later = (tt, tt);
              read_before = ((routed.sent_apart r r q low l k e, tt), tt);
              both_written = ((routed.got_apart r r q low l (λ z. m (sym z)) k e, tt), tt);
            }))

    round_fits : (r : ℕ) → r < n → AllByRecursion (Fits (size r)) (exchange_by pattern from into n r)
    round_fits r low = each_action (Fits (size r)) r
        (λ p h d e. routed.from_inside r p low h e)
        (λ e. (routed.from_inside r r low low e, routed.into_inside r r low low e, routed.same r r))
        (λ q h d e. routed.into_inside r q low h e)

    links_meet : (r p : ℕ) → r < n → p < n → len_of (in_link p (exchange_by pattern from into n r)) ≡ len_of (out_link r (exchange_by pattern from into n p))
    links_meet r p hr hp = go (cases_eq p r) (cases_Bool (carries pattern p r))
      where
        none : (p ≡ r) ⊎ (carries pattern p r ≡ false) → p ≢ r → carries pattern p r ≡ true → ⊥
        none (inl e) d h = d e
        none (inr e) d h = false≢true (sym e ∙ h)

        apart : (p ≡ r) ⊎ (carries pattern p r ≡ false)
            → len_of (in_link p (exchange_by pattern from into n r)) ≡ len_of (out_link r (exchange_by pattern from into n p))
        apart x =
            ap len_of (in_link_none (exchange_by pattern from into n r) p
            (each_action (NotOf p) r (λ m h d e. tt) (λ e. tt) (λ q h d e k. none x (λ z. d (k ∙ z)) (subst (λ m. carries pattern m r ≡ true) k e))))
            ∙ sym (ap len_of (out_link_none (exchange_by pattern from into n p) r
            (each_action (NotTo r) p (λ m h d e k. none x (λ z. d (z ∙ sym k)) (subst (λ m. carries pattern p m ≡ true) k e)) (λ e. tt) (λ q h d e. tt))))

        go : (p ≡ r) ⊎ (p ≡ r → ⊥) → (carries pattern p r ≡ true) ⊎ (carries pattern p r ≡ false)
            → len_of (in_link p (exchange_by pattern from into n r)) ≡ len_of (out_link r (exchange_by pattern from into n p))
        go (inl e) y = apart (inl e)
        go (inr d) (inr y) = apart (inr y)
        go (inr d) (inl y) =
            ap len_of (in_link_has (exchange_by pattern from into n r) p (into r p) (round_follows r hr) (has_recv r p hp d y))
            ∙ (ap Some (sym (routed.same p r))
            ∙ sym (ap len_of (out_link_has (exchange_by pattern from into n p) r (from p r) (round_follows p hp) (has_send p r hr d y))))

    -- the round is lawful
    pub exchange_column : IsLawfulColumn n size (exchange_by pattern from into n)
    exchange_column = record {
      is_round = λ r low. record { fits = round_fits r low; follows = round_follows r low };
      peers = λ r low. each_action (IsAmong n) r (λ p h d e. h) (λ e. tt) (λ q h d e. h);
      aligned = links_meet;
    }

  -- what member q has for member r arrives, and r has heard of q
  module _ (f : Family) (lawful : IsLawful n f) (acts : (r : ℕ) → actions_at f 0 r ≡ exchange_by pattern from into n r) where
    pub arrives : (given : ℕ → List ℕ) → GivenFits n f given → (r q : ℕ) → r < n → q < n → carries pattern q r ≡ true
        → read_of (lock_step f given 1 r) (into r q) ≡ read_of (lock_step f given 0 q) (from q r)
    arrives given laid r q hr hq h = go (cases_eq q r)
      where
        go : (q ≡ r) ⊎ (q ≡ r → ⊥) → read_of (lock_step f given 1 r) (into r q) ≡ read_of (lock_step f given 0 q) (from q r)
        go (inl e) = subst (λ m. read_of (lock_step f given 1 r) (into r m) ≡ read_of (lock_step f given 0 m) (from m r)) (sym e)
            (round_held n f lawful given laid 0 r (Copy (from r r) (into r r)) (into r r) hr
            (subst (λ xs. Has xs (Copy (from r r) (into r r))) (sym (acts r)) (has_copy r (subst (λ m. carries pattern m r ≡ true) e h))) refl)
        go (inr d) =
            round_held n f lawful given laid 0 r (Recv q (into r q)) (into r q) hr
            (subst (λ xs. Has xs (Recv q (into r q))) (sym (acts r)) (has_recv r q hq d h)) refl
            ∙ message_is n f lawful given laid 0 r q (from q r) hq (subst (λ xs. Has xs (Send r (from q r))) (sym (acts q)) (has_send q r hr d h))

    pub hears : (r q : ℕ) → q < n → carries pattern q r ≡ true → Heard f 1 r q
    hears r q hq h = go (cases_eq q r)
      where
        go : (q ≡ r) ⊎ (q ≡ r → ⊥) → Heard f 1 r q
        go (inl e) = inl e
        go (inr d) = inr (q, receives_has (actions_at f 0 r) q (into r q) (subst (λ xs. Has xs (Recv q (into r q))) (sym (acts r)) (has_recv r q hq d h)), refl)
