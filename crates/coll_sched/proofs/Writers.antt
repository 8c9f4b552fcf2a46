-- a round without the actions that write nothing of a region
use Rattle.std.proofs.Common.{◌≡◌, ℕ, ◌+◌, ◌⊎◌, inl, inr, true, false, min, max, List, [], ◌∷◌, length, refl, sym, ap, ◌∙◌, arith, lt-ltb}
use Rattle.std.proofs.lemmas.Bool.{cases_Bool, cond-true, cond-false, false≢true, or_parts}
use Rattle.std.specs.List.{AllByRecursion, list_any}
use Rattle.coll_sched.specs.declared.region.Region.{Region}
use Rattle.coll_sched.specs.declared.action.Action.{Action}
use Rattle.coll_sched.specs.Common.{Inside, Apart, read_of, writes, Fits, AllApart, wrote, wrote_all, actions_at, lock_step, messages}
use Rattle.coll_sched.specs.Writers.{shares, touches, writers, RestsOnWriters}
use Rattle.coll_sched.proofs.Orders.{EachApart, each_apart, wrote_swap}
use Rattle.coll_sched.proofs.Rounds.{MessageFits, length_wrote, length_wrote_all, read_wrote, message_fits, length_lock_step, round_at}

-- regions without a common byte are apart
apart_of : (g h : Region) → shares g h ≡ false → Apart h g
apart_of g h e k a b x y = false≢true (sym e ∙ lt-ltb (max g.at h.at) (min (g.at + g.len) (h.at + h.len)) (omega arith))

all_apart_of : (g : Region) (hs : List Region) → list_any (shares g) hs ≡ false → AllByRecursion (λ h. Apart h g) hs
all_apart_of g [] e = tt
all_apart_of g (h ∷ hs) e =
    (apart_of g h (or_parts (shares g h) (list_any (shares g) hs) e).0, all_apart_of g hs (or_parts (shares g h) (list_any (shares g) hs) e).1)

module _ (size : ℕ) (msgs : ℕ → List ℕ) (mine : List ℕ) (own : length mine ≡ size) where
  -- an action may be done after all that write apart from it
  wrote_all-last : (a : Action) (xs : List Action) (buf : List ℕ) → Fits size a → MessageFits msgs a
      → AllByRecursion (Fits size) xs → AllByRecursion (MessageFits msgs) xs
      → AllByRecursion (λ b. AllApart (writes a) (writes b)) xs → length buf ≡ size
      → wrote_all msgs mine xs (wrote msgs mine a buf) ≡ wrote msgs mine a (wrote_all msgs mine xs buf)
  wrote_all-last a [] buf fa ma fits m apart e = refl
  wrote_all-last a (b ∷ xs) buf fa ma fits m apart e =
      ap (wrote_all msgs mine xs) (sym (wrote_swap size msgs mine own a b buf fa fits.0 ma m.0 apart.0 e))
      ∙ wrote_all-last a xs (wrote msgs mine b buf) fa ma fits.1 m.1 apart.1 (length_wrote size msgs mine own b buf fits.0 m.0 e)

  read_writers : (g : Region) (xs : List Action) (buf : List ℕ) → Inside size g → AllByRecursion (Fits size) xs
      → AllByRecursion (MessageFits msgs) xs → EachApart xs → length buf ≡ size
      → read_of (wrote_all msgs mine xs buf) g ≡ read_of (wrote_all msgs mine (writers g xs) buf) g
  unfolding EachApart
  read_writers g [] buf inside fits m apart e = refl
  read_writers g (a ∷ xs) buf inside fits m apart e = go (λ now l. read_writers g xs now inside fits.1 m.1 apart.1 l) (cases_Bool (touches g a))
    where
      go : ((now : List ℕ) → length now ≡ size → read_of (wrote_all msgs mine xs now) g ≡ read_of (wrote_all msgs mine (writers g xs) now) g)
          → (touches g a ≡ true) ⊎ (touches g a ≡ false)
          → read_of (wrote_all msgs mine (a ∷ xs) buf) g ≡ read_of (wrote_all msgs mine (writers g (a ∷ xs)) buf) g
      go more (inl h) =
          more (wrote msgs mine a buf) (length_wrote size msgs mine own a buf fits.0 m.0 e)
          ∙ ap (λ ys. read_of (wrote_all msgs mine ys buf) g) (sym (cond-true (touches g a) (a ∷ writers g xs) (writers g xs) h))
      go more (inr h) =
          ap (λ ys. read_of ys g) (wrote_all-last a xs buf fits.0 m.0 fits.1 m.1 apart.0 e)
          ∙ (read_wrote size msgs mine own a (wrote_all msgs mine xs buf) g fits.0 m.0
          (length_wrote_all size msgs mine own xs buf fits.1 m.1 e) inside (all_apart_of g (writes a) h)
          ∙ (more buf e
          ∙ ap (λ ys. read_of (wrote_all msgs mine ys buf) g) (sym (cond-false (touches g a) (a ∷ writers g xs) (writers g xs) h))))

pub rests_on_writers : RestsOnWriters
rests_on_writers n f lawful given laid j r low g inside =
    read_writers (f r).size (messages f given j r) (lock_step f given j r) (length_lock_step n f lawful given laid j r low) g
    (actions_at f j r) (lock_step f given j r) inside
    ((round_at (f r) (lawful.schedules r low) j).fits) (message_fits n f lawful given j r low (λ q k. length_lock_step n f lawful given laid j q k))
    (each_apart (actions_at f j r) ((round_at (f r) (lawful.schedules r low) j).follows)) (length_lock_step n f lawful given laid j r low)
