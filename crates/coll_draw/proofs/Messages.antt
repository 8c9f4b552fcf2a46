-- Each arrow of a lawful family is a message
use Rattle.std.proofs.Common.{◌≡◌, ℕ, zero, suc, ◌+◌, ◌<◌, ◌≤◌, List, [], ◌∷◌, ◌++◌, map, slice_get, Option, Some, None, refl, ap, subst, ◌∙◌, arith}
use Rattle.std.specs.Prelude.{flat_map, filter_map}
use Rattle.std.specs.List.{AllByRecursion, cons_option}
use Rattle.std.proofs.lemmas.Option.{none-some, same_Some}
use Rattle.coll_sched.specs.declared.action.Action.{Action}
use Rattle.coll_sched.specs.declared.action.Action.TheVariants.{Send, Copy, Combine, Recv}
use Rattle.coll_sched.specs.Common.{EachFollows, IsAmong, Family, IsLawful, actions_at, out_link, len_of, members}
use Rattle.coll_sched.proofs.Each.{all_at, all_from_at}
use Rattle.coll_sched.proofs.Rounds.{out_link_at, round_at}
use Rattle.coll_draw.specs.Drawings.{step_of, steps, round_steps, rounds_of, arrow_of, arrows}
use Rattle.coll_draw.specs.Laws.{IsMessage, ArrowsAreMessages}

-- ---- what holds of each element of a list that is made of others

all_both : {X : Type 0} (P : X → Type 0) (xs ys : List X) → AllByRecursion P xs → AllByRecursion P ys → AllByRecursion P (xs ++ ys)
all_both P [] ys a b = b
all_both P (x ∷ xs) ys a b = (a.0, all_both P xs ys a.1 b)

all_flat_map : {X Y : Type 0} (P : Y → Type 0) (f : X → List Y) (xs : List X) → AllByRecursion (λ x. AllByRecursion P (f x)) xs
    → AllByRecursion P (flat_map f xs)
all_flat_map P f [] h = tt
all_flat_map P f (x ∷ xs) h = all_both P (f x) (flat_map f xs) h.0 (all_flat_map P f xs h.1)

all_map : {X Y : Type 0} (P : Y → Type 0) (f : X → Y) (xs : List X) → AllByRecursion (λ x. P (f x)) xs → AllByRecursion P (map f xs)
all_map P f [] h = tt
all_map P f (x ∷ xs) h = (h.0, all_map P f xs h.1)

all_members : (P : ℕ → Type 0) (k c : ℕ) → ((r : ℕ) → k ≤ r → r < k + c → P r) → AllByRecursion P (members k c)
all_members P k zero h = tt
all_members P k (suc c) h = (h k (omega arith) (omega arith), all_members P (suc k) c (λ r low high. h r (omega arith) (omega arith)))

-- what holds of all that a function makes of them, where it makes something
abbrev Made : {X Y : Type 0} → (Y → Type 0) → (X → Option Y) → X → Type 0
Made {X} {Y} P f x = (y : Y) → f x ≡ Some y → P y

put_made : {Y : Type 0} (P : Y → Type 0) (o : Option Y) (ys : List Y) → ((y : Y) → o ≡ Some y → P y) → AllByRecursion P ys → AllByRecursion P (cons_option o ys)
put_made P None ys made rest = rest
put_made P (Some y) ys made rest = (made y refl, rest)

all_made : {X Y : Type 0} (P : Y → Type 0) (f : X → Option Y) (xs : List X) → AllByRecursion (Made P f) xs → AllByRecursion P (filter_map f xs)
all_made P f [] h = tt
all_made P f (x ∷ xs) h = put_made P (f x) (filter_map f xs) h.0 (all_made P f xs h.1)

-- ---- messages

module _ (n : ℕ) (f : Family) (not_none : 0 < n) (lawful : IsLawful n f) where
  -- a Send that stands in a round
  sent : (j r i to : ℕ) (from : _) → j < rounds_of f → r < n → slice_get (actions_at f j r) i ≡ Some (Send to from)
      → IsMessage n f (record { round = j; sender = r; receiver = to; len = from.len })
  sent j r i to from in_rounds low e =
      let follows : EachFollows (actions_at f j r) = (round_at (f r) (lawful.schedules r low) j).follows in
      let among : to < n = all_at (IsAmong n) (actions_at f j r) i (Send to from) (lawful.peers j r low) e in
      let out : len_of (out_link to (actions_at f j r)) ≡ Some from.len = ap len_of (out_link_at (actions_at f j r) i to from follows e) in
      record {
        round_is = in_rounds;
        sender_is = low;
        receiver_is = among;
        sent = out;
        received = lawful.aligned j to r among low ∙ out;
      }

  made : (j r i : ℕ) (a : Action) → j < rounds_of f → r < n → slice_get (actions_at f j r) i ≡ Some a → Made (IsMessage n f) arrow_of (step_of j r a)
  made j r i (Send to from) in_rounds low e arrow is = subst (IsMessage n f) (same_Some _ arrow is) (sent j r i to from in_rounds low e)
  made j r i (Copy from into) in_rounds low e arrow is = absurd (none-some arrow is)
  made j r i (Combine op ty left right into) in_rounds low e arrow is = absurd (none-some arrow is)
  made j r i (Recv of into) in_rounds low e arrow is = absurd (none-some arrow is)

  all_steps : AllByRecursion (Made (IsMessage n f) arrow_of) (steps n f)
  all_steps =
      all_flat_map (Made (IsMessage n f) arrow_of) (round_steps n f) (members 0 (rounds_of f))
      (all_members (λ j. AllByRecursion (Made (IsMessage n f) arrow_of) (round_steps n f j)) 0 (rounds_of f) (λ j a in_rounds.
      all_flat_map (Made (IsMessage n f) arrow_of) (λ r. map (step_of j r) (actions_at f j r)) (members 0 n)
      (all_members (λ r. AllByRecursion (Made (IsMessage n f) arrow_of) (map (step_of j r) (actions_at f j r))) 0 n (λ r b low.
      all_map (Made (IsMessage n f) arrow_of) (step_of j r) (actions_at f j r)
      (all_from_at (λ a. Made (IsMessage n f) arrow_of (step_of j r a)) (actions_at f j r) (λ i a e.
      made j r i a (omega arith) (omega arith) e))))))

  all_arrows : AllByRecursion (IsMessage n f) (arrows n f)
  all_arrows = all_made (IsMessage n f) arrow_of (steps n f) all_steps

pub arrows_are_messages : ArrowsAreMessages
arrows_are_messages n f not_none lawful = all_arrows n f not_none lawful
