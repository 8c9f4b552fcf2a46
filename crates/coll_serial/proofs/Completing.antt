-- The test of one request of a list, by the test of a request with its span as the memory.
use Rattle.std.proofs.Common.{◌≡◌, ℕ, ◌+◌, ◌-◌, ◌≤◌, inl, inr, Bool, true, false, List, ◌++◌, length, take, drop, Option, Some, None, refl, sym, ap}
use Rattle.std.proofs.Common.{subst, ◌∙◌, arith}
use Rattle.std.specs.Prelude.{if◌then◌else◌, option_map, unwrap_or}
use Rattle.std.proofs.lemmas.List.{take-append-drop}
use Rattle.std.proofs.lemmas.Option.{none-some}
use Rattle.coll_kinds.specs.declared.kind.Mode.{Mode}
use Rattle.coll_kinds.specs.declared.kind.Mode.TheVariants.{Once, Persistent}
use Rattle.coll_kinds.specs.declared.refusal.Refusal.{Refusal}
use Rattle.coll_kinds.specs.declared.ticket.Ticket.{Ticket}
use Rattle.coll_machine.specs.Common.{Setting, Machine, Request, found, Runs}
use Rattle.coll_complete.specs.Completing.{completion}
use Rattle.coll_complete.specs.Requests.{hold_after, hold_by, is_done, left_of, refusal_at}
use Rattle.coll_serial.specs.declared.part.Part.{Part}
use Rattle.coll_serial.specs.declared.test.Test.{Test}
use Rattle.coll_serial.specs.declared.test.Test.TheVariants.{Completed}
use Rattle.coll_serial.specs.Tests.{IfCompleted}
use Rattle.coll_serial.specs.Calls.{Completes, DeniesTest}
use Rattle.coll_serial.specs.Lengths.{IsOutcomeLengthAt}
use Rattle.coll_serial.specs.Lists.{CompletesPart}
use Rattle.coll_serial.specs.Parts.{kept_in, span_len, ticket_of}
use Rattle.coll_serial.proofs.Spans.{spliced}

-- a request that may be completed, and whose outcome fits, isn't refused
pub not_denied : (g : Setting) (m : Machine) (rank : ℕ) (r : Option Ticket) (room : ℕ) (why : Refusal)
    → refusal_at g m.state rank r ≡ None
    → (is_done m r ≡ true → (want : ℕ) → IsOutcomeLengthAt g m.state r want → want ≤ room)
    → DeniesTest g m rank r room why → ⊥
not_denied g m rank r room why none fits (inl e) = none-some why (sym none ∙ e)
not_denied g m rank None room why none fits (inr s) = s
not_denied g m rank (Some t) room why none fits (inr s) =
    let le = fits s.done s.want s.want_is in let lt = s.less in omega (arith, le, lt)

-- what holds of the count of a test that completed
pub of_count : (P : ℕ → Type 0) (test : Test) (count : ℕ) → test ≡ Completed count → IfCompleted P test → P count
of_count P test count e h = subst (IfCompleted P) e h

-- what is left of a request is itself or null
pub kept_left : (m : Machine) (r : Option Ticket) → kept_in (left_of m r) r ≡ left_of m r
kept_left m None = refl
kept_left m (Some t) = go (is_done m (Some t))
  where
    of_mode : (mode : Mode) → kept_in (hold_by mode t) (Some t) ≡ hold_by mode t
    of_mode Once = refl
    of_mode Persistent = refl

    of_found : (o : Option Request)
        → kept_in (unwrap_or (option_map (λ (q : Request). hold_by q.mode t) o) (Some t)) (Some t)
        ≡ unwrap_or (option_map (λ (q : Request). hold_by q.mode t) o) (Some t)
    of_found None = refl
    of_found (Some q) = of_mode q.mode

    go : (b : Bool) → kept_in (if b then hold_after m.state t else Some t) (Some t)
        ≡ (if b then hold_after m.state t else Some t)
    go true = of_found (found m.state t)
    go false = refl

-- one that isn't Done is left as it is
left_undone : (m : Machine) (r : Option Ticket) → is_done m r ≡ false → left_of m r ≡ r
left_undone m None e = refl
left_undone m (Some t) e = ap (λ b. if b then hold_after m.state t else Some t) e

-- ---- what is written: the memory before the span, the span, and what lies after it

pub completed : (g : Setting) (rank : ℕ) (m n : Machine) (p q : Part) (held left : Option Ticket) (old sub sub_old : List ℕ)
    (b e count : ℕ)
    → held ≡ ticket_of p → left ≡ left_of m held → ticket_of q ≡ kept_in left (ticket_of p)
    → b ≡ length old - (length old - p.at) → e ≡ b + span_len p (length old) → sub_old ≡ take (e - b) (drop b old)
    → Completes g m rank held sub_old count sub n → length sub_old ≡ span_len p (length old)
    → is_done m held ≡ true → q.completed ≡ true → q.count ≡ count → q.at ≡ p.at → q.room ≡ p.room
    → CompletesPart g rank m n p q old (take b old ++ (sub ++ drop (e - b) (drop b old)))
completed g rank m n p q held left old sub sub_old b e count held_is left_is q_is b_is e_is old_is c long done completed_is count_is at_is room_is =
    let fits : length c.outcome.bytes ≤ span_len p (length old) =
    let r = c.room in let k = c.count_is in omega (arith, r, k, long) in
    record {
      outcome = Some c.outcome;
      done = sym done ∙ ap (is_done m) held_is;
      runs = subst (λ (r : Option Ticket). Runs g m (completion rank r c.outcome) n) held_is c.runs;
      memory =
          spliced p old c.outcome.bytes sub b e b_is e_is fits
          (c.fills ∙ ap (λ (ys : List ℕ). c.outcome.bytes ++ drop (length c.outcome.bytes) ys) old_is);
      completed = completed_is;
      count_is = count_is ∙ c.count_is;
      request =
          q_is ∙ (ap (λ (r : Option Ticket). kept_in r (ticket_of p)) (left_is ∙ ap (left_of m) held_is)
          ∙ kept_left m (ticket_of p));
      at_is = at_is;
      room_is = room_is;
    }

whole : (old sub : List ℕ) (b n : ℕ) → sub ≡ take n (drop b old) → take b old ++ (sub ++ drop n (drop b old)) ≡ old
whole old sub b n is =
    ap (λ ys. take b old ++ ys)
    (ap (λ ys. ys ++ drop n (drop b old)) is ∙ take-append-drop n (drop b old)) ∙ take-append-drop b old

pub skipped : (g : Setting) (rank : ℕ) (m n : Machine) (p q : Part) (held : Option Ticket) (old sub : List ℕ) (b k : ℕ)
    → held ≡ ticket_of p → m ≡ n → sub ≡ take k (drop b old) → is_done m held ≡ false
    → ticket_of q ≡ ticket_of p → q.completed ≡ false → q.count ≡ 0 → q.at ≡ p.at → q.room ≡ p.room
    → CompletesPart g rank m n p q old (take b old ++ (sub ++ drop k (drop b old)))
skipped g rank m n p q held old sub b k held_is same sub_is undone q_is completed_is count_is at_is room_is =
    let off : is_done m (ticket_of p) ≡ false = ap (is_done m) (sym held_is) ∙ undone in
    record {
      outcome = None;
      done = sym off;
      runs = same;
      memory = whole old sub b k sub_is;
      completed = completed_is;
      count_is = count_is;
      request = q_is ∙ sym (left_undone m (ticket_of p) off);
      at_is = at_is;
      room_is = room_is;
    }
