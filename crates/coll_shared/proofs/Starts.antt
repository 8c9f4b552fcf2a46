-- A list of requests that are started one after the other, with what shows each start.
use Rattle.std.proofs.Common.{◌≡◌, ℕ, zero, suc, ◌+◌, ◌<◌, ◌≤◌, List, [], ◌∷◌, ◌++◌, length, get_or, take, Option, None, refl, sym, ap, subst, ◌∙◌}
use Rattle.std.proofs.Common.{arith, append_assoc}
use Rattle.std.specs.Prelude.{slice_index_or}
use Rattle.std.specs.List.{zip}
use Rattle.std.proofs.lemmas.List.{append-nil, take_more}
use Rattle.coll_kinds.specs.declared.ticket.Ticket.{Ticket}
use Rattle.coll_kinds.specs.declared.refusal.Refusal.{Refusal}
use Rattle.coll_machine.specs.Common.{Entry, Setting}
use Rattle.coll_complete.specs.Starting.{Begun}
use Rattle.coll_traced.specs.Calls.{IsStarted}
use Rattle.coll_traced.specs.Denials.{DeniesStart}
use Rattle.coll_shared.specs.Starts.{AreStarted, PushesStarts}

length-zip : (xs : List (Option Ticket)) (ys : List (List ℕ)) → length xs ≡ length ys → length (zip xs ys) ≡ length xs
length-zip [] ys e = refl
length-zip (x ∷ xs) [] e = absurd (omega (arith, e))
length-zip (x ∷ xs) (y ∷ ys) e = ap suc (length-zip xs ys (omega (arith, e)))

get_or-zip : (xs : List (Option Ticket)) (ys : List (List ℕ)) (i : ℕ) (d : Option Ticket) (e : List ℕ)
    → length xs ≡ length ys → i < length xs → get_or (zip xs ys) i (d, e) ≡ (get_or xs i d, get_or ys i e)
get_or-zip [] ys i d e long lt = absurd (omega arith)
get_or-zip (x ∷ xs) [] i d e long lt = absurd (omega (arith, long))
get_or-zip (x ∷ xs) (y ∷ ys) zero d e long lt = refl
get_or-zip (x ∷ xs) (y ∷ ys) (suc i) d e long lt = get_or-zip xs ys i d e (omega (arith, long)) (omega arith)

take-zip : (xs : List (Option Ticket)) (ys : List (List ℕ)) (i : ℕ) → length xs ≡ length ys → length xs ≤ i
    → take i (zip xs ys) ≡ zip xs ys
take-zip [] ys zero long le = refl
take-zip [] ys (suc i) long le = refl
take-zip (x ∷ xs) [] i long le = absurd (omega (arith, long))
take-zip (x ∷ xs) (y ∷ ys) zero long le = absurd (omega arith)
take-zip (x ∷ xs) (y ∷ ys) (suc i) long le =
    ap (λ ps. (x, y) ∷ ps) (take-zip xs ys i (omega (arith, long)) (omega arith))

-- one more of each
started-more : (rank : ℕ) (bs : List Begun) (es : List Entry) (b : Begun) (e : Entry) → AreStarted rank bs es
    → IsStarted rank b.0 b.1 e → AreStarted rank (bs ++ b ∷ []) (es ++ e ∷ [])
started-more rank [] [] b e h k = (k, tt)
started-more rank [] (x ∷ es) b e h k = absurd h
started-more rank (x ∷ bs) [] b e h k = absurd h
started-more rank (x ∷ bs) (y ∷ es) b e h k = (h.0, started-more rank bs es b e h.1 k)

pushes-more : (rank : ℕ) (all : List Begun) (i : ℕ) (d b : Begun) (was now next : List Entry) (e : Entry)
    → i < length all → get_or all i d ≡ b → PushesStarts rank (take i all) was now → IsStarted rank b.0 b.1 e
    → next ≡ now ++ e ∷ [] → PushesStarts rank (take (i + 1) all) was next
pushes-more rank all i d b was now next e lt is p k pushed =
    let here : IsStarted rank (get_or all i d).0 (get_or all i d).1 e = subst (λ (b : Begun). IsStarted rank b.0 b.1 e) (sym is) k in
    let more = started-more rank (take i all) p.0 (get_or all i d) e p.2 here in (
      p.0 ++ e ∷ [],
      pushed ∙ (ap (λ (xs : List Entry). xs ++ e ∷ []) p.1 ∙ append_assoc was p.0 (e ∷ [])),
      subst (λ (bs : List Begun). AreStarted rank bs (p.0 ++ e ∷ [])) (sym (take_more all i d lt)) more,
    )

-- the start at position i of these requests, with the bytes that are there
pub starts-more : (rank : ℕ) (list : List (Option Ticket)) (lists : List (List ℕ)) (was now next : List Entry) (e : Entry) (i : ℕ)
    (b : Begun)
    → length list ≡ length lists → i < length list → PushesStarts rank (take i (zip list lists)) was now
    → b ≡ (slice_index_or list i None, slice_index_or lists i []) → IsStarted rank b.0 b.1 e → next ≡ now ++ e ∷ []
    → PushesStarts rank (take (i + 1) (zip list lists)) was next
starts-more rank list lists was now next e i b long lt before is at pushed =
    let low : i < length (zip list lists) = rw (length-zip list lists long) lt in
    let there : get_or (zip list lists) i (None, []) ≡ b = get_or-zip list lists i None [] long lt ∙ sym is in
    pushes-more rank (zip list lists) i (None, []) b was now next e low there before at pushed

pub starts-none : (rank : ℕ) (all : List Begun) (was : List Entry) → PushesStarts rank (take 0 all) was was
starts-none rank all was = ([], sym (append-nil was), tt)

pub starts-all : (rank : ℕ) (list : List (Option Ticket)) (lists : List (List ℕ)) (was now : List Entry) (i : ℕ)
    → length list ≡ length lists → length list ≤ i → PushesStarts rank (take i (zip list lists)) was now
    → PushesStarts rank (zip list lists) was now
starts-all rank list lists was now i long le h =
    subst (λ (bs : List Begun). PushesStarts rank bs was now) (take-zip list lists i long le) h

-- a refused start, in the words of the call
pub denies-at : (g : Setting) (made rank : ℕ) (b d : Begun) (why : Refusal) → b ≡ d → DeniesStart g made rank b.0 b.1 why
    → DeniesStart g made rank d.0 d.1 why
denies-at g made rank b d why is at = subst (λ (b : Begun). DeniesStart g made rank b.0 b.1 why) is at
