-- A list of requests that are started one after the other.
use Rattle.std.proofs.Common.{◌≡◌, ℕ, zero, suc, ◌+◌, ◌<◌, ◌≤◌, List, [], ◌∷◌, length, get_or, set, take, Option, None, refl, sym, ap, subst, ◌∙◌, arith}
use Rattle.std.specs.Prelude.{slice_index_or, slice_set}
use Rattle.std.specs.List.{zip}
use Rattle.std.proofs.lemmas.Option.{get_or_from_slice_get, slice_get-get_or}
use Rattle.coll_kinds.specs.declared.refusal.Refusal.{Refusal}
use Rattle.coll_kinds.specs.declared.ticket.Ticket.{Ticket}
use Rattle.coll_machine.specs.Common.{Setting, Call, Machine}
use Rattle.coll_complete.specs.Starting.{Begun, DeniesAt, StartsAll, StartsAt, unused}

starts-take : (g : Setting) (rank : ℕ) (bs : List Begun) (i : ℕ) (d : Begun) (m n k : Machine) → i < length bs
    → StartsAll g rank m (take i bs) n → StartsAt g rank n (get_or bs i d) k → StartsAll g rank m (take (suc i) bs) k
starts-take g rank [] i d m n k lt h at = absurd (omega arith)
starts-take g rank (b ∷ bs) zero d m n k lt h at = (k, subst (λ (m : Machine). StartsAt g rank m b k) (sym h) at, refl)
starts-take g rank (b ∷ bs) (suc i) d m n k lt h at = (h.0, h.1, starts-take g rank bs i d h.0 n k (omega arith) h.2 at)

length-zip : (xs : List (Option Ticket)) (ys : List (List ℕ)) → length xs ≡ length ys → length (zip xs ys) ≡ length xs
length-zip [] ys e = refl
length-zip (x ∷ xs) [] e = absurd (omega (arith, e))
length-zip (x ∷ xs) (y ∷ ys) e = ap suc (length-zip xs ys (omega (arith, e)))

get_or-zip : (xs : List (Option Ticket)) (ys : List (List ℕ)) (i : ℕ) (d : Option Ticket) (e : List ℕ)
    → length xs ≡ length ys → i < length xs → get_or (zip xs ys) i (d, e) ≡ (get_or xs i d, get_or ys i e)
get_or-zip [] ys i d e long lt = absurd (omega arith)
get_or-zip (x ∷ xs) [] i d e long lt = absurd (omega (arith, long))
get_or-zip (x ∷ xs) (y ∷ ys) zero d e long lt = refl
get_or-zip (x ∷ xs) (y ∷ ys) (suc i) d e long lt = get_or-zip xs ys i d e (omega (arith, long)) (omega arith)

take-zip : (xs : List (Option Ticket)) (ys : List (List ℕ)) (i : ℕ) → length xs ≡ length ys → length xs ≤ i
    → take i (zip xs ys) ≡ zip xs ys
take-zip [] ys zero long le = refl
take-zip [] ys (suc i) long le = refl
take-zip (x ∷ xs) [] i long le = absurd (omega (arith, long))
take-zip (x ∷ xs) (y ∷ ys) zero long le = absurd (omega arith)
take-zip (x ∷ xs) (y ∷ ys) (suc i) long le =
    ap (λ ps. (x, y) ∷ ps) (take-zip xs ys i (omega (arith, long)) (omega arith))

set-unused : (ys : List (List ℕ)) (i : ℕ) → i < length ys → set (unused i ys) i [] ≡ unused (suc i) ys
set-unused [] i lt = absurd (omega arith)
set-unused (y ∷ ys) zero lt = refl
set-unused (y ∷ ys) (suc i) lt = ap (λ ys. [] ∷ ys) (set-unused ys i (omega arith))

get_or-unused : (ys : List (List ℕ)) (i : ℕ) (d : List ℕ) → i < length ys → get_or (unused i ys) i d ≡ get_or ys i d
get_or-unused [] i d lt = absurd (omega arith)
get_or-unused (y ∷ ys) zero d lt = refl
get_or-unused (y ∷ ys) (suc i) d lt = get_or-unused ys i d (omega arith)

-- the bytes at position i are still there
pub given-at : (given now : List (List ℕ)) (i : ℕ) (d : List ℕ) → now ≡ unused i given → i < length given
    → slice_index_or now i d ≡ slice_index_or given i []
given-at given now i d is lt =
    ap (λ (ys : List (List ℕ)). get_or ys i d) is
    ∙ (get_or-unused given i d lt ∙ sym (get_or_from_slice_get given i (get_or given i d) [] (slice_get-get_or given i d lt)))

-- and are taken
pub given-set : (given now : List (List ℕ)) (i : ℕ) (v : List ℕ) → now ≡ unused i given → i < length given → v ≡ []
    → slice_set now i v ≡ unused (i + 1) given
given-set given now i v is lt empty =
    let e : suc i ≡ i + 1 = omega arith in
    ap (λ (ys : List (List ℕ)). set ys i v) is
    ∙ (ap (λ (y : List ℕ). set (unused i given) i y) empty ∙ (set-unused given i lt ∙ ap (λ i. unused i given) e))

-- what the loop reads at position i is the request and the bytes of that position
pub begun-at : (list : List (Option Ticket)) (given now : List (List ℕ)) (i : ℕ) (x : Option Ticket) (v : List ℕ)
    → now ≡ unused i given → length list ≡ length given → i < length list → x ≡ slice_index_or list i x → v ≡ slice_index_or now i v
    → let read : Begun = (x, v) in read ≡ (slice_index_or list i None, slice_index_or given i [])
begun-at list given now i x v is long lt at_x at_v =
    let first : x ≡ slice_index_or list i None =
    at_x ∙ sym (get_or_from_slice_get list i (get_or list i x) None (slice_get-get_or list i x lt)) in
    let second : v ≡ slice_index_or given i [] = at_v ∙ given-at given now i v is (omega (arith, long, lt)) in
    λ k. (first k, second k)

-- one start more; the engine's setting is written as before the call and as at the first
pub starts-more : (g h : Setting) (rank : ℕ) (list : List (Option Ticket)) (lists : List (List ℕ)) (m n k : Machine)
    (i : ℕ) (b : Begun)
    → h ≡ g → length list ≡ length lists → i < length list → StartsAll g rank m (take i (zip list lists)) n
    → b ≡ (slice_index_or list i None, slice_index_or lists i []) → StartsAt h rank n b k
    → StartsAll g rank m (take (i + 1) (zip list lists)) k
starts-more g h rank list lists m n k i b set long lt before is at =
    let low : i < length (zip list lists) = rw (length-zip list lists long) lt in
    let there : b ≡ get_or (zip list lists) i (None, []) = is ∙ sym (get_or-zip list lists i None [] long lt) in
    let e : suc i ≡ i + 1 = omega arith in
    subst (λ i. StartsAll g rank m (take i (zip list lists)) k) e
    (starts-take g rank (zip list lists) i (None, []) m n k low before
    (subst (λ (b : Begun). StartsAt g rank n b k) there (subst (λ (g : Setting). StartsAt g rank n b k) set at)))

pub starts-all : (g : Setting) (rank : ℕ) (list : List (Option Ticket)) (lists : List (List ℕ)) (m n : Machine) (i : ℕ)
    → length list ≡ length lists → length list ≤ i → StartsAll g rank m (take i (zip list lists)) n
    → StartsAll g rank m (zip list lists) n
starts-all g rank list lists m n i long le h =
    subst (λ (bs : List Begun). StartsAll g rank m bs n) (take-zip list lists i long le) h

-- a refused start, in the words of the call
pub refuses-at : (Denies : Call → Refusal → Type 0) (rank : ℕ) (b d : Begun) (why : Refusal) → b ≡ d
    → DeniesAt Denies rank b why → DeniesAt Denies rank d why
refuses-at Denies rank b d why is at = subst (λ (b : Begun). DeniesAt Denies rank b why) is at
