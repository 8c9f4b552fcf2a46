-- The test of all entries finds an outcome exactly where the trace attests it.
use Rattle.std.proofs.Common.{◌≡◌, ◌∙◌, ◌↔◌, ℕ, Bool, IsTrue, zero, suc, ◌<◌, ◌&&◌, true, eqb, List, [], ◌∷◌, length, get_or, sym, ◌⊎◌, inl, inr}
use Rattle.std.proofs.Common.{refl, subst, arith}
use Rattle.std.specs.Bool.{Decides}
use Rattle.std.specs.List.{list_any}
use Rattle.std.specs.Str.{bytes_eq}
use Rattle.std.proofs.lemmas.Bool.{and_from, and_parts, eq-eqb, eqb-true, false≢true, or_cases, or_left, or_right}
use Rattle.std.proofs.lemmas.Slice.Eq.{bytes_eq-Decides}
use Rattle.coll_kinds.specs.declared.ticket.Ticket.{Ticket}
use Rattle.coll_machine.specs.declared.key.Key.{Key}
use Rattle.coll_machine.specs.Entries.{Entry, Posted, Inited, Started, Retired, Freed}
use Rattle.coll_core.specs.declared.outcome.Outcome.{Outcome}
use Rattle.coll_report.specs.declared.entry.Entry as rust_entry
use Rattle.coll_report.specs.Attested.{HandsOut, IsAttested, attests, key_of}
use Rattle.coll_report.specs.Views.{seen, trace_seen}

-- what passes the test is the completion
attests-true : (e : Entry) (r : ℕ) (k : Key) (b : List ℕ) → attests r k b e ≡ true
    → (t : Ticket) × (e ≡ Retired r t k.comm k.place k.start b)
attests-true (Posted rank t comm place sig bytes) r k b at = absurd (false≢true at)
attests-true (Inited rank t comm place sig) r k b at = absurd (false≢true at)
attests-true (Started rank t start bytes) r k b at = absurd (false≢true at)
attests-true (Freed rank t) r k b at = absurd (false≢true at)
attests-true (Retired rank t comm place start bytes) r k b at =
    let w = and_parts (eqb rank r && eqb comm k.comm && eqb place k.place && eqb start k.start) (bytes_eq bytes b) at in
    let z = and_parts (eqb rank r && eqb comm k.comm && eqb place k.place) (eqb start k.start) w.0 in
    let y = and_parts (eqb rank r && eqb comm k.comm) (eqb place k.place) z.0 in
    let x = and_parts (eqb rank r) (eqb comm k.comm) y.0 in
    let rank_is = eqb-true rank r x.0 in
    let comm_is = eqb-true comm k.comm x.1 in
    let place_is = eqb-true place k.place y.1 in
    let start_is = eqb-true start k.start z.1 in
    let bytes_are = (bytes_eq-Decides bytes b).0 w.1 in
    (t, λ i. Retired (rank_is i) t (comm_is i) (place_is i) (start_is i) (bytes_are i))

-- and the completion passes it
attests-Retired : (r : ℕ) (t : Ticket) (k : Key) (b : List ℕ)
    → attests r k b (Retired r t k.comm k.place k.start b) ≡ true
attests-Retired r t k b =
    and_from _ _
    (and_from _ _
    (and_from _ _
    (and_from _ _ (eq-eqb r r refl) (eq-eqb k.comm k.comm refl))
    (eq-eqb k.place k.place refl))
    (eq-eqb k.start k.start refl))
    ((bytes_eq-Decides b b).1 refl)

pub attests-Decides : (e : Entry) (o : Outcome) (answer : Bool)
    → answer ≡ attests o.rank (key_of o) o.bytes e → IsTrue answer ↔ HandsOut e o
attests-Decides e o answer is = (
  λ at. attests-true e o.rank (key_of o) o.bytes (sym is ∙ at),
  λ p. is
      ∙ subst (λ (e : Entry). attests o.rank (key_of o) o.bytes e ≡ true) (sym p.1)
      (attests-Retired o.rank p.0 (key_of o) o.bytes),
)

abbrev any_attests : ℕ → Key → List ℕ → List rust_entry.Entry → Bool
any_attests r k b es = list_any (λ e. attests r k b (seen e)) es

any_attests-true : (r : ℕ) (k : Key) (b : List ℕ) (es : List rust_entry.Entry)
    → any_attests r k b es ≡ true → IsAttested (trace_seen es) r k b
any_attests-true r k b [] at = absurd (false≢true at)
any_attests-true r k b (e ∷ es) at =
    go (or_cases (attests r k b (seen e)) (any_attests r k b es) at) (any_attests-true r k b es)
  where
    go : (attests r k b (seen e) ≡ true) ⊎ (any_attests r k b es ≡ true)
        → (any_attests r k b es ≡ true → IsAttested (trace_seen es) r k b) → IsAttested (trace_seen (e ∷ es)) r k b
    go (inl is) rest = let p = attests-true (seen e) r k b is in (p.0, (0, omega arith, p.1))
    go (inr is) rest = let p = rest is in (p.0, (suc p.1.0, omega (arith, p.1.1), p.1.2))

any_attests-attested : (r : ℕ) (k : Key) (b : List ℕ) (es : List rust_entry.Entry) (t : Ticket) (n : ℕ)
    → n < length (trace_seen es)
    → get_or (trace_seen es) n (Retired r t k.comm k.place k.start b) ≡ Retired r t k.comm k.place k.start b
    → any_attests r k b es ≡ true
any_attests-attested r k b [] t n low at = absurd (omega (arith, low))
any_attests-attested r k b (e ∷ es) t zero low at =
    or_left (attests r k b (seen e)) (any_attests r k b es)
    (subst (λ (e : Entry). attests r k b e ≡ true) (sym at) (attests-Retired r t k b))
any_attests-attested r k b (e ∷ es) t (suc n) low at =
    or_right (attests r k b (seen e)) (any_attests r k b es) (any_attests-attested r k b es t n (omega (arith, low)) at)

pub any_attests-Decides : (r : ℕ) (k : Key) (b : List ℕ) (es : List rust_entry.Entry)
    → Decides (any_attests r k b es) (IsAttested (trace_seen es) r k b)
any_attests-Decides r k b es =
    (any_attests-true r k b es, λ (t, (n, low, at)). any_attests-attested r k b es t n low at)

-- so does the answer of that test over the entries of a trace
pub any_attests-by : (r : ℕ) (k : Key) (b : List ℕ) (answer : Bool) (es : List rust_entry.Entry) (entries : List Entry)
    → answer ≡ any_attests r k b es → trace_seen es ≡ entries → IsTrue answer ↔ IsAttested entries r k b
any_attests-by r k b answer es entries is shown =
    subst (λ (l : List Entry). IsTrue answer ↔ IsAttested l r k b) shown
    (subst (λ (x : Bool). IsTrue x ↔ IsAttested (trace_seen es) r k b) (sym is) (any_attests-Decides r k b es))
