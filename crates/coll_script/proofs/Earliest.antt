-- The earliest request at a place is one there, and none there is earlier.
use Rattle.std.proofs.Common.{◌≡◌, ℕ, zero, suc, ◌<◌, ◌≤◌, Bool, true, false, cond, ltb, List, [], ◌∷◌, ◌⊎◌, Option, Some, None, refl, ap, sym, ◌∙◌}
use Rattle.std.proofs.Common.{arith, inl, inr}
use Rattle.std.specs.Prelude.{slice_get}
use Rattle.std.specs.Option.{option_map}
use Rattle.std.proofs.lemmas.Bool.Decides.{nat_tests}
use Rattle.std.proofs.lemmas.Option.{none-some, same_Some}
use Rattle.coll_parser.specs.Requests.{Request}
use Rattle.coll_script.specs.declared.first.Earliest.{Earliest}
use Rattle.coll_script.specs.Matching.{first_of, first_at, earlier, earliest}
use Rattle.coll_script.specs.Belonging.{StandsAt}

-- ---- the earlier of two

chosen : (b : Bool) (p q f : Earliest) → cond b (Some q) (Some p) ≡ Some f → (Some p ≡ Some f) ⊎ (Some q ≡ Some f)
chosen true p q f e = inr e
chosen false p q f e = inl e

earlier-is : (o q : Option Earliest) (f : Earliest) → earlier o q ≡ Some f → (o ≡ Some f) ⊎ (q ≡ Some f)
earlier-is None q f e = inr e
earlier-is (Some p) None f e = inl e
earlier-is (Some p) (Some q) f e = chosen (ltb q.line p.line) p q f e

below-both : (b : Bool) (p q : Earliest) → ltb q.line p.line ≡ b → (f : Earliest) → cond b (Some q) (Some p) ≡ Some f → (f.line ≤ p.line) × (f.line ≤ q.line)
below-both true p q test f e =
    let lt : q.line < p.line = grind (arith, nat_tests) in
    let same : q.line ≡ f.line = ap (λ (g : Earliest). g.line) (same_Some q f e) in
    (omega (arith, lt, same), omega (arith, same))
below-both false p q test f e =
    let ge : p.line ≤ q.line = grind (arith, nat_tests) in
    let same : p.line ≡ f.line = ap (λ (g : Earliest). g.line) (same_Some p f e) in
    (omega (arith, same), omega (arith, ge, same))

line-same : (p g f : Earliest) → Some p ≡ Some f → Some p ≡ Some g → f.line ≤ g.line
line-same p g f e is = let same : f.line ≡ g.line = ap (λ (h : Earliest). h.line) (sym (same_Some p f e) ∙ same_Some p g is) in omega (arith, same)

earlier-le : (o q : Option Earliest) (f g : Earliest) → earlier o q ≡ Some f → (o ≡ Some g) ⊎ (q ≡ Some g) → f.line ≤ g.line
earlier-le None None f g e h = absurd (none-some f e)
earlier-le None (Some q) f g e h = elim h [ inl is ↦ absurd (none-some g is) | inr is ↦ line-same q g f e is ]
earlier-le (Some p) None f g e h = elim h [ inl is ↦ line-same p g f e is | inr is ↦ absurd (none-some g is) ]
earlier-le (Some p) (Some q) f g e h =
    let both = below-both (ltb q.line p.line) p q refl f e in
    elim h [
      | inl is ↦ (let same : p.line ≡ g.line = ap (λ (x : Earliest). x.line) (same_Some p g is) in omega (arith, both.0, same))
      | inr is ↦ (let same : q.line ≡ g.line = ap (λ (x : Earliest). x.line) (same_Some q g is) in omega (arith, both.1, same))
    ]

pub record IsSomething (o : Option Earliest) : Type 0 where
  pub f : Earliest
  pub is : o ≡ Some f

either-some : (b : Bool) (p q : Earliest) → IsSomething (cond b (Some q) (Some p))
either-some true p q = record { f = q; is = refl }
either-some false p q = record { f = p; is = refl }

earlier-some : (o q : Option Earliest) (g : Earliest) → (o ≡ Some g) ⊎ (q ≡ Some g) → IsSomething (earlier o q)
earlier-some None None g h = absurd (elim h [ inl is ↦ none-some g is | inr is ↦ none-some g is ])
earlier-some None (Some q) g h = record { f = q; is = refl }
earlier-some (Some p) None g h = record { f = p; is = refl }
earlier-some (Some p) (Some q) g h = either-some (ltb q.line p.line) p q

-- ---- the earliest of all lists

-- one of the requests there
pub record IsThere (lists : List (List Request)) (place : ℕ) (f : Earliest) : Type 0 where
  pub p : Request
  pub stands : StandsAt lists place p
  pub is_first : first_of p ≡ f

record AtPlace (o : Option Request) (f : Earliest) : Type 0 where
  pub p : Request
  pub is : o ≡ Some p
  pub is_first : first_of p ≡ f

at-place : (o : Option Request) (f : Earliest) → option_map first_of o ≡ Some f → AtPlace o f
at-place None f e = absurd (none-some f e)
at-place (Some p) f e = record { p = p; is = refl; is_first = same_Some (first_of p) f e }

in-front : (list : List Request) (lists : List (List Request)) (place : ℕ) (f : Earliest) → first_at list place ≡ Some f → IsThere (list ∷ lists) place f
in-front list lists place f e =
    let at = at-place (slice_get list place) f e in
    record { p = at.p; stands = record { member = 0; list = list; is_list = refl; is_there = at.is }; is_first = at.is_first }

behind : (list : List Request) (lists : List (List Request)) (place : ℕ) (f : Earliest) → IsThere lists place f → IsThere (list ∷ lists) place f
behind list lists place f there =
    let stands = there.stands in
    record {
      p = there.p;
      stands =
          record { member = suc stands.member; list = stands.list; is_list = stands.is_list; is_there = stands.is_there };
      is_first = there.is_first;
    }

pub earliest-is : (o : Option Earliest) (place : ℕ) (lists : List (List Request)) (f : Earliest)
    → earliest o place lists ≡ Some f → (o ≡ Some f) ⊎ IsThere lists place f
earliest-is o place [] f e = inl e
earliest-is o place (list ∷ lists) f e = elim (earliest-is (earlier o (first_at list place)) place lists f e) [
  | inl is ↦ elim (earlier-is o (first_at list place) f is) [ inl one ↦ inl one | inr other ↦ inr (in-front list lists place f other) ]
  | inr there ↦ inr (behind list lists place f there)
]

-- what a request says of the list in which it stands
stands-cases : (list : List Request) (lists : List (List Request)) (place : ℕ) (p : Request) → StandsAt (list ∷ lists) place p
    → (first_at list place ≡ Some (first_of p)) ⊎ StandsAt lists place p
stands-cases list lists place p stands = by_member stands.member stands.is_list
  where
    by_member : (m : ℕ) → slice_get (list ∷ lists) m ≡ Some stands.list → (first_at list place ≡ Some (first_of p)) ⊎ StandsAt lists place p
    by_member zero is = inl (ap (option_map first_of) (ap (λ (l : List Request). slice_get l place) (same_Some list stands.list is) ∙ stands.is_there))
    by_member (suc m) is = inr (record { member = m; list = stands.list; is_list = is; is_there = stands.is_there })

nowhere : (place : ℕ) (p : Request) → StandsAt [] place p → ⊥
nowhere place p stands = none-some stands.list stands.is_list

pub earliest-le : (o : Option Earliest) (place : ℕ) (lists : List (List Request)) (f : Earliest)
    → earliest o place lists ≡ Some f → ((g : Earliest) → o ≡ Some g → f.line ≤ g.line) × ((p : Request) → StandsAt lists place p → f.line ≤ p.line)
earliest-le None place [] f e = absurd (none-some f e)
earliest-le (Some h) place [] f e = (λ g is. line-same h g f e is, λ p stands. absurd (nowhere place p stands))
earliest-le o place (list ∷ lists) f e =
    let rest = earliest-le (earlier o (first_at list place)) place lists f e in
    let reached : (g : Earliest) → (o ≡ Some g) ⊎ (first_at list place ≡ Some g) → f.line ≤ g.line = λ g h.
    (let it = earlier-some o (first_at list place) g h in
    let one = rest.0 it.f it.is in
    let other = earlier-le o (first_at list place) it.f g it.is h in
    omega (arith, one, other)) in (
      λ g is. reached g (inl is),
      λ p stands. elim (stands-cases list lists place p stands) [ inl here ↦ reached (first_of p) (inr here) | inr later ↦ rest.1 p later ],
    )

earliest-any : (o : Option Earliest) (place : ℕ) (lists : List (List Request)) (g : Earliest) → o ≡ Some g → IsSomething (earliest o place lists)
earliest-any o place [] g is = record { f = g; is = is }
earliest-any o place (list ∷ lists) g is =
    let next = earlier-some o (first_at list place) g (inl is) in
    earliest-any (earlier o (first_at list place)) place lists next.f next.is

pub earliest-some : (o : Option Earliest) (place : ℕ) (lists : List (List Request)) (p : Request) → StandsAt lists place p
    → IsSomething (earliest o place lists)
earliest-some o place [] p stands = absurd (nowhere place p stands)
earliest-some o place (list ∷ lists) p stands = elim (stands-cases list lists place p stands) [
  | inl here ↦ (let next = earlier-some o (first_at list place) (first_of p) (inr here) in earliest-any
      (earlier o (first_at list place)) place lists next.f next.is)
  | inr later ↦ earliest-some (earlier o (first_at list place)) place lists p later
]
