-- The posting lists of all communicators, and a change of one of them.
use Rattle.std.proofs.Common.{◌≡◌, ℕ, ◌<◌, ◌≤◌, List, [], ◌∷◌, ◌++◌, Bool, true, false, cond, eqb, length, map, get_or, set, refl, sym, ap, subst}
use Rattle.std.proofs.Common.{◌∙◌, Option, Some, None, arith, inl, inr}
use Rattle.std.specs.Prelude.{slice_get, unwrap_or, option_map}
use Rattle.std.proofs.lemmas.Bool.{cases_eq}
use Rattle.std.proofs.lemmas.List.{get_or_default, get_or-set_same, get_or-set_other}
use Rattle.std.proofs.lemmas.Option.{slice_get-map, unwrap_or-slice_get, same_Some, none-some}
use Rattle.std.proofs.Math.Seq.{map-set_same}
use Rattle.coll_kinds.specs.declared.signature.Signature.{Signature}
use Rattle.coll_kinds.specs.Puts.{put}
use Rattle.coll_kinds.proofs.Puts.{put_at, put_other}
use Rattle.coll_machine.specs.Common.{first_there, group_in}
use Rattle.coll_queues.specs.Lists.{Lists, posts_in, signed_in}
use Rattle.coll_queues.specs.Postings.{Postings, groups_of, lists_at, no_lists, posts, signed}
use Rattle.coll_queues.proofs.Fronts.{slice_get-push}
use Rattle.coll_queues.specs.Sound.{AreAgreed, IsAgreed, IsSound}

-- ---- look-ups

group-go : (o : Option Lists) → unwrap_or (option_map (λ l. l.group) o) [] ≡ (unwrap_or o no_lists).group
group-go None = refl
group-go (Some l) = refl

pub group_at : (q : Postings) (comm : ℕ) → group_in (groups_of q) comm ≡ (lists_at q.comms comm).group
group_at q comm = ap (λ (o : Option (List ℕ)). unwrap_or o []) (slice_get-map (λ (l : Lists). l.group) q.comms comm) ∙ group-go (slice_get q.comms comm)

pub lists_read : (comms : List Lists) (comm : ℕ) (l : Lists) → comm < length comms → l ≡ get_or comms comm l → lists_at comms comm ≡ l
lists_read comms comm l low is = unwrap_or-slice_get comms comm no_lists ∙ get_or_default comms comm no_lists l low ∙ sym is

pub signed_at : (q : Postings) (comm : ℕ) → signed q comm ≡ signed_in (lists_at q.comms comm)
signed_at q comm = λ z place. option_map (λ (first : ℕ × Signature). first.1) (first_there (posts q comm) place 0 (length (group_at q comm z)))

-- ---- a change of one communicator

map_put : {X Y : Type 0} (g : X → Y) (f : ℕ → X) (k : ℕ) (x : X) (i : ℕ) → g (put f k x i) ≡ put (λ j. g (f j)) k (g x) i
map_put {X} {Y} g f k x i = go (eqb i k)
  where
    go : (b : Bool) → g (cond b x (f i)) ≡ cond b (g x) (g (f i))
    go true = refl
    go false = refl

module _ (comms : List Lists) (comm : ℕ) (l : Lists) (low : comm < length comms) where
  pub lists_set : (c : ℕ) → lists_at (set comms comm l) c ≡ put (lists_at comms) comm l c
  lists_set c = unwrap_or-slice_get (set comms comm l) c no_lists ∙ elim (cases_eq c comm) [
    | inl e ↦ ap (λ k. get_or (set comms comm l) k no_lists) e ∙ get_or-set_same comms comm l no_lists low ∙ sym (put_at (lists_at comms) comm l c e)
    | inr d ↦ get_or-set_other comms comm c l no_lists d ∙ sym (unwrap_or-slice_get comms c no_lists) ∙ sym (put_other (lists_at comms) comm l c d)
  ]

  pub agreed_set : AreAgreed comms → IsAgreed l → AreAgreed (set comms comm l)
  agreed_set all one c = subst IsAgreed (sym (lists_set c)) (elim (cases_eq c comm) [
    | inl e ↦ subst IsAgreed (sym (put_at (lists_at comms) comm l c e)) one
    | inr d ↦ subst IsAgreed (sym (put_other (lists_at comms) comm l c d)) (all c)
  ])

  pub posts_set : (places : ℕ)
      → posts (record { comms = set comms comm l; places = places }) ≡ put (posts (record { comms = comms; places = places })) comm (posts_in l)
  posts_set places = λ z c. (ap posts_in (lists_set c) ∙ map_put posts_in (lists_at comms) comm l c) z

  pub signed_set : (places : ℕ)
      → signed (record { comms = set comms comm l; places = places }) ≡ put (signed (record { comms = comms; places = places })) comm (signed_in l)
  signed_set places =
      λ z c. (signed_at (record { comms = set comms comm l; places = places }) c ∙ ap signed_in (lists_set c) ∙ map_put signed_in (lists_at comms) comm l c
      ∙ ap (λ f. put f comm (signed_in l) c) (λ y k. sym (signed_at (record { comms = comms; places = places }) k) y)) z

  pub groups_set : (old : Lists) → old ≡ get_or comms comm old → l.group ≡ old.group
      → map (λ (m : Lists). m.group) (set comms comm l) ≡ map (λ (m : Lists). m.group) comms
  groups_set old is same = map-set_same (λ (m : Lists). m.group) comms comm l old (same ∙ ap (λ (m : Lists). m.group) is)

-- another room leaves what the lists say
pub agreed_roomed : (l m : Lists) → m.group ≡ l.group → m.lists ≡ l.lists → IsAgreed l → IsAgreed m
agreed_roomed l m g s a = subst (λ group. IsAgreed (record { group = group; lists = m.lists; room = m.room })) (sym g)
    (subst (λ lists. IsAgreed (record { group = l.group; lists = lists; room = m.room })) (sym s)
    (record { few = a.few; outside = a.outside; signed = a.signed }))

-- ---- one more communicator

agreed_nothing : IsAgreed no_lists
agreed_nothing = record { few = omega arith; outside = λ member past. refl; signed = λ member place sig at. absurd (none-some sig at) }

pub agreed_none : (comms : List Lists) → comms ≡ [] → AreAgreed comms
agreed_none comms e = subst AreAgreed (sym e) (λ comm. agreed_nothing)

lists_push : (comms : List Lists) (l : Lists) (comm : ℕ) → lists_at (comms ++ l ∷ []) comm ≡ put (lists_at comms) (length comms) l comm
lists_push comms l comm =
    ap (λ (o : Option Lists). unwrap_or o no_lists) (slice_get-push comms l comm)
    ∙ map_put (λ (o : Option Lists). unwrap_or o no_lists) (slice_get comms) (length comms) (Some l) comm

pub agreed_push : (comms : List Lists) (l : Lists) → AreAgreed comms → IsAgreed l → AreAgreed (comms ++ l ∷ [])
agreed_push comms l all one c = subst IsAgreed (sym (lists_push comms l c)) (elim (cases_eq c (length comms)) [
  | inl e ↦ subst IsAgreed (sym (put_at (lists_at comms) (length comms) l c e)) one
  | inr d ↦ subst IsAgreed (sym (put_other (lists_at comms) (length comms) l c d)) (all c)
])

-- nobody has posted anywhere
abbrev pub Unposted : List Lists → Type 0
Unposted comms = (comm : ℕ) → posts_in (lists_at comms comm) ≡ (λ m. [])

pub unposted_none : (comms : List Lists) → comms ≡ [] → Unposted comms
unposted_none comms e = subst (λ xs. Unposted xs) (sym e) (λ comm. refl)

pub unposted_push : (comms : List Lists) (l : Lists) → Unposted comms → posts_in l ≡ (λ m. []) → Unposted (comms ++ l ∷ [])
unposted_push comms l all one c = subst (λ m. posts_in m ≡ (λ k. [])) (sym (lists_push comms l c)) (elim (cases_eq c (length comms)) [
  | inl e ↦ subst (λ m. posts_in m ≡ (λ k. [])) (sym (put_at (lists_at comms) (length comms) l c e)) one
  | inr d ↦ subst (λ m. posts_in m ≡ (λ k. [])) (sym (put_other (lists_at comms) (length comms) l c d)) (all c)
])

-- ---- the whole

pub sound : (q : Postings) → AreAgreed q.comms → IsSound q
sound q all = record {
  agree = λ comm member other place one two at also. same_Some one two (sym ((all comm).signed member place one at) ∙ (all comm).signed other place two also);
  signs = λ comm member place sig at. ap (λ f. f place) (signed_at q comm) ∙ (all comm).signed member place sig at;
  few = λ comm. subst (λ g. length g ≤ 64) (sym (group_at q comm)) (all comm).few;
  outside = λ comm member past. (all comm).outside member (subst (λ g. length g ≤ member) (group_at q comm) past);
}
