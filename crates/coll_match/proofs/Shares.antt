-- The shares of an instance's members, and a change of one of them.
use Rattle.std.proofs.Common.{◌≡◌, ℕ, ◌<◌, ◌≤◌, ◌≢◌, ◌==◌, Bool, true, false, cond, eqb-true, List, [], ◌∷◌, length, map, set, get_or, refl, sym, ap, ◌∙◌}
use Rattle.std.proofs.Common.{Option, Some, None, zero, suc, replicate, arith}
use Rattle.std.proofs.lemmas.Bool.{and_from, and_parts}
use Rattle.std.specs.Prelude.{slice_get, option_map, is_some, is_none, ◌&&◌}
use Rattle.std.specs.List.{list_all}
use Rattle.std.specs.Option.{ForSome}
use Rattle.std.proofs.lemmas.List.{length-map, length-set}
use Rattle.std.proofs.lemmas.Option.{slice_get-map, slice_get_past, slice_get_read, none-some}
use Rattle.coll_kinds.specs.Puts.{put}
use Rattle.coll_match.specs.declared.instance.Share.{Share}
use Rattle.coll_sched.specs.Worlds.{put_mail}
use Rattle.coll_match.specs.Held.{HasJoined, Held, Part, contribution_of, given_in, joined_rows, mail_in, put_sent, sent_in, sent_of, slot_of}
use Rattle.coll_match.specs.Views.{held_of, part_of}
use Rattle.coll_match.proofs.Puts.{cond_map, put_own, slice_get-set}

module _ {X : Type 0} (f : Option Part → X) (shares : List Share) (i : ℕ) (share : Share) (low : i < length shares) where
  pub part_set : (m : ℕ) → f (slice_get (map part_of (set shares i share)) m) ≡ put (λ k. f (slice_get (map part_of shares) k)) i (f (Some (part_of share))) m
  part_set m =
      ap f (slice_get-map part_of (set shares i share) m ∙ ap (option_map part_of) (slice_get-set shares i share low m))
      ∙ cond_map (λ o. f (option_map part_of o)) _ (Some share) (slice_get shares m)
      ∙ ap (λ g. put g i (f (Some (part_of share))) m) (λ z k. f (sym (slice_get-map part_of shares k) z))

  pub parts_set : ◌≡◌ {A = ℕ → X} (λ m. f (slice_get (map part_of (set shares i share)) m))
      (put (λ m. f (slice_get (map part_of shares) m)) i (f (Some (part_of share))))
  parts_set = λ z m. part_set m z

  pub part_read : (old : Share) → old ≡ get_or shares i old → f (slice_get (map part_of shares) i) ≡ f (Some (part_of old))
  part_read old is = ap f (slice_get-map part_of shares i ∙ ap (option_map part_of) (slice_get_read shares (length shares) i old refl low is))

  -- a share that shows the same
  pub parts_kept : (old : Share) → old ≡ get_or shares i old → f (Some (part_of share)) ≡ f (Some (part_of old))
      → ◌≡◌ {A = ℕ → X} (λ m. f (slice_get (map part_of (set shares i share)) m)) (λ m. f (slice_get (map part_of shares) m))
  parts_kept old is same = parts_set ∙ put_own (λ m. f (slice_get (map part_of shares) m)) i (f (Some (part_of share)))
      (same ∙ sym (part_read old is))

-- every member has given and has no active request
abbrev pub has_left : Share → Bool
has_left share = is_some share.given && is_none share.slot

left_share : (given : Option (List ℕ)) (slot : Option ℕ) → (is_some given && is_none slot) ≡ true → (given ≢ None) × (slot ≡ None)
left_share None slot e = absurd cc
left_share (Some bytes) None e = (λ is. none-some bytes (sym is), refl)
left_share (Some bytes) (Some slot) e = absurd cc

share_left : (given : Option (List ℕ)) (slot : Option ℕ) → (given ≢ None) × (slot ≡ None) → (is_some given && is_none slot) ≡ true
share_left None slot h = absurd (h.0 refl)
share_left (Some bytes) None h = refl
share_left (Some bytes) (Some slot) h = absurd (none-some slot (sym h.1))

pub all_over : (shares : List Share) → list_all has_left shares ≡ true → (m : ℕ) → m < length shares
    → (contribution_of (slice_get (map part_of shares) m) ≢ None) × (slot_of (slice_get (map part_of shares) m) ≡ None)
all_over [] e m lt = absurd (omega (arith, lt))
all_over (share ∷ shares) e zero lt = left_share share.given share.slot (and_parts (has_left share) (list_all has_left shares) e).0
all_over (share ∷ shares) e (suc m) lt = all_over shares (and_parts (has_left share) (list_all has_left shares) e).1 m (omega (arith, lt))

pub over_all : (shares : List Share)
    → ((m : ℕ) → m < length shares → (contribution_of (slice_get (map part_of shares) m) ≢ None) × (slot_of (slice_get (map part_of shares) m) ≡ None))
    → list_all has_left shares ≡ true
over_all [] h = refl
over_all (share ∷ shares) h =
    and_from (has_left share) (list_all has_left shares) (share_left share.given share.slot (h 0 (omega arith)))
    (over_all shares (λ m lt. h (suc m) (omega (arith, lt))))

-- shares without anything
pub empty_part : {X : Type 0} (f : Option Part → X) (y : X) → f None ≡ y
    → f (Some (record { contribution = None; slot = None; sent = [] })) ≡ y → (n m : ℕ)
    → f (slice_get (map part_of (replicate n (record { given = None; slot = None; mailbox = [] }))) m) ≡ y
empty_part f y none some zero m = none
empty_part f y none some (suc n) zero = some
empty_part f y none some (suc n) (suc m) = empty_part f y none some n m

abbrev pub empty_share : Share
empty_share = record { given = None; slot = None; mailbox = [] }

-- the first n shares are empty
pub emptied : ℕ → List Share → List Share
emptied zero shares = shares
emptied (suc n) [] = []
emptied (suc n) (share ∷ shares) = empty_share ∷ emptied n shares

pub emptied_none : (shares : List Share) → shares ≡ emptied 0 shares
unfolding emptied
emptied_none shares = refl

pub emptied_next : (n : ℕ) (shares : List Share) → n < length shares → set (emptied n shares) n empty_share ≡ emptied (suc n) shares
unfolding emptied
emptied_next n [] low = absurd (omega (arith, low))
emptied_next zero (share ∷ shares) low = refl
emptied_next (suc n) (share ∷ shares) low = ap (λ rest. empty_share ∷ rest) (emptied_next n shares (omega (arith, low)))

pub emptied_all : (n : ℕ) (shares : List Share) → n ≡ length shares → emptied n shares ≡ replicate (length shares) empty_share
unfolding emptied
emptied_all zero [] e = refl
emptied_all (suc n) [] e = absurd (omega (arith, e))
emptied_all zero (share ∷ shares) e = absurd (omega (arith, e))
emptied_all (suc n) (share ∷ shares) e = ap (λ rest. empty_share ∷ rest) (emptied_all n shares (omega (arith, e)))

-- a member's number is an index of the shares
pub low_share : (shares : List Share) (v : Held) (member i : ℕ) → held_of shares ≡ v → member < length v.shares → i ≡ member → i < length shares
low_share shares v member i e low is = omega (arith, low, is, ap (λ (h : Held). length h.shares) e, length-map shares part_of)

-- no member sent anything from past the shares
pub mail_past : (shares : List Share) (v : Held) (from i to round : ℕ) → held_of shares ≡ v → i ≡ from → length shares ≤ i
    → mail_in v ≡ put_mail (mail_in v) from to round None
mail_past shares v from i to round e is past = λ z a b c. at a b c z
  where
    nobody : slice_get v.shares from ≡ None
    nobody = slice_get_past v.shares from (omega (arith, past, is, ap (λ (h : Held). length h.shares) e, length-map shares part_of))

    by : (here : Bool) (o : Option (List ℕ)) → (here ≡ true → o ≡ None) → o ≡ cond here None o
    by true o none = none refl
    by false o none = refl

    at : (a b c : ℕ) → mail_in v a b c ≡ put_mail (mail_in v) from to round None a b c
    at a b c = by ((a == from) && ((b == to) && (c == round))) (mail_in v a b c) (λ here.
        ap (λ m. mail_in v m b c) (eqb-true a from (and_parts (a == from) ((b == to) && (c == round)) here).0)
        ∙ ap (λ part. sent_of part b c) nobody)

-- ---- what all gave, joined

-- while all rows stay, what was joined is what they are joined
pub still_joined : (o : Option (List ℕ)) (h k : Held) → given_in k ≡ given_in h → length k.shares ≡ length h.shares
    → ForSome o (HasJoined h) → ForSome o (HasJoined k)
still_joined o h k gave long joined bytes is missing =
    joined bytes is missing ∙ (λ z. joined_rows (sym gave z) missing (sym long z))

pub share_joined : (o : Option (List ℕ)) (shares : List Share) (i : ℕ) (share old : Share) → i < length shares → old ≡ get_or shares i old
    → share.given ≡ old.given → ForSome o (HasJoined (held_of shares)) → ForSome o (HasJoined (held_of (set shares i share)))
share_joined o shares i share old low is same joined =
    still_joined o (held_of shares) (held_of (set shares i share))
    (parts_kept contribution_of shares i share low old is same)
    (length-map (set shares i share) part_of ∙ (length-set shares i share ∙ sym (length-map shares part_of)))
    joined

-- ---- a member's messages

pub put_sender : (f : ℕ → ℕ → ℕ → Option (List ℕ)) (from to round : ℕ) (x : Option (List ℕ))
    → put f from (put_sent (f from) to round x) ≡ put_mail f from to round x
put_sender f from to round x = λ z a b c. at a b c z
  where
    by : (here : Bool) (a b c : ℕ) → (here ≡ true → f from b c ≡ f a b c)
        → cond here (put_sent (f from) to round x) (f a) b c ≡ cond (here && ((b == to) && (c == round))) x (f a b c)
    by true a b c same = ap (cond ((b == to) && (c == round)) x) (same refl)
    by false a b c same = refl

    at : (a b c : ℕ) → put f from (put_sent (f from) to round x) a b c ≡ put_mail f from to round x a b c
    at a b c = by (a == from) a b c (λ e. ap (λ m. f m b c) (sym (eqb-true a from e)))

pub mail_sent : (shares : List Share) (i : ℕ) (share old : Share) → i < length shares → old ≡ get_or shares i old → (to round : ℕ) (x : Option (List ℕ))
    → sent_in share.mailbox ≡ put_sent (sent_in old.mailbox) to round x
    → mail_in (held_of (set shares i share)) ≡ put_mail (mail_in (held_of shares)) i to round x
mail_sent shares i share old low is to round x sent =
    parts_set sent_of shares i share low
    ∙ ap (put (mail_in (held_of shares)) i) (sent ∙ ap (λ f. put_sent f to round x) (sym (part_read sent_of shares i share low old is)))
    ∙ put_sender (mail_in (held_of shares)) i to round x
