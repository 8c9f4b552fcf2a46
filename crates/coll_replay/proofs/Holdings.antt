-- What ranks hold, as functions of the requests' numbers.
use Rattle.std.proofs.Common.{◌≡◌, ◌⊎◌, inl, inr, ℕ, suc, ◌<◌, Bool, true, false, cond, eqb, List}
use Rattle.std.proofs.Common.{[], ◌∷◌, ◌++◌, length, set, Option, Some, None, refl, sym, ap, ◌∙◌, arith}
use Rattle.std.proofs.Math.Path.{fun_ext}
use Rattle.std.proofs.Math.ListN.{length-set}
use Rattle.std.proofs.lemmas.Bool.{cases_eq}
use Rattle.std.proofs.lemmas.List.{length-append}
use Rattle.std.specs.Prelude.{slice_get, unwrap_or, option_map}
use Rattle.coll_kinds.specs.declared.ticket.Ticket.{Ticket}
use Rattle.coll_kinds.specs.Common.{put}
use Rattle.coll_kinds.proofs.Puts.{put_at, put_other}
use Rattle.coll_match.proofs.Puts.{slice_get-set}
use Rattle.coll_parser.proofs.Lists.{slice_get-push_other}
use Rattle.coll_machine.specs.Common.{Machine, Request, found}
use Rattle.coll_core.specs.declared.about.About.{About}
use Rattle.coll_core.specs.Phases.{about_in, about_of}
use Rattle.coll_verdict.specs.Standings.{holding_at, kept, one_more}
use Rattle.coll_replay.specs.Playing.{held_at, holding}

get_push : {X : Type 0} (xs : List X) (x : X) → slice_get (xs ++ x ∷ []) (length xs) ≡ Some x
get_push [] x = refl
get_push (y ∷ xs) x = get_push xs x

-- ---- one more

push_at : (held : List (Option Ticket)) (t : Ticket) (q : ℕ) → held_at (held ++ Some t ∷ []) q ≡ put (λ p. held_at held p) (length held) (Some t) q
push_at held t q = go (cases_eq q (length held))
  where
    go : (q ≡ length held) ⊎ (q ≡ length held → ⊥) → held_at (held ++ Some t ∷ []) q ≡ put (λ p. held_at held p) (length held) (Some t) q
    go (inl e) =
        ap (λ p. held_at (held ++ Some t ∷ []) p) e ∙ (ap (λ o. unwrap_or o None) (get_push held (Some t)) ∙ sym (put_at (λ p. held_at held p)
        (length held) (Some t) q e))
    go (inr d) = ap (λ o. unwrap_or o None) (slice_get-push_other held q (Some t) d) ∙ sym (put_other (λ p. held_at held p) (length held) (Some t) q d)

push_length : (held : List (Option Ticket)) (t : Ticket) → length (held ++ Some t ∷ []) ≡ suc (length held)
push_length held t = omega (arith, length-append held (Some t ∷ []))

pub holding_push : (held : List (Option Ticket)) (t : Ticket) → holding (held ++ Some t ∷ []) ≡ one_more (holding held) t
holding_push held t =
    λ z. record {
      made =
          push_length held t z;
      of =
          fun_ext {f = λ q. held_at (held ++ Some t ∷ []) q} {g = put (λ p. held_at held p) (length held) (Some t)} (push_at held t) z;
    }

-- ---- another in place of one

unwrapped : (b : Bool) (what : Option Ticket) (o : Option (Option Ticket)) → unwrap_or (cond b (Some what) o) None ≡ cond b what (unwrap_or o None)
unwrapped true what o = refl
unwrapped false what o = refl

set_at : (held : List (Option Ticket)) (q : ℕ) (what : Option Ticket) → q < length held → (p : ℕ)
    → held_at (set held q what) p ≡ put (λ p. held_at held p) q what p
set_at held q what low p = ap (λ o. unwrap_or o None) (slice_get-set held q what low p) ∙ unwrapped (eqb p q) what (slice_get held p)

pub holding_set : (held : List (Option Ticket)) (q : ℕ) (what : Option Ticket) → q < length held → holding (set held q what) ≡ holding_at (holding held) q what
holding_set held q what low =
    λ z. record {
      made =
          length-set held q what z;
      of = fun_ext {f = λ p. held_at (set held q what) p} {g = put (λ p. held_at held p) q what} (set_at held q what low) z;
    }

-- ---- a ticket that names no request any longer

pub kept_some : (m : Machine) (t : Ticket) (a : About) → Some a ≡ about_in m t → Some t ≡ kept m.state t
kept_some m t a e = go (found m.state t) e
  where
    go : (o : Option Request) → Some a ≡ about_of o → Some t ≡ option_map (λ (request : Request). t) o
    go None e = absurd cc
    go (Some request) e = refl

pub kept_none : (m : Machine) (t : Ticket) → None ≡ about_in m t → None ≡ kept m.state t
kept_none m t e = go (found m.state t) e
  where
    go : (o : Option Request) → None ≡ about_of o → None ≡ option_map (λ (request : Request). t) o
    go None e = refl
    go (Some request) e = absurd cc
