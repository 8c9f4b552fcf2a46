-- Every instance that stands has as many members as another: a change of one instance.
use Rattle.std.proofs.Common.{◌≡◌, ◌≢◌, ℕ, Bool, true, false, cond, List, ap, sym, refl, ◌∙◌, Option, Some, None}
use Rattle.std.proofs.lemmas.Option.{none-some}
use Rattle.coll_kinds.specs.Puts.{put}
use Rattle.coll_kinds.proofs.Puts.{put_at}
use Rattle.std.specs.Prelude.{unwrap_or}
use Rattle.coll_machine.specs.declared.key.Key.{Key}
use Rattle.coll_match.specs.Held.{Held}
use Rattle.coll_machine.specs.Changes.{put_key, same_key}
use Rattle.coll_match.specs.Instances.{HaveSize, given, members, size}
use Rattle.coll_match.proofs.Standing.{put_key_at}

pub size_kept : (t u : List (Key × Held)) (n : ℕ) → members u ≡ members t → HaveSize t n → HaveSize u n
size_kept t u n same all k = ap (λ f. unwrap_or (f k) n) same ∙ all k

pub size_put : (t u : List (Key × Held)) (n : ℕ) (k : Key) (x : Option ℕ) → members u ≡ put_key (members t) k x
    → unwrap_or x n ≡ n → HaveSize t n → HaveSize u n
size_put t u n k x same is all a = ap (λ f. unwrap_or (f a) n) same ∙ go (same_key a k) (members t a) (all a)
  where
    go : (b : Bool) (o : Option ℕ) → unwrap_or o n ≡ n → unwrap_or (cond b x o) n ≡ n
    go true o e = is
    go false o e = e

pub size_roomed : (t u : List (Key × Held)) (n : ℕ) (k : Key)
    → members u ≡ put_key (members t) k (Some (unwrap_or (members t k) n)) → HaveSize t n → size u k ≡ n
size_roomed t u n k roomed all =
    ap (λ f. unwrap_or (f k) 0) roomed ∙ ap (λ o. unwrap_or o 0) (put_key_at (members t) k (Some (unwrap_or (members t k) n))) ∙ all k

-- who has joined has given
pub joined_gave : (t u : List (Key × Held)) (k : Key) (member : ℕ) (bytes : List ℕ)
    → given u ≡ put_key (given t) k (put (given t k) member (Some bytes)) → given u k member ≢ None
joined_gave t u k member bytes joined none =
    none-some bytes (sym none ∙ ap (λ f. f k member) joined
    ∙ ap (λ f. f member) (put_key_at (given t) k (put (given t k) member (Some bytes))) ∙ put_at (given t k) member (Some bytes) member refl)
