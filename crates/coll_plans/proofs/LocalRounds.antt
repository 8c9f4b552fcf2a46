-- rounds in which no member sends or receives
use Rattle.std.proofs.Common.{◌≡◌, ℕ, ◌<◌, ◌≤◌, false, List, [], ◌∷◌, None, refl, sym, ap, ◌∙◌, arith, count_by}
use Rattle.std.specs.List.{AllByRecursion, list_any}
use Rattle.coll_sched.specs.declared.action.Action.{Action}
use Rattle.coll_sched.specs.declared.action.Action.TheVariants.{Send, Copy, Combine, Recv}
use Rattle.coll_sched.specs.Common.{IsAmong, IsLocal, IsRound, has_peer, in_link, out_link, len_of, is_send, is_recv}
use Rattle.coll_sched.proofs.Orders.{count_cons}
use Rattle.coll_trees.specs.Columns.{Column}
use Rattle.coll_trees.proofs.Columns.{IsColumn, IsLocalColumn}

abbrev pub AreLocal : List Action → Type 0
AreLocal xs = AllByRecursion IsLocal xs

in_link-local : (xs : List Action) (p : ℕ) → AreLocal xs → in_link p xs ≡ None
in_link-local [] p h = refl
in_link-local (Send to from ∷ xs) p h = absurd h.0
in_link-local (Copy from into ∷ xs) p h = in_link-local xs p h.1
in_link-local (Combine op ty left right into ∷ xs) p h = in_link-local xs p h.1
in_link-local (Recv of into ∷ xs) p h = absurd h.0

out_link-local : (xs : List Action) (p : ℕ) → AreLocal xs → out_link p xs ≡ None
out_link-local [] p h = refl
out_link-local (Send to from ∷ xs) p h = absurd h.0
out_link-local (Copy from into ∷ xs) p h = out_link-local xs p h.1
out_link-local (Combine op ty left right into ∷ xs) p h = out_link-local xs p h.1
out_link-local (Recv of into ∷ xs) p h = absurd h.0

among_local : (n : ℕ) (xs : List Action) → AreLocal xs → AllByRecursion (IsAmong n) xs
among_local n [] h = tt
among_local n (Send to from ∷ xs) h = absurd h.0
among_local n (Copy from into ∷ xs) h = (tt, among_local n xs h.1)
among_local n (Combine op ty left right into ∷ xs) h = (tt, among_local n xs h.1)
among_local n (Recv of into ∷ xs) h = absurd h.0

no_peer : (xs : List Action) → AreLocal xs → list_any has_peer xs ≡ false
no_peer [] h = refl
no_peer (Send to from ∷ xs) h = absurd h.0
no_peer (Copy from into ∷ xs) h = no_peer xs h.1
no_peer (Combine op ty left right into ∷ xs) h = no_peer xs h.1
no_peer (Recv of into ∷ xs) h = absurd h.0

no_send : (xs : List Action) → AreLocal xs → count_by is_send xs ≤ 0
no_send [] h = omega arith
no_send (Send to from ∷ xs) h = absurd h.0
no_send (Copy from into ∷ xs) h = omega (arith, count_cons is_send (Copy from into) xs, no_send xs h.1)
no_send (Combine op ty left right into ∷ xs) h = omega (arith, count_cons is_send (Combine op ty left right into) xs, no_send xs h.1)
no_send (Recv of into ∷ xs) h = absurd h.0

no_recv : (xs : List Action) → AreLocal xs → count_by is_recv xs ≤ 0
no_recv [] h = omega arith
no_recv (Send to from ∷ xs) h = absurd h.0
no_recv (Copy from into ∷ xs) h = omega (arith, count_cons is_recv (Copy from into) xs, no_recv xs h.1)
no_recv (Combine op ty left right into ∷ xs) h = omega (arith, count_cons is_recv (Combine op ty left right into) xs, no_recv xs h.1)
no_recv (Recv of into ∷ xs) h = absurd h.0

pub local_column : (n size : ℕ) (column : Column) → ((r : ℕ) → AreLocal (column r)) → ((r : ℕ) → r < n → IsRound size (column r)) → IsColumn n size column
local_column n size column local round = record {
  is_round = round;
  peers = λ r low. among_local n (column r) (local r);
  aligned = λ r p hr hp. ap len_of (in_link-local (column r) p (local r)) ∙ sym (ap len_of (out_link-local (column p) r (local p)));
  one_send = λ r low. let z : count_by is_send (column r) ≤ 0 = no_send (column r) (local r) in omega arith;
  one_recv = λ r low. let z : count_by is_recv (column r) ≤ 0 = no_recv (column r) (local r) in omega arith;
}

pub is_local_column : (column : Column) → ((r : ℕ) → AreLocal (column r)) → IsLocalColumn column
is_local_column column local r = no_peer (column r) (local r)
