-- A bcast that is Done has what its root gave, an allgather what all gave, joined
use Rattle.std.proofs.Common.{◌≡◌, ◌≢◌, ◌∙◌, ◌+◌, ◌*◌, ◌<◌, inl, inr, zero, suc, true, ltb, ap, refl, sym, subst, arith}
use Rattle.std.specs.List.{range_with_len}
use Rattle.std.specs.Option.{ForSome}
use Rattle.std.specs.Prelude.{ℕ, List, [], ◌∷◌, length, map, replicate, slice_get, unwrap_or, Option, Some, None, IfSome}
use Rattle.std.proofs.lemmas.List.FromFn.{get_or-map-range_with_len}
use Rattle.std.proofs.lemmas.Bool.{and_from, lt-ltb}
use Rattle.std.proofs.lemmas.Option.{none-some, slice_get_within, unwrap_or-slice_get}
use Rattle.coll_kinds.specs.Lengths.{block_len, given_len}
use Rattle.coll_kinds.specs.Needs.{needs_of}
use Rattle.coll_kinds.specs.declared.kind.Kind.{Kind}
use Rattle.coll_kinds.specs.declared.kind.Kind.TheVariants.{Bcast}
use Rattle.coll_kinds.specs.declared.operation.Op.TheVariants.{Sum}
use Rattle.coll_kinds.specs.declared.signature.Signature.{Signature}
use Rattle.coll_kinds.specs.declared.ticket.Ticket.{Ticket}
use Rattle.coll_ops.specs.Values.{all_rows, row_of, value, value_by}
use Rattle.coll_sched.specs.Regions.{read_of}
use Rattle.coll_plans.specs.Plans.{family}
use Rattle.coll_arena.specs.Slots.{home, record_in}
use Rattle.coll_machine.specs.declared.key.Key.{Key}
use Rattle.coll_machine.specs.Common.{filled, size}
use Rattle.coll_match.specs.Held.{HasJoined, Held, Part, contribution_of, joined_rows}
use Rattle.coll_match.specs.Instances.{IsJoined, given, given_of, members_of, standing}
use Rattle.coll_refinement.specs.FreeLocks.{Holding}
use Rattle.coll_refinement.specs.Requests.{key}
use Rattle.coll_refinement.specs.Shown.{listed}
use Rattle.coll_refinement.proofs.tables.LiveRequests.{holding_value}
use Rattle.coll_core.specs.declared.request.Request.{Request}
use Rattle.coll_core.specs.Completions.{IsGathering, IsKnown, IsOutcome, Owns}
use Rattle.coll_core.specs.Cores.{IsCore, Parts, setting, tables}
use Rattle.coll_core.specs.Requests.{schedule, shown}
use Rattle.coll_core.proofs.retire.Retire.{if_some, the_one}
use Rattle.coll_core.proofs.between.LiveRequests.{live}

-- ---- the value

root_value : (sig : Signature) (rows : List (List ℕ)) (r : ℕ) → sig.kind ≡ Bcast → value sig rows r ≡ row_of rows sig.root
root_value sig rows r e = ap (λ (k : Kind). value_by k (unwrap_or sig.op Sum) sig.ty (block_len sig) sig.root rows r) e

-- the row of a member that gave
given_row : (sig : Signature) (n : ℕ) (gave : ℕ → Option (List ℕ)) (m : ℕ) (bytes : List ℕ) → m < n → gave m ≡ Some bytes
    → row_of (filled sig n gave) m ≡ bytes
given_row sig n gave m bytes low e =
    unwrap_or-slice_get (filled sig n gave) m []
    ∙ (get_or-map-range_with_len (λ m. unwrap_or (gave m) (replicate (given_len sig n m) 0)) 0 n m m [] low (zero_more m)
    ∙ ap (λ o. unwrap_or o (replicate (given_len sig n m) 0)) e)
  where
    zero_more : (k : ℕ) → 0 + k ≡ k
    zero_more k = omega arith

-- ---- who gave is a member

part_by : (o : Option Part) (bytes : List ℕ) → contribution_of o ≡ Some bytes → (part : Part) × (o ≡ Some part)
part_by None bytes e = absurd (none-some bytes e)
part_by (Some part) bytes e = (part, refl)

member_by : (o : Option Held) (m : ℕ) (bytes : List ℕ) → given_of o m ≡ Some bytes → (n : ℕ) × (members_of o ≡ Some n) × (m < n)
member_by None m bytes e = absurd (none-some bytes e)
member_by (Some h) m bytes e =
    let part = part_by (slice_get h.shares m) bytes e in
    (length h.shares, refl, slice_get_within h.shares m part.0 part.1)

gave_in : (p : Parts) → IsCore p → (k : Key) (m : ℕ) (bytes : List ℕ) → given p.matches k m ≡ Some bytes → m < size (setting p) k.comm
gave_in p core k m bytes e =
    let by = member_by (standing p.matches k) m bytes e in
    subst (λ n. m < n) (core.sizes k by.0 by.1) by.2

-- ---- an allgather

gathered_value : (sig : Signature) (rows : List (List ℕ)) (r : ℕ) → IsGathering sig.kind → value sig rows r ≡ all_rows rows
gathered_value sig rows r (inl e) = ap (λ (k : Kind). value_by k (unwrap_or sig.op Sum) sig.ty (block_len sig) sig.root rows r) e
gathered_value sig rows r (inr e) = ap (λ (k : Kind). value_by k (unwrap_or sig.op Sum) sig.ty (block_len sig) sig.root rows r) e

-- its outcome rests on all members
needs_all : (kind : Kind) (root r m : ℕ) → IsGathering kind → needs_of kind root r m ≡ true
needs_all kind root r m (inl e) = ap (λ (k : Kind). needs_of k root r m) e
needs_all kind root r m (inr e) = ap (λ (k : Kind). needs_of k root r m) e

-- what all have given doesn't depend on what stands for one that hasn't
same_row : (o : Option (List ℕ)) (a b : List ℕ) → o ≢ None → unwrap_or o a ≡ unwrap_or o b
same_row None a b some = absurd (some refl)
same_row (Some row) a b some = refl

same_given : (gave : ℕ → Option (List ℕ)) (a b : ℕ → List ℕ) (k c : ℕ) → ((m : ℕ) → m < k + c → gave m ≢ None)
    → map (λ m. unwrap_or (gave m) (a m)) (range_with_len k c) ≡ map (λ m. unwrap_or (gave m) (b m)) (range_with_len k c)
same_given gave a b k zero all = refl
same_given gave a b k (suc c) all =
    λ z. same_row (gave k) (a k) (b k) (all k (omega arith)) z
    ∷ same_given gave a b (k + 1) c (λ m low. all m (omega (arith, low))) z

pub known_joined : (m : List (Key × Held)) (x : Request) (o : Option (List ℕ)) → IfSome o (λ bytes. IsGathering x.plan.sig.kind)
    → IfSome o (IsJoined m (key (shown x))) → IfSome o (IsKnown m x)
known_joined m x None gathers joined = tt
known_joined m x (Some bytes) gathers joined = inr (gathers, joined)

-- ---- the outcome

module _ (p : Parts) (rank : ℕ) (t : Ticket) (x : Request) (core : IsCore p) (owns : Owns p rank t x)
    (on : home p.arena t.slot ≡ 6 + 3 * x.comm) where
  held : Holding (tables p) (listed (home p.arena t.slot) (shown x))
  held = holding_value (tables p) core.sound.paths core.sound.sound t.slot (listed (home p.arena t.slot) (shown x)) (live p t.slot x owns.found) on

  is_root_row : (bytes : List ℕ) → x.plan.sig.kind ≡ Bcast → given p.matches (key (shown x)) x.plan.sig.root ≡ Some bytes
      → bytes ≡ read_of x.buffer (schedule (shown x)).output
  is_root_row bytes bcast gave =
      let n : ℕ = size (setting p) x.comm in
      let sized : x.plan.n ≡ n = core.sound.sound.base.sized t.slot (listed (home p.arena t.slot) (shown x)) (live p t.slot x owns.found) in
      let rows : List (List ℕ) = filled x.plan.sig n (given p.matches (key (shown x))) in
      sym
      (ap (λ n. read_of x.buffer (family x.plan.sig n x.plan.member).output) sized
      ∙ (held.value_is
      ∙ (root_value x.plan.sig rows x.plan.member bcast
      ∙ given_row x.plan.sig n (given p.matches (key (shown x))) x.plan.sig.root bytes
      (gave_in p core (key (shown x)) x.plan.sig.root bytes gave) gave)))

  -- ---- of an allgather

  abbrev n : ℕ
  n = size (setting p) x.comm

  abbrev gave : ℕ → Option (List ℕ)
  gave = given p.matches (key (shown x))

  -- all members have given
  all_gave : IsGathering x.plan.sig.kind → (m : ℕ) → m < n → gave m ≢ None
  all_gave gathers m low =
      held.needed m
      (and_from (ltb m n) (needs_of x.plan.sig.kind x.plan.sig.root x.plan.member m) (lt-ltb m n low)
      (needs_all x.plan.sig.kind x.plan.sig.root x.plan.member m gathers))

  -- the output has what they gave, joined
  output_joined : (missing : ℕ → List ℕ) → IsGathering x.plan.sig.kind
      → read_of x.buffer (schedule (shown x)).output ≡ joined_rows gave missing n
  output_joined missing gathers =
      let sized : x.plan.n ≡ n = core.sound.sound.base.sized t.slot (listed (home p.arena t.slot) (shown x)) (live p t.slot x owns.found) in
      ap (λ n. read_of x.buffer (family x.plan.sig n x.plan.member).output) sized
      ∙ (held.value_is
      ∙ (gathered_value x.plan.sig (filled x.plan.sig n gave) x.plan.member gathers
      ∙ ap all_rows (same_given gave (λ m. replicate (given_len x.plan.sig n m) 0) missing 0 n (λ m low. all_gave gathers m (omega (arith, low))))))

  is_joined : (bytes : List ℕ) → IsGathering x.plan.sig.kind → IsJoined p.matches (key (shown x)) bytes
      → bytes ≡ read_of x.buffer (schedule (shown x)).output
  is_joined bytes gathers of =
      let zeros : ℕ → List ℕ = λ m. replicate (given_len x.plan.sig n m) 0 in
      let long : length of.held.shares ≡ n = core.sizes (key (shown x)) (length of.held.shares) (ap members_of of.stands) in
      of.joined zeros
      ∙ ((λ z. joined_rows (given_of (sym of.stands z)) zeros (long z))
      ∙ sym (output_joined zeros gathers))

  -- what is known of the outcome before it is taken out
  pub known_outcome : (known : Option (List ℕ)) → IfSome known (IsKnown p.matches x) → IfSome (record_in p.arena t.slot) (IsOutcome known)
  known_outcome known knows =
      if_some (IsOutcome known) (record_in p.arena t.slot) x owns.found
      (λ bytes is. by bytes (subst (λ o. IfSome o (IsKnown p.matches x)) is knows))
    where
      by : (bytes : List ℕ) → IsKnown p.matches x bytes → bytes ≡ read_of x.buffer (schedule (shown x)).output
      by bytes (inl root) = is_root_row bytes root.0 root.1
      by bytes (inr joined) = is_joined bytes joined.0 joined.1

  -- what the member leaves to those that complete later
  pub leaves_joined : (k : Key) (kind : Kind) (bytes : List ℕ) (joined : Option (List ℕ)) → k ≡ key (shown x) → kind ≡ x.plan.sig.kind
      → IfSome (record_in p.arena t.slot) (λ x. bytes ≡ read_of x.buffer (schedule (shown x)).output)
      → IfSome joined (λ j. IsGathering kind) → IfSome joined (λ j. j ≡ bytes)
      → ForSome joined (λ j. ForSome (standing p.matches k) (λ h. HasJoined h j))
  leaves_joined k kind bytes joined key_is kind_is bytes_is gathers same j is h stands missing =
      let there : standing p.matches (key (shown x)) ≡ Some h = (λ z. standing p.matches (sym key_is z)) ∙ stands in
      let long : length h.shares ≡ n = core.sizes (key (shown x)) (length h.shares) (ap members_of there) in
      let gathering : IsGathering kind = subst (λ o. IfSome o (λ (j : List ℕ). IsGathering kind)) is gathers in
      subst (λ o. IfSome o (λ j. j ≡ bytes)) is same
      ∙ (the_one (λ x. bytes ≡ read_of x.buffer (schedule (shown x)).output) (record_in p.arena t.slot) x owns.found bytes_is
      ∙ (output_joined missing (subst IsGathering kind_is gathering)
      ∙ (λ z. joined_rows (given_of (there z)) missing (sym long z))))
