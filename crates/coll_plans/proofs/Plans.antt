-- the family of every checked signature serves it, within its kind's bound
use Rattle.std.proofs.Common.{◌≡◌, ℕ, ◌<◌, ◌≤◌, ◌⊎◌, inl, inr, Bool, true, false, cond, Option, Some, None, MatchOption, Result, Ok, Err, IsOk, IfOk}
use Rattle.std.proofs.Common.{IsErrOf, IsOkUnless, refl, sym, ap, subst, ◌∙◌}
use Rattle.std.proofs.lemmas.Bool.{cases_Bool, false≢true}
use Rattle.coll_kinds.specs.declared.kind.Kind.{Kind}
use Rattle.coll_kinds.specs.declared.kind.Kind.TheVariants.{Barrier, Bcast, Gather, Scatter, Allgather, Allgatherv, Alltoall, Reduce, Allreduce}
use Rattle.coll_kinds.specs.declared.kind.Kind.TheVariants.{Rsblock, Scan, Exscan}
use Rattle.coll_kinds.specs.declared.signature.Signature.{Signature}
use Rattle.coll_kinds.specs.declared.refusal.Refusal.{Refusal}
use Rattle.coll_kinds.specs.declared.refusal.Refusal.TheVariants.{BadSignature, NoMemory}
use Rattle.coll_kinds.specs.declared.refusal.SignatureFault.{SignatureFault}
use Rattle.coll_kinds.specs.Common.{broken, block_len}
use Rattle.coll_sched.specs.Common.{Parts, IsNarrow, family_exchanges, Serves}
use Rattle.coll_trees.specs.Depths.{depth}
use Rattle.coll_trees.specs.Trees.{IsNarrowFor, bcast_family}
use Rattle.coll_trees.proofs.Depths.{depth-most}
use Rattle.coll_trees.proofs.BinomialTreeBcast.{bcast_serves}
use Rattle.coll_trees.proofs.BinomialTreeReduce.{reduce_serves}
use Rattle.coll_plans.specs.DirectFamilies.{IsDirectFor}
use Rattle.coll_plans.specs.ChainBcast.{chain_family, is_long, relay_count}
use Rattle.coll_plans.specs.Plans.{family_by, family, is_direct, most_exchanges_by, IsPlanned, FamiliesServe, Planned}
use Rattle.coll_plans.proofs.Counts.{short_by}
use Rattle.coll_plans.proofs.DisseminationBarrier.{barrier_serves}
use Rattle.coll_plans.proofs.PrefixDoublingScan.{scan_serves}
use Rattle.coll_plans.proofs.PrefixDoublingExscan.{exscan_serves}
use Rattle.coll_plans.proofs.RecursiveDoublingAllreduce.{allreduce_serves}
use Rattle.coll_plans.proofs.ChainBcast.{chain_serves}
use Rattle.coll_plans.proofs.DirectGather.{gather_serves}
use Rattle.coll_plans.proofs.DirectScatter.{scatter_serves}
use Rattle.coll_plans.proofs.BruckAllgather.{allgather_serves}
use Rattle.coll_plans.proofs.DirectAllgatherv.{allgatherv_serves}
use Rattle.coll_plans.proofs.DirectAlltoall.{alltoall_serves}
use Rattle.coll_plans.proofs.DirectRsblock.{rsblock_serves}

-- a narrow family of the kind, and a direct one
of_narrow : (sig : Signature) (n : ℕ) (k : Kind) → broken sig n ≡ None → n ≤ 64 → sig.kind ≡ k
    → IsNarrowFor sig n (family_by k sig n) (most_exchanges_by k sig n) → IsPlanned sig n (family_by sig.kind sig n)
of_narrow sig n k rules top e h = record {
  serves = subst (λ x. Serves sig n (family_by x sig n)) (sym e) h.serves;
  few = subst (λ x. family_exchanges n (family_by x sig n) ≤ most_exchanges_by x sig n) (sym e) h.few;
  short = short_by sig.kind sig n rules top (depth-most n);
  narrow = λ d. subst (λ x. IsNarrow n (family_by x sig n)) (sym e) h.narrow;
}

of_direct : (sig : Signature) (n : ℕ) (k : Kind) → broken sig n ≡ None → n ≤ 64 → sig.kind ≡ k → is_direct k ≡ true
    → IsDirectFor sig n (family_by k sig n) (most_exchanges_by k sig n) → IsPlanned sig n (family_by sig.kind sig n)
of_direct sig n k rules top e direct h = record {
  serves = subst (λ x. Serves sig n (family_by x sig n)) (sym e) h.serves;
  few = subst (λ x. family_exchanges n (family_by x sig n) ≤ most_exchanges_by x sig n) (sym e) h.few;
  short = short_by sig.kind sig n rules top (depth-most n);
  narrow = λ d. absurd (false≢true (sym d ∙ (ap is_direct e ∙ direct)));
}

-- a bcast by the chain or by the tree
abbrev BcastsServe : Signature → ℕ → Bool → Type 0
BcastsServe sig n long = IsNarrowFor sig n (cond long (chain_family sig n) (bcast_family sig n)) (cond long (relay_count n (block_len sig)) (depth n))

bcasts_serve : (sig : Signature) (n : ℕ) → broken sig n ≡ None → sig.kind ≡ Bcast → n ≤ 64 → BcastsServe sig n (is_long n (block_len sig))
bcasts_serve sig n h e top = go (cases_Bool (is_long n (block_len sig)))
  where
    go : (is_long n (block_len sig) ≡ true) ⊎ (is_long n (block_len sig) ≡ false) → BcastsServe sig n (is_long n (block_len sig))
    go (inl t) = subst (BcastsServe sig n) (sym t) (chain_serves sig n h e t)
    go (inr t) = subst (BcastsServe sig n) (sym t) (bcast_serves sig n h e top)

by_kind : (sig : Signature) (n : ℕ) → broken sig n ≡ None → 0 < n → n ≤ 64 → (k : Kind) → sig.kind ≡ k → IsPlanned sig n (family_by sig.kind sig n)
by_kind sig n h pos top Barrier e = of_narrow sig n Barrier h top e (barrier_serves sig n e pos top)
by_kind sig n h pos top Bcast e = of_narrow sig n Bcast h top e (bcasts_serve sig n h e top)
by_kind sig n h pos top Gather e = of_direct sig n Gather h top e refl (gather_serves sig n e)
by_kind sig n h pos top Scatter e = of_direct sig n Scatter h top e refl (scatter_serves sig n h e)
by_kind sig n h pos top Allgather e = of_narrow sig n Allgather h top e (allgather_serves sig n e top)
by_kind sig n h pos top Allgatherv e = of_direct sig n Allgatherv h top e refl (allgatherv_serves sig n e)
by_kind sig n h pos top Alltoall e = of_direct sig n Alltoall h top e refl (alltoall_serves sig n e)
by_kind sig n h pos top Reduce e = of_narrow sig n Reduce h top e (reduce_serves sig n h e top)
by_kind sig n h pos top Allreduce e = of_narrow sig n Allreduce h top e (allreduce_serves sig n h e pos top)
by_kind sig n h pos top Rsblock e = of_direct sig n Rsblock h top e refl (rsblock_serves sig n h e)
by_kind sig n h pos top Scan e = of_narrow sig n Scan h top e (scan_serves sig n h e top)
by_kind sig n h pos top Exscan e = of_narrow sig n Exscan h top e (exscan_serves sig n h e top)

pub all_served : FamiliesServe
unfolding family
all_served sig n h pos top = by_kind sig n h pos top sig.kind refl

-- what the kind's builder makes is a schedule of the family
pub of_kind : (sig : Signature) (n r : ℕ) (k : Kind) (made : Result Parts Refusal) → sig.kind ≡ k
    → IfOk made (λ s. s ≡ family_by k sig n r) → IfOk made (λ s. s ≡ family sig n r)
unfolding family
of_kind sig n r k made e h = subst (λ x. IfOk made (λ s. s ≡ family_by x sig n r)) (sym e) h

-- an accepted signature breaks no rule
pub unbroken : (o : Option SignatureFault) (done : Unit {0})
    → MatchOption o (IsOk {T = Unit {0}} {E = Refusal} (Ok done)) (λ cause. IsErrOf {T = Unit {0}} {E = Refusal} (Ok done) (BadSignature cause)) → o ≡ None
unbroken None done h = refl
unbroken (Some cause) done h = let e : ◌≡◌ {A = Result (Unit {0}) Refusal} (Ok done) (Err (BadSignature cause)) = h in absurd (cc)

-- a refused one is refused by a plan in the same words
pub refused : (o : Option SignatureFault) (why : Refusal)
    → MatchOption o (IsOk {T = Unit {0}} {E = Refusal} (Err why)) (λ cause. IsErrOf {T = Unit {0}} {E = Refusal} (Err why) (BadSignature cause))
    → MatchOption o (IsOkUnless {T = Planned} {E = Refusal} (Err why) NoMemory) (λ cause. IsErrOf {T = Planned} {E = Refusal} (Err why) (BadSignature cause))
refused None why h = absurd (false≢true h)
refused (Some cause) why h =
    let e : ◌≡◌ {A = Result (Unit {0}) Refusal} (Err why) (Err (BadSignature cause)) = h in
    let same : why ≡ BadSignature cause = cc in
    λ k. Err (same k)

-- an accepted one is refused for memory alone
pub accepted : (o : Option SignatureFault) (made : Result Planned Refusal) → o ≡ None → IsOkUnless made NoMemory
    → MatchOption o (IsOkUnless made NoMemory) (λ cause. IsErrOf made (BadSignature cause))
accepted o made e h = subst (λ x. MatchOption x (IsOkUnless made NoMemory) (λ cause. IsErrOf made (BadSignature cause))) (sym e) h
