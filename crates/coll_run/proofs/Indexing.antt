-- An index of completions.
use Rattle.std.proofs.Common.{◌≡◌, ℕ, ◌+◌, cond, List, ◌∷◌, drop, sym, ap, ◌∙◌, Option, Some}
use Rattle.std.specs.Prelude.{option_map}
use Rattle.std.specs.Option.{option_copied}
use Rattle.std.specs.Map.{lookup}
use denote.Ref.{Bor}
use Rattle.coll_match.proofs.Puts.{cond_map}
use Rattle.coll_report.specs.declared.entry.Entry as rust
use Rattle.coll_report.specs.Views.{seen, trace_seen}
use Rattle.coll_run.specs.declared.index.Completion.{Completion}
use Rattle.coll_run.specs.Index.{handed_in, same}
use Rattle.coll_run.specs.Lines.{Handed, further, told_from}

abbrev pub Found : Type 0
Found = List (Completion × Bor (List ℕ))

pub handed-found : (es : Found) (q : Completion) (found : Option (Bor (List ℕ)))
    → found ≡ lookup (same q) es
    → option_copied found ≡ handed_in es q.rank q.comm q.place q.start
handed-found es q found is = ap option_copied is

pub handed-updated : (old new : Found) (w : Completion) (bytes : Bor (List ℕ))
    → ((q : Completion)
    → lookup (same q) new ≡ cond (same w q) (Some bytes) (lookup (same q) old))
    → (rank comm place start : ℕ) → handed_in new rank comm place start
    ≡ cond (same w (record { rank = rank; comm = comm; place = place; start = start })) (Some bytes.now)
    (handed_in old rank comm place start)
handed-updated old new w bytes change rank comm place start =
    at (record { rank = rank; comm = comm; place = place; start = start })
  where
    at : (q : Completion) → option_map (λ (b : Bor (List ℕ)). b.now) (lookup (same q) new)
        ≡ cond (same w q) (Some bytes.now) (option_map (λ (b : Bor (List ℕ)). b.now) (lookup (same q) old))
    at q =
        ap (option_map (λ (b : Bor (List ℕ)). b.now)) (change q)
        ∙ cond_map (option_map (λ (b : Bor (List ℕ)). b.now)) (same w q) (Some bytes) (lookup (same q) old)

-- one more entry of the trace
pub told-more : (trace : List rust.Entry) (i : ℕ) (e : rust.Entry) (old new : Found) (total : Handed)
    → drop i trace ≡ e ∷ drop (i + 1) trace
    → ((rank comm place start : ℕ)
    → handed_in new rank comm place start ≡ further (seen e) (handed_in old) rank comm place start)
    → told_from (handed_in old) (trace_seen (drop i trace)) ≡ total
    → told_from (handed_in new) (trace_seen (drop (i + 1) trace)) ≡ total
told-more trace i e old new total front one so_far =
    (λ z. told_from (same_handed z) (trace_seen (drop (i + 1) trace)))
    ∙ ap (λ (es : List rust.Entry). told_from (handed_in old) (trace_seen es)) (sym front)
    ∙ so_far
  where
    same_handed : ◌≡◌ {A = Handed} (handed_in new) (further (seen e) (handed_in old))
    same_handed = λ z rank comm place start. one rank comm place start z
