-- An engine just opened.
use Rattle.std.proofs.Common.{◌≡◌, ℕ, zero, suc, ◌+◌, List, [], length, replicate, get_or, Option, None, refl, sym, ap, subst, ◌∙◌}
use Rattle.std.specs.Prelude.{option_map}
use Rattle.std.proofs.lemmas.List.{length-replicate}
use Rattle.std.proofs.lemmas.Option.{none-some}
use Rattle.coll_kinds.specs.declared.signature.Signature.{Signature}
use Rattle.coll_arena.specs.Changes.{opened as arena_opened}
use Rattle.coll_arena.specs.ListNames.{list_count}
use Rattle.coll_arena.specs.Slots.{Slots, count, home, record_in}
use Rattle.coll_arena.proofs.Opening.{list_of-opening}
use Rattle.coll_machine.specs.Refusals.{first_there}
use Rattle.coll_queues.specs.Postings.{size as size_in}
use Rattle.coll_machine.specs.declared.key.Key.{Key}
use Rattle.coll_refinement.specs.Requests.{Live}
use Rattle.coll_refinement.specs.Tables.{Tables, asked, is_done, opened}
use Rattle.coll_refinement.specs.Sound.{IsSound}
use Rattle.coll_refinement.specs.Shown.{seen, tables, weight_by}
use Rattle.coll_refinement.proofs.engine.Statements.{OpenCore}
use Rattle.coll_refinement.proofs.tables.Finished.{open_keeps}

replicate_default : {X : Type 0} (n i : ℕ) (x : X) → get_or (replicate n x) i x ≡ x
replicate_default zero i x = refl
replicate_default (suc n) zero x = refl
replicate_default (suc n) (suc i) x = replicate_default n i x

-- no list has a place
none_there : (place from n : ℕ) → first_there (λ member. []) place from n ≡ None
none_there place from zero = refl
none_there place from (suc n) = none_there place (from + 1) n

pub open_core : {R : Type 0} → OpenCore R
open_core {R} shown g q m wear groups groups_is places_is posts_are members_are given_are seats_are mail_are = (
  record {
    set = record { slots_is = sym counted; wear_is = refl; comms_is = refl; groups_is = groups_is; places_is = places_is; groups = groups };
    sound = subst (λ (v : Tables). IsSound v) (sym is_opened)
        (open_keeps g (home a) wear (λ i low. list_of-opening g.slots (list_count (length g.groups)) i low));
    sizes = λ k n e. absurd (none-some n (ap (λ (f : Key → Option ℕ). f k) (sym members_are) ∙ e));
    weights = λ z i. (replicate_default g.slots i 0 ∙ ap (λ (o : Option Live). weight_by o) (sym (empty i))) z;
  },
  λ z. record {
    state = record { generation = λ i. replicate_default g.slots i 0 z; request = λ i. asked (empty i z); posts = posts_are z; given = λ k. given_are z k };
    done = λ i. is_done (home a i) (empty i z);
  },
)
  where
    a : Slots R
    a = arena_opened g.slots (length g.groups) g.wear

    counted : count a ≡ g.slots
    counted = length-replicate {A = ℕ} g.slots 0

    empty : (i : ℕ) → seen (home a i) (option_map shown (record_in a i)) ≡ None
    empty i = λ z. seen (home a i) (option_map shown (replicate_default {X = Option R} g.slots i None z))

    is_opened : tables shown g a q m ≡ opened g (home a)
    is_opened = λ z. record {
      setting = g;
      generation = λ i. replicate_default g.slots i 0 z;
      request = λ i. empty i z;
      home = home a;
      posts = posts_are z;
      signed = λ comm place. (ap (λ (f : ℕ → ℕ → List Signature). signed_by (f comm) place comm) posts_are ∙ none_signed comm place) z;
      given = λ k. given_are z k;
      seats = λ k. seats_are z k;
      mail = λ k. mail_are z k;
    }
      where
        signed_by : (ℕ → List Signature) → ℕ → ℕ → Option Signature
        signed_by lists place comm = option_map (λ first. first.1) (first_there lists place 0 (size_in q comm))

        none_signed : (comm place : ℕ) → signed_by (λ member. []) place comm ≡ None
        none_signed comm place = ap (λ (o : Option (ℕ × Signature)). option_map (λ first. first.1) o) (none_there place 0 (size_in q comm))
