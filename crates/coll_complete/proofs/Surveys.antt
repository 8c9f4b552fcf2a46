-- A survey of a list, request by request.
use Rattle.std.proofs.Common.{◌≡◌, ℕ, ◌≤◌, ◌||◌, List, [], length, drop, Option, Some, None, refl, sym, ap, ◌∙◌}
use Rattle.std.specs.Prelude.{position}
use Rattle.std.specs.List.{list_any, position_from}
use Rattle.std.specs.Option.{option_or}
use Rattle.std.proofs.lemmas.List.{drop_all}
use Rattle.std.proofs.lemmas.Iterator.Adapters.{position_from-zero}
use Rattle.coll_kinds.specs.declared.ticket.Ticket.{Ticket}
use Rattle.coll_machine.specs.Common.{Setting, Machine}
use Rattle.coll_complete.specs.declared.survey.Survey.{Survey}
use Rattle.coll_complete.specs.Requests.{is_active, is_done, is_pending, list_refusal}

-- what is known of a list after the requests before position i, with those from there on as rest
pub record Surveyed (g : Setting) (m : Machine) (rank : ℕ) (list rest : List (Option Ticket)) (i : ℕ)
    (v : Survey) : Type 0 where
  pub refused : list_refusal g m.state rank list ≡ list_refusal g m.state rank rest
  pub done : position_from (is_done m) 0 list ≡ option_or v.done (position_from (is_done m) i rest)
  pub active : list_any (is_active m) list ≡ (v.active || list_any (is_active m) rest)
  pub pending : list_any (is_pending m) list ≡ (v.pending || list_any (is_pending m) rest)

or_none : (o : Option ℕ) → option_or o None ≡ o
or_none None = refl
or_none (Some k) = refl

-- after the last request
pub surveyed_done : (g : Setting) (m : Machine) (rank : ℕ) (list : List (Option Ticket)) (i : ℕ) (v : Survey)
    → Surveyed g m rank list (drop i list) i v → length list ≤ i → v.done ≡ position (is_done m) list
surveyed_done g m rank list i v h le =
    let end : drop i list ≡ [] = drop_all i list le in
    let all = h.done ∙ (ap (λ rest. option_or v.done (position_from (is_done m) i rest)) end ∙ or_none v.done) in
    sym all ∙ sym (position_from-zero (is_done m) list)
