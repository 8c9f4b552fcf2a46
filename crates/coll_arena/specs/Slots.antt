-- What a contract sees of an arena.
use Rattle.std.specs.Prelude.{ℕ, Bool, List, map, length, Option, None, refl, ◌&&◌, ◌==◌, nat_lt, if◌then◌else◌, slice_index, slice_index_or, sum}
use Rattle.std.specs.List.{range_with_len}
use Rattle.std.specs.Coded.{Coded, code_by, coded×, coded_ℕ, coded_list, coded_option}
use Rattle.coll_lists.specs.Layouts.{Layout, list_of, sequence}
use Rattle.coll_kinds.specs.declared.ticket.Ticket.{Ticket}

-- for each slot the generation last given, the weight and the record, where it has one; the lists of slots; how many
-- communicators have lists; and the generation at which a slot is worn
pub record Slots (R : Type 0) : Type 0 where
  pub generations : List ℕ
  pub weights : List ℕ
  pub records : List (Option R)
  pub lists : Layout
  pub comms : ℕ
  pub wear : ℕ

-- slots are stored as the tuple of their fields
abbrev pub slots_code : {R : Type 0} → Coded R → Coded (Slots R)
slots_code {R} code =
    code_by
    (List ℕ × (List ℕ × (List (Option R) × (Layout × (ℕ × ℕ)))))
    (coded× (coded_list coded_ℕ)
    (coded× (coded_list coded_ℕ)
    (coded× (coded_list (coded_option code)) (coded× (coded_list (coded_list coded_ℕ)) (coded× coded_ℕ coded_ℕ)))))
    (λ a. (a.generations, (a.weights, (a.records, (a.lists, (a.comms, a.wear))))))
    (λ p. record {
      generations = p.0;
      weights = p.1.0;
      records = p.1.1.0;
      lists = p.1.1.1.0;
      comms = p.1.1.1.1.0;
      wear = p.1.1.1.1.1;
    })
    (λ _. refl)

module _ {R : Type 0} where
  -- how many slots there are
  abbrev pub count : Slots R → ℕ
  count a = length a.generations

  -- the generation last given to a slot, 0 where it was never used
  abbrev pub generation_of : Slots R → ℕ → ℕ
  generation_of a slot = slice_index a.generations slot

  -- what a slot weighs
  abbrev pub weight_of : Slots R → ℕ → ℕ
  weight_of a slot = slice_index a.weights slot

  -- the record in a slot
  abbrev pub record_in : Slots R → ℕ → Option R
  record_in a slot = slice_index_or a.records slot None

  -- the list that a slot lies on
  abbrev pub home : Slots R → ℕ → ℕ
  home a slot = list_of a.lists slot

  -- a slot is live where it lies on neither Free nor Worn
  abbrev pub is_live : Slots R → ℕ → Bool
  is_live a slot = nat_lt slot (count a) && nat_lt 1 (home a slot)

  -- the ticket names a live request
  abbrev pub names : Slots R → Ticket → Bool
  names a ticket = is_live a ticket.slot && (generation_of a ticket.slot == ticket.generation)

  -- what one slot adds to the sum of the live slots' weights
  abbrev pub lent_by : Slots R → ℕ → ℕ
  lent_by a slot = if is_live a slot then weight_of a slot else 0

  -- the sum of the weights of the live slots
  abbrev pub lent : Slots R → ℕ
  lent a = sum (map (lent_by a) (range_with_len 0 (count a)))

  -- the ticket of a slot as it stands
  abbrev pub ticket_of : Slots R → ℕ → Ticket
  ticket_of a slot = record { slot = slot; generation = generation_of a slot }

  -- the tickets of a list, in its order
  abbrev pub tickets : Slots R → ℕ → List Ticket
  tickets a list = map (ticket_of a) (sequence a.lists list)
