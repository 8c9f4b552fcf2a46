-- What stands of one instance.
use Rattle.std.specs.Prelude.{◌≡◌, ◌==◌, ◌&&◌, ℕ, Bool, cond, List, length, map, slice_get, unwrap_or, Option, Some, None}
use Rattle.std.specs.List.{range_with_len}
use Rattle.std.specs.Map.{lookup}
use Rattle.coll_ops.specs.Combinations.{combination}
use Rattle.coll_ops.specs.Values.{all_rows}
use Rattle.coll_sched.specs.Served.{listing}
use Rattle.coll_machine.specs.Steps.{AllHaveLeft}
use Rattle.coll_match.specs.declared.combined_row.CombinedRow.{CombinedRow}
use Rattle.coll_match.specs.declared.combined_row.Combination.{Combination}
use Rattle.coll_match.specs.declared.envelope.Envelope.{Envelope}

-- of one member: what it gave, the slot of its active request, and the messages that it sent and that weren't taken yet
pub record Part : Type 0 where
  pub contribution : Option (List ℕ)
  pub slot : Option ℕ
  pub sent : List (Envelope × List ℕ)

-- of all members
pub record Held : Type 0 where
  pub shares : List Part

abbrev pub same_envelope : Envelope → Envelope → Bool
same_envelope a b = (a.to == b.to) && (a.round == b.round)

-- the message to a receiver for a round, of those that one member sent
abbrev pub sent_in : List (Envelope × List ℕ) → ℕ → ℕ → Option (List ℕ)
sent_in messages to round = lookup (same_envelope (record { to = to; round = round })) messages

-- a sender's messages with another one, or none, at one receiver and round
abbrev pub put_sent : (ℕ → ℕ → Option (List ℕ)) → ℕ → ℕ → Option (List ℕ) → ℕ → ℕ → Option (List ℕ)
put_sent f to round message b c = cond ((b == to) && (c == round)) message (f b c)

abbrev pub contribution_of : Option Part → Option (List ℕ)
contribution_of None = None
contribution_of (Some part) = part.contribution

abbrev pub slot_of : Option Part → Option ℕ
slot_of None = None
slot_of (Some part) = part.slot

abbrev pub sent_of : Option Part → ℕ → ℕ → Option (List ℕ)
sent_of None to round = None
sent_of (Some part) to round = sent_in part.sent to round

-- what a member gave
abbrev pub given_in : Held → ℕ → Option (List ℕ)
given_in h member = contribution_of (slice_get h.shares member)

-- the slot of a member's active request
abbrev pub seat_in : Held → ℕ → Option ℕ
seat_in h member = slot_of (slice_get h.shares member)

-- the message of a sender to a receiver for a round
abbrev pub mail_in : Held → ℕ → ℕ → ℕ → Option (List ℕ)
mail_in h from = sent_of (slice_get h.shares from)

-- the rows that the members gave, one after the other; bytes of that member's choice for one that hasn't given
abbrev pub joined_rows : (ℕ → Option (List ℕ)) → (ℕ → List ℕ) → ℕ → List ℕ
joined_rows gave missing n = all_rows (map (λ m. unwrap_or (gave m) (missing m)) (range_with_len 0 n))

-- the bytes are what all members gave, joined, so it doesn't matter what stands for one that hasn't given
abbrev pub HasJoined : Held → List ℕ → Type 0
HasJoined h bytes = (missing : ℕ → List ℕ) → bytes ≡ joined_rows (given_in h) missing (length h.shares)

-- what the combination is, where each of its members has given; bytes of that member's choice for one that hasn't
abbrev pub combined_rows : (ℕ → Option (List ℕ)) → (ℕ → List ℕ) → Combination → List ℕ
combined_rows gave missing of = combination of.op of.ty (listing (λ m. unwrap_or (gave m) (missing m)) of.first of.count)

-- the bytes are that combination, whatever stands for one that hasn't given
abbrev pub HasCombined : Held → Combination → List ℕ → Type 0
HasCombined h of bytes = (missing : ℕ → List ℕ) → bytes ≡ combined_rows (given_in h) missing of

-- each cell is for the bytes of its combination
abbrev pub AreCombined : Held → List CombinedRow → Type 0
AreCombined h rows = (i : ℕ) (row : CombinedRow) → slice_get rows i ≡ Some row → HasCombined h row.of row.cell

-- the cell of one of these rows is for these bytes, and the row is of that combination
pub record IsCellOf (rows : List CombinedRow) (of : Combination) (bytes : List ℕ) : Type 0 where
  pub i : ℕ
  pub row : CombinedRow
  pub here : slice_get rows i ≡ Some row
  pub of_is : row.of ≡ of
  pub cell_is : row.cell ≡ bytes

-- every member has given and has no active request
abbrev pub IsOver : Held → Type 0
IsOver h = AllHaveLeft (length h.shares) (given_in h) (λ member. seat_in h member ≡ None)
