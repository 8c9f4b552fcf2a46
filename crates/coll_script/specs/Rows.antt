-- Worked rows, computed: the text of some lines, and its meaning.
use Rattle.std.specs.Prelude.{◌≡◌, ℕ, List, [], ◌∷◌, ◌++◌, Result, Ok, Err, codes, map, flat_map, refl}
use Rattle.std.specs.Fmt.{digits}
use Rattle.std.specs.Int.{int_wrap}
use Rattle.coll_parser.specs.declared.cause.Cause.{Cause}
use Rattle.coll_parser.specs.declared.cause.Cause.TheVariants.{MissingRanks, PlaceMismatch, PlaceMissing, StartMissing}
use Rattle.coll_parser.specs.declared.fault.Fault.{Fault}
use Rattle.coll_parser.specs.Lines.{line, ranks, comm, section, command}
use Rattle.coll_parser.specs.Lines.{post, init, start, startable, signature, fields, values}
use Rattle.coll_script.specs.Jobs.{script_of}
use Rattle.coll_script.specs.Meaning.{meaning}

-- lines, each with a line feed
abbrev text : List (List ℕ) → List ℕ
text lines = flat_map (λ line. line ++ 10 ∷ []) lines

-- the text has this fault, in the line of that number
abbrev fault : ℕ → Cause → Result (List ℕ) Fault
fault line cause = Err (record { line = line; cause = cause })

-- a text of no bytes has one line
empty_text : meaning [] ≡ fault 1 MissingRanks
unfolding script_of line ranks comm section command post init start startable signature fields values
empty_text = refl

abbrev three_ranks : List (List ℕ)
three_ranks =
    codes "ranks 3"
    ∷ codes "rank 0"
    ∷ codes "post 0 allreduce sum i32 1 : 1"
    ∷ codes "rank 1"
    ∷ codes "post 0 allreduce sum i32 1 : 2"
    ∷ codes "rank 2"
    ∷ codes "post 0 allreduce sum i32 1 : 3"
    ∷ []

abbrev six_for_each : List (List ℕ)
six_for_each =
    codes "rank 0 req 0 start 0 : 6"
    ∷ codes "rank 1 req 0 start 0 : 6"
    ∷ codes "rank 2 req 0 start 0 : 6"
    ∷ []

-- an allreduce of 1, 2 and 3
sum_of_three : meaning (text three_ranks) ≡ Ok (text six_for_each)
unfolding digits int_wrap script_of line ranks comm section command post init start startable signature fields values
sum_of_three = refl

-- comments and empty lines are skipped, and -1 and 7 are values; there need be no line feed at the end
comments_and_leading_zeros :
    meaning (text (codes "# x" ∷ codes "ranks 1" ∷ [] ∷ codes "rank 0" ∷ []) ++ codes "post 0 bcast 0 i8 2 : -1 007")
    ≡ Ok (text (codes "rank 0 req 0 start 0 : -1 7" ∷ []))
unfolding digits script_of line ranks comm section command post init start startable signature fields values
comments_and_leading_zeros = refl

abbrev two_places : List (List ℕ)
two_places =
    codes "ranks 2"
    ∷ codes "rank 0"
    ∷ codes "post 0 allreduce maxloc 2int 2 : 7,0 -3,0"
    ∷ codes "rank 1"
    ∷ codes "post 0 allreduce maxloc 2int 2 : 7,1 -2,1"
    ∷ []

-- a pair is printed as it is written, the value first: of equal values the one with the lesser index
pairs_printed : meaning (text two_places)
    ≡ Ok (text (codes "rank 0 req 0 start 0 : 7,0 -2,1" ∷ codes "rank 1 req 0 start 0 : 7,0 -2,1" ∷ []))
unfolding digits int_wrap script_of line ranks comm section command post init start startable signature fields values
pairs_printed = refl

abbrev rows_of_three : List (List ℕ)
rows_of_three =
    codes "ranks 3"
    ∷ codes "rank 0"
    ∷ codes "post 0 allgatherv i16 2 0 1 : 1 2"
    ∷ codes "rank 1"
    ∷ codes "post 0 allgatherv i16 2 0 1"
    ∷ codes "rank 2"
    ∷ codes "post 0 allgatherv i16 2 0 1 : 9"
    ∷ []

abbrev all_rows_for_each : List (List ℕ)
all_rows_for_each =
    codes "rank 0 req 0 start 0 : 1 2 9"
    ∷ codes "rank 1 req 0 start 0 : 1 2 9"
    ∷ codes "rank 2 req 0 start 0 : 1 2 9"
    ∷ []

-- rows of two, no and one element
rows_gathered : meaning (text rows_of_three) ≡ Ok (text all_rows_for_each)
unfolding digits int_wrap script_of line ranks comm section command post init start startable signature fields values
rows_gathered = refl

abbrev ranks_swapped : List (List ℕ)
ranks_swapped =
    codes "ranks 2"
    ∷ codes "comm 1 0"
    ∷ codes "rank 0"
    ∷ codes "post 1 bcast 0 u8 1"
    ∷ codes "rank 1"
    ∷ codes "post 1 bcast 0 u8 1 : 9"
    ∷ []

-- on a communicator of ranks 1 and 0, in that order, rank 1 is the root
member_numbers : meaning (text ranks_swapped)
    ≡ Ok (text (codes "rank 0 req 0 start 0 : 9" ∷ codes "rank 1 req 0 start 0 : 9" ∷ []))
unfolding digits script_of line ranks comm section command post init start startable signature fields values
member_numbers = refl

abbrev two_starts : List (List ℕ)
two_starts =
    codes "ranks 1"
    ∷ codes "rank 0"
    ∷ codes "init 0 bcast 0 u8 1"
    ∷ codes "init 0 barrier"
    ∷ codes "start 0 : 3"
    ∷ codes "wait 0"
    ∷ codes "start 0 : 4"
    ∷ []

-- a request that is started twice has two lines, one that isn't started has none
started_twice : meaning (text two_starts)
    ≡ Ok (text (codes "rank 0 req 0 start 0 : 3" ∷ codes "rank 0 req 0 start 1 : 4" ∷ []))
unfolding digits script_of line ranks comm section command post init start startable signature fields values
started_twice = refl

-- a bcast and an allreduce at one place
abbrev signatures_differ : List (List ℕ)
signatures_differ =
    codes "ranks 2"
    ∷ codes "rank 0"
    ∷ codes "post 0 bcast 0 i32 1 : 7"
    ∷ codes "rank 1"
    ∷ codes "post 0 allreduce sum i32 1 : 7"
    ∷ []

-- the same kind and type, but other counts at one place
abbrev counts_differ : List (List ℕ)
counts_differ =
    codes "ranks 2"
    ∷ codes "rank 0"
    ∷ codes "post 0 allgatherv u8 1 1 : 7"
    ∷ codes "rank 1"
    ∷ codes "post 0 allgatherv u8 1 2 : 8 9"
    ∷ []

-- an initialisation and a post at one place
abbrev modes_differ : List (List ℕ)
modes_differ =
    codes "ranks 2"
    ∷ codes "rank 1"
    ∷ codes "init 0 barrier"
    ∷ codes "rank 0"
    ∷ codes "post 0 barrier"
    ∷ []

-- a post of one of two members
abbrev place_missing : List (List ℕ)
place_missing =
    codes "ranks 2"
    ∷ codes "rank 0"
    ∷ codes "post 0 bcast 0 i32 0"
    ∷ []

-- a start of one of two members
abbrev start_missing : List (List ℕ)
start_missing =
    codes "ranks 2"
    ∷ codes "rank 0"
    ∷ codes "init 0 barrier"
    ∷ codes "start 0"
    ∷ codes "rank 1"
    ∷ codes "init 0 barrier"
    ∷ []

abbrev end_rows : List (List (List ℕ) × Result (List ℕ) Fault)
end_rows =
    (signatures_differ, fault 5 PlaceMismatch)
    ∷ (counts_differ, fault 5 PlaceMismatch)
    ∷ (modes_differ, fault 5 PlaceMismatch)
    ∷ (place_missing, fault 3 PlaceMissing)
    ∷ (start_missing, fault 6 StartMissing)
    ∷ []

-- faults that are judged after all lines
ends : map (λ row. meaning (text row.0)) end_rows ≡ map (λ row. row.1) end_rows
unfolding script_of line ranks comm section command post init start startable signature fields values
ends = refl
