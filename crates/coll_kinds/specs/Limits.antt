-- The limits of the engine, which are our own; the MPI standard sets none.
use Rattle.std.specs.Prelude.{ℕ}

-- the most ranks of a job, and so the most members of a communicator
abbrev pub max_ranks : ℕ
max_ranks = 64

-- the most communicators, the one of all ranks among them
abbrev pub max_communicators : ℕ
max_communicators = 16

-- the most slots for live requests
abbrev pub max_slots : ℕ
max_slots = 4096

-- the most requests of a job text, counted by their posts and initialisations
abbrev pub max_requests : ℕ
max_requests = 4096

-- the most bytes of a job text: 1 MiB
abbrev pub max_text : ℕ
max_text = 1048576

-- the most places in a member's posting list
abbrev pub max_places : ℕ
max_places = 65536

-- the most starts of a persistent request
abbrev pub max_starts : ℕ
max_starts = 1048576

-- the most entries of a trace
abbrev pub max_entries : ℕ
max_entries = 1048576

-- the most elements in a block
abbrev pub max_count : ℕ
max_count = 65536

-- the most bytes that one member gives, or gets: 16 MiB
abbrev pub max_len : ℕ
max_len = 16777216

-- the most bytes that one active request lends to the engine, given and got together
abbrev pub max_lent : ℕ
max_lent = 33554432
