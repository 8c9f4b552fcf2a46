-- Regions of a buffer: runs of bytes that actions read and write
use Rattle.std.specs.Prelude.{ℕ, ◌+◌, ◌<◌, ◌≤◌, List, ◌++◌, take, drop}
use Rattle.coll_sched.specs.declared.region.Region.{Region}

-- the region lies in a buffer of this size
abbrev pub Inside : ℕ → Region → Type 0
Inside size g = g.at + g.len ≤ size

-- the regions share no byte
abbrev pub Apart : Region → Region → Type 0
Apart g h = (k : ℕ) → g.at ≤ k → k < g.at + g.len → h.at ≤ k → k < h.at + h.len → ⊥

-- the bytes of the region
abbrev pub read_of : List ℕ → Region → List ℕ
read_of buf g = take g.len (drop g.at buf)

-- the buffer with these bytes written into the region
abbrev pub written : List ℕ → Region → List ℕ → List ℕ
written buf g bytes = take g.at buf ++ (bytes ++ drop (g.at + g.len) buf)

-- no bytes
abbrev pub nothing : Region
nothing = record { at = 0; len = 0 }

-- the first block of a buffer
abbrev pub front : ℕ → Region
front len = record { at = 0; len = len }

-- the second block, as long as the first
abbrev pub behind : ℕ → Region
behind len = record { at = len; len = len }
