-- Segments laid over zeros, a newer one over the older ones
use Rattle.std.specs.Prelude.{◌≡◌, ℕ, ◌<◌, List, All, fold, length, replicate, slice_index_or}
use Rattle.coll_sched.specs.declared.region.Region.{Region}
use Rattle.coll_sched.specs.Regions.{Inside, read_of, written}
use Rattle.coll_bytes.specs.declared.segment.Segment.{Segment}
use Rattle.coll_bytes.specs.Overlaps.{Within, seen_from}

-- where a segment lies
abbrev pub place_of : Segment → Region
place_of segment = record { at = segment.at; len = length segment.bytes }

-- a buffer after one segment was laid over it
abbrev pub laid_over : List ℕ → Segment → List ℕ
laid_over buffer segment = written buffer (place_of segment) segment.bytes

-- the bytes of a buffer of this size
abbrev pub laid : ℕ → List Segment → List ℕ
laid size segments = fold laid_over (replicate size 0) segments

-- each segment lies in a buffer of this size
abbrev pub AllInside : ℕ → List Segment → Type 0
AllInside size segments = All (λ segment. Inside size (place_of segment)) segments

-- the segment at an index shows all bytes of a region
pub record Shows (size : ℕ) (segments : List Segment) (from : Region) (i : ℕ) : Type 0 where
  pub there : i < length segments
  pub within : (segment : Segment) → segment ≡ slice_index_or segments i segment → Within (place_of segment) from
  pub reads : (segment : Segment) → segment ≡ slice_index_or segments i segment
      → read_of (laid size segments) from ≡ read_of segment.bytes (seen_from (place_of segment) from)
