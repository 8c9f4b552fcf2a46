-- Regions beside one another
use Rattle.std.specs.Prelude.{◌≡◌, ◌+◌, ◌-◌, ◌<◌, ◌≤◌, max, min}
use Rattle.coll_sched.specs.declared.region.Region.{Region}

-- the outer region has all bytes of the inner one
abbrev pub Within : Region → Region → Type 0
Within outer inner = (outer.at ≤ inner.at) × (inner.at + inner.len ≤ outer.at + outer.len)

-- where the inner region lies in the outer one
abbrev pub seen_from : Region → Region → Region
seen_from outer inner = record { at = inner.at - outer.at; len = inner.len }

-- the region has the bytes that both have, and there are some
pub record IsCommon (first second both : Region) : Type 0 where
  pub starts : both.at ≡ max first.at second.at
  pub ends : both.at + both.len ≡ min (first.at + first.len) (second.at + second.len)
  pub some : 0 < both.len
