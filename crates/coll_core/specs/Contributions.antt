-- What a member gives.
use Rattle.std.specs.Prelude.{ℕ, ◌≤◌, ◌^◌, List, length}
use Rattle.coll_core.specs.declared.contribution.Given.{Given}
use Rattle.coll_core.specs.declared.contribution.Given.TheVariants.{Shareable, TooLong}

-- the bytes
abbrev pub bytes_of : Given → List ℕ
bytes_of (Shareable bytes) = bytes
bytes_of (TooLong bytes) = bytes.items

-- those that are kept apart are more than any collective takes
abbrev pub IsApart : Given → Type 0
IsApart (Shareable bytes) = Unit {0}
IsApart (TooLong bytes) = 2 ^ 32 ≤ length bytes.items
