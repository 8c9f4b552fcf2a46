-- Worked rows, computed
use Rattle.std.specs.Prelude.{◌≡◌, [], ◌∷◌, refl}
use Rattle.coll_sched.specs.Regions.{read_of}
use Rattle.coll_bytes.specs.declared.segment.Segment.{Segment}
use Rattle.coll_bytes.specs.Laid.{laid}
use Rattle.coll_bytes.specs.Overlaps.{seen_from}

abbrev older : Segment
older = record { at = 1; bytes = 7 ∷ 8 ∷ [] }

abbrev newer : Segment
newer = record { at = 2; bytes = 9 ∷ [] }

-- what nobody wrote is zero
nothing_laid : laid 3 [] ≡ 0 ∷ 0 ∷ 0 ∷ []
nothing_laid = refl

one_laid : laid 4 (older ∷ []) ≡ 0 ∷ 7 ∷ 8 ∷ 0 ∷ []
one_laid = refl

-- the last one lies above
newer_above : laid 4 (older ∷ newer ∷ []) ≡ 0 ∷ 7 ∷ 9 ∷ 0 ∷ []
newer_above = refl

older_above : laid 4 (newer ∷ older ∷ []) ≡ 0 ∷ 7 ∷ 8 ∷ 0 ∷ []
older_above = refl

-- a region is read across segments and zeros
read_across : read_of (laid 4 (older ∷ newer ∷ [])) (record { at = 1; len = 3 }) ≡ 7 ∷ 9 ∷ 0 ∷ []
read_across = refl

-- where the bytes 5 to 7 lie in the region of the bytes 4 to 8
inner_place : seen_from (record { at = 4; len = 5 }) (record { at = 5; len = 3 }) ≡ record { at = 1; len = 3 }
inner_place = refl
