-- For whom completions wait in a reading.
use Rattle.coll_diagnosis.specs.declared.waiting.Reading.{Reading}
use Rattle.coll_diagnosis.specs.declared.waiting.Reading.TheVariants as reading
use Rattle.coll_diagnosis.specs.declared.waiting.WaitsFor.{WaitsFor}
use Rattle.coll_diagnosis.specs.declared.waiting.WaitsFor.TheVariants.{Needed, Heard, All}

abbrev pub waits_in_reading : Reading → WaitsFor
waits_in_reading reading.Needed = Needed
waits_in_reading (reading.Heard tables) = Heard
waits_in_reading reading.All = All
