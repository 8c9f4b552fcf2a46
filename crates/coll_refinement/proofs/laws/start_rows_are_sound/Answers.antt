use Rattle.coll_refinement.proofs.rows.Starts.{start_rows_are_sound}
use Rattle.coll_refinement.proofs.laws.start_rows_are_sound.Goals as goal

pub returns : goal.returns
returns c = start_rows_are_sound
