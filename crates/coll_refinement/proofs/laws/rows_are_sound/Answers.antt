use Rattle.coll_refinement.proofs.rows.Posts.{rows_are_sound}
use Rattle.coll_refinement.proofs.laws.rows_are_sound.Goals as goal

pub returns : goal.returns
returns c = rows_are_sound
