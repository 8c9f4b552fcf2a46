use Rattle.coll_sched.proofs.Track.{not_begun}
use Rattle.coll_sched.proofs.Tracked.{reached_tracks, steps_track, unbegun_tracks}
use Rattle.coll_sched.proofs.laws.worlds_track.Goals as goal

pub returns-clause-steps : goal.returns-clause-steps
returns-clause-steps c = steps_track

pub returns-clause-reached : goal.returns-clause-reached
returns-clause-reached c = reached_tracks

pub returns-clause-unbegun : goal.returns-clause-unbegun
returns-clause-unbegun c = unbegun_tracks

pub returns-clause-rests : goal.returns-clause-rests
returns-clause-rests c = not_begun
