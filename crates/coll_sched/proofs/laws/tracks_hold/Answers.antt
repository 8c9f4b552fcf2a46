use Rattle.coll_sched.proofs.Track.{holds}
use Rattle.coll_sched.proofs.Serving.{value_held}
use Rattle.coll_sched.proofs.Tracked.{tracked_finishes, tracked_finishes_heard}
use Rattle.coll_sched.proofs.laws.tracks_hold.Goals as goal

pub returns-clause-holds : goal.returns-clause-holds
returns-clause-holds c = holds

pub returns-clause-value : goal.returns-clause-value
returns-clause-value c = value_held

pub returns-clause-finishes : goal.returns-clause-finishes
returns-clause-finishes c = tracked_finishes

pub returns-clause-finishes_heard : goal.returns-clause-finishes_heard
returns-clause-finishes_heard c = tracked_finishes_heard
