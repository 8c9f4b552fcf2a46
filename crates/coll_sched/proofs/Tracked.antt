-- The laws of worlds on their track
use Rattle.std.proofs.Common.{◌≡◌, ℕ, List, Option, Some, None, refl}
use Rattle.coll_sched.specs.Worlds.{empty}
use Rattle.coll_sched.specs.Tracked.{StepsTrack, ReachedTracks, UnbegunTracks, TrackedFinishes, TrackedFinishesHeard}
use Rattle.coll_sched.proofs.Track.{heard_self, keeps, not_begun, tracks, tracks_empty}
use Rattle.coll_sched.proofs.Views.{tracks_agrees}
use Rattle.coll_sched.proofs.Quiet.{all_done, heard_done}

pub steps_track : StepsTrack
steps_track n f lawful w v step t = keeps n f lawful step t

pub reached_tracks : ReachedTracks
reached_tracks n f lawful w reached = tracks n f lawful reached

pub unbegun_tracks : UnbegunTracks
unbegun_tracks n f g w t none =
    tracks_agrees n g empty w
    (record {
      given = none;
      progress = λ r. not_begun n f w r t (none r);
      mail = λ q r j. nothing q r j (w.mail q r j) refl;
    })
    (tracks_empty n g)
  where
    nothing : (q r j : ℕ) (o : Option (List ℕ)) → w.mail q r j ≡ o → w.mail q r j ≡ None
    nothing q r j None e = e
    nothing q r j (Some bytes) e = absurd ((t.in_transit q r j bytes e).heard q (heard_self f j q) (none q))

pub tracked_finishes : TrackedFinishes
tracked_finishes n f lawful w t all quiet r p e = all_done n f lawful w t quiet all r p e

pub tracked_finishes_heard : TrackedFinishesHeard
tracked_finishes_heard n f lawful w t quiet r p e heard = heard_done n f lawful w t quiet r p e heard
