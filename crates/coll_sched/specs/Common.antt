-- The definitions that other files cite most, passed on from one place. Declares nothing.
pub use Rattle.coll_sched.specs.Actions.{AllApart, EachFollows, Fits, Follows, IsAmong, IsCombine, IsLocal, writes, wrote, wrote_all}
pub use Rattle.coll_sched.specs.Families.{Family, Heard, IsLawful, IsNarrow, IsRecvOf, Receives, actions_at, family_exchanges, in_link, is_exchange}
pub use Rattle.coll_sched.specs.Families.{is_recv, is_send, laid_in, len_of, lock_step, members, messages, out_link, read_at, result_at}
pub use Rattle.coll_sched.specs.Points.{IsPoint, Over, actions_of, left_in, remaining}
pub use Rattle.coll_sched.specs.Regions.{Apart, Inside, behind, front, nothing, read_of, written}
pub use Rattle.coll_sched.specs.Schedules.{IsRound, IsSchedule, Parts, has_peer}
pub use Rattle.coll_sched.specs.Served.{Serves}
pub use Rattle.coll_sched.specs.Tracks.{Tracks, done_at, done_by, ins, outs, standing, total}
pub use Rattle.coll_sched.specs.Worlds.{IsNext, Progress, World, acted, compute, empty, filled, joined, put_mail, receive, send, turned}
