-- The definitions that other files cite most, passed on from one place. Declares nothing.
pub use Rattle.coll_machine.specs.Calls.{Call, Finish, Free, Init, Nothing, Outcome, Planned, Post, Refused, Reply, Retire, Start, Ticketed}
pub use Rattle.coll_machine.specs.Changes.{created, forgotten, holding, new_request, once_more, put2, put_in, put_key, rested, rested_by, same_key, started}
pub use Rattle.coll_machine.specs.Entries.{Entry, Freed, Inited, Posted, Retired, Started}
pub use Rattle.coll_machine.specs.Lents.{lent_bytes}
pub use Rattle.coll_machine.specs.Machines.{MachineStep, MayFinish, StepsTo, finish, free, init, phased, post, refuse, retire, short, start, wait}
pub use Rattle.coll_machine.specs.Postings.{ArePosted, IsPosted}
pub use Rattle.coll_machine.specs.Refusals.{first_of, first_there, idle_refusals, mismatch_in, naming_refusals, plan_refusals, refusal, refusals}
pub use Rattle.coll_machine.specs.Refusals.{start_refusals, unless, unseated, wrong_length}
pub use Rattle.coll_machine.specs.Reports.{posts_of}
pub use Rattle.coll_machine.specs.Rows.{barrier, bcast, freed, gather, i32, key, late_bcast, left_late, plan, ticket, two_ranks, two_starts}
pub use Rattle.coll_machine.specs.Runs.{Event, Runs, opened}
pub use Rattle.coll_machine.specs.Settings.{AreGroups, Setting, group, group_in, rank_of, size}
pub use Rattle.coll_machine.specs.States.{Machine, Request, State, found, key_of, nothing, signature_of}
pub use Rattle.coll_machine.specs.Steps.{AllHaveLeft, Clears, Frees, Inits, IsNew, IsOver, IsReady, Posts, Retires, Starts, Works, filled}
pub use Rattle.coll_machine.specs.Traces.{Enters, Leads, LegalTrace, over_slots, reserved}
