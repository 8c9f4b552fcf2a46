-- each arm by its builder's contract
use Rattle.coll_kinds.specs.declared.kind.Kind.TheVariants.{Barrier, Bcast, Gather, Scatter, Allgather, Allgatherv, Alltoall, Reduce, Allreduce}
use Rattle.coll_kinds.specs.declared.kind.Kind.TheVariants.{Rsblock, Scan, Exscan}
use Rattle.coll_plans.proofs.Plans.{of_kind}
use Rattle.coll_plans.proofs.planning.schedule_of.Goals as goal

pub returns-in-Barrier-clause-schedule : goal.returns-in-Barrier-clause-schedule
returns-in-Barrier-clause-schedule c = of_kind c.args.sig c.args.n c.args.r Barrier c.barrier.result c.in-Barrier.is c.barrier.ensures.schedule

pub returns-in-Bcast-clause-schedule : goal.returns-in-Bcast-clause-schedule
returns-in-Bcast-clause-schedule c = of_kind c.args.sig c.args.n c.args.r Bcast c.bcast_by_length.result c.in-Bcast.is c.bcast_by_length.ensures.schedule

pub returns-in-Gather-clause-schedule : goal.returns-in-Gather-clause-schedule
returns-in-Gather-clause-schedule c = of_kind c.args.sig c.args.n c.args.r Gather c.gather.result c.in-Gather.is c.gather.ensures.schedule

pub returns-in-Scatter-clause-schedule : goal.returns-in-Scatter-clause-schedule
returns-in-Scatter-clause-schedule c = of_kind c.args.sig c.args.n c.args.r Scatter c.scatter.result c.in-Scatter.is c.scatter.ensures.schedule

pub returns-in-Allgather-clause-schedule : goal.returns-in-Allgather-clause-schedule
returns-in-Allgather-clause-schedule c = of_kind c.args.sig c.args.n c.args.r Allgather c.allgather.result c.in-Allgather.is c.allgather.ensures.schedule

pub returns-in-Allgatherv-clause-schedule : goal.returns-in-Allgatherv-clause-schedule
returns-in-Allgatherv-clause-schedule c = of_kind c.args.sig c.args.n c.args.r Allgatherv c.allgatherv.result c.in-Allgatherv.is c.allgatherv.ensures.schedule

pub returns-in-Alltoall-clause-schedule : goal.returns-in-Alltoall-clause-schedule
returns-in-Alltoall-clause-schedule c = of_kind c.args.sig c.args.n c.args.r Alltoall c.alltoall.result c.in-Alltoall.is c.alltoall.ensures.schedule

pub returns-in-Reduce-clause-schedule : goal.returns-in-Reduce-clause-schedule
returns-in-Reduce-clause-schedule c = of_kind c.args.sig c.args.n c.args.r Reduce c.reduce.result c.in-Reduce.is c.reduce.ensures.schedule

pub returns-in-Allreduce-clause-schedule : goal.returns-in-Allreduce-clause-schedule
returns-in-Allreduce-clause-schedule c = of_kind c.args.sig c.args.n c.args.r Allreduce c.allreduce.result c.in-Allreduce.is c.allreduce.ensures.schedule

pub returns-in-Rsblock-clause-schedule : goal.returns-in-Rsblock-clause-schedule
returns-in-Rsblock-clause-schedule c = of_kind c.args.sig c.args.n c.args.r Rsblock c.rsblock.result c.in-Rsblock.is c.rsblock.ensures.schedule

pub returns-in-Scan-clause-schedule : goal.returns-in-Scan-clause-schedule
returns-in-Scan-clause-schedule c = of_kind c.args.sig c.args.n c.args.r Scan c.scan.result c.in-Scan.is c.scan.ensures.schedule

pub returns-in-Exscan-clause-schedule : goal.returns-in-Exscan-clause-schedule
returns-in-Exscan-clause-schedule c = of_kind c.args.sig c.args.n c.args.r Exscan c.exscan.result c.in-Exscan.is c.exscan.ensures.schedule
