-- main lemmas: every plan serves its collective; the computed hearing is the proofs'; how many actions
pub mod Plans
pub mod Hearings
mod Counts
-- the barrier
pub mod DisseminationBarrier
pub mod Around
-- direct exchange: gather, scatter, alltoall, allgatherv, rsblock
pub mod DirectGather
pub mod DirectScatter
pub mod DirectAlltoall
pub mod DirectAllgatherv
pub mod DirectRsblock
pub mod DirectRsblockCombining
pub mod DirectExchange
pub mod DirectArrivals
pub mod DirectChoosing
pub mod DirectPlaces
pub mod DirectRowRegions
pub mod DirectCosts
-- prefix doubling: scan, exscan
pub mod PrefixDoublingScan
pub mod PrefixDoublingExscan
pub mod PrefixDoublingRounds
-- Bruck's algorithm: allgather
pub mod BruckAllgather
pub mod BruckRounds
pub mod BruckRegions
-- recursive doubling: allreduce
pub mod RecursiveDoublingAllreduce
pub mod RecursiveDoublingRounds
pub mod RecursiveDoublingRanges
pub mod RecursiveDoublingJoins
pub mod RecursiveDoublingBlocks
pub mod RecursiveDoublingHypercube
pub mod JoinRows
-- the chain: long bcasts
pub mod ChainBcast
pub mod ChainRounds
pub mod ChainSegments
-- rounds without messages
pub mod LocalRounds
