-- the family of a signature and a number of members
pub mod Plans
-- from whom members hear
pub mod Hearings
-- what an allreduce's combinations are of
pub mod Joins
-- the families of each kind
pub mod DisseminationBarrier
pub mod DirectExchange
pub mod DirectFamilies
pub mod PrefixDoubling
pub mod BruckAllgather
pub mod RecursiveDoublingHypercube
pub mod RecursiveDoubling
pub mod ChainBcast
-- worked rows
pub mod PlanRows
pub mod DirectRows
pub mod RecursiveDoublingRows
pub mod JoinRows
pub mod ChainRows
pub mod BruckRows
