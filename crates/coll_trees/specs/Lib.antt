-- the families of the binomial builders, and their depth
pub mod BinomialTreeReduce
pub mod BinomialTreeBcast
pub mod Trees
pub mod Depths
-- worked rows
pub mod BinomialTreeRows
-- how families are written round by round
pub mod Columns
