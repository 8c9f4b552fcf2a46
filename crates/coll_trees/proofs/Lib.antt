-- bcast
pub mod BinomialTreeBcast
pub mod BinomialTreeBcastRounds
-- reduce
pub mod BinomialTreeReduce
pub mod BinomialTreeReduceHop
pub mod BinomialTreeReduceFirst
pub mod BinomialTreeReduceRounds
-- the allreduce by two trees
pub mod ReduceThenBcast
-- what all builders rest on
pub mod Columns
pub mod Depths
pub mod RootNumbers
pub mod Spans
pub mod Checked
pub mod Steps
pub mod BinomialTreeActions
