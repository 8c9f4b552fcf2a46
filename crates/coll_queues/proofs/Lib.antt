-- main lemma: the calls, by the names of the fields
pub mod Calls
-- posting lists of one communicator, and of all
pub mod Fronts
pub mod Comms
-- refusals that didn't come
pub mod Judging
