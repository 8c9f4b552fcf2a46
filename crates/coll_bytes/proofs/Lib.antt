-- segments laid one over the other
pub mod Laying
pub mod Writes
pub mod Parts
-- rows that are compared
pub mod Comparing
