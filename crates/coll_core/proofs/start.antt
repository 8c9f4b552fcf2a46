pub mod StartAndFree
pub mod Room
pub mod Begin
pub mod Start
