pub mod Conditions
pub mod LockStep
pub mod LiveRequests
pub mod Tickets
pub mod FirstOfReady
pub mod NoStep
