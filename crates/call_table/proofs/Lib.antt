pub mod ByObjects
pub mod Calls
pub mod Committing
pub mod Fates
pub mod Parked
pub mod Ranges
pub mod Runs
