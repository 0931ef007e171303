pub mod Calls
pub mod Events
pub mod Runs
pub mod Slices
pub mod Told
