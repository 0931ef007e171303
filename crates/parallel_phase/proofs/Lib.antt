pub mod Slices
pub mod Works
pub mod Events
pub mod Scheduling
pub mod Fates
pub mod Names
