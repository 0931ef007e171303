pub mod Faults
pub mod Histories
pub mod Jobs
pub mod Underway
pub mod Scene
pub mod Tally
