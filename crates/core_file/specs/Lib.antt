pub mod Core
pub mod Fields
pub mod Loads
pub mod Notes
pub mod Runs
pub mod Shown
pub mod Written
