pub mod Runs
pub mod Slices
