pub mod SharedJobs
pub mod Slices
