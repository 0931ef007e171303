pub mod Coding
pub mod Ending
