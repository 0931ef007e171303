pub mod Commands
pub mod Searching
