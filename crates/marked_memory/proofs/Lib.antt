pub mod Coding
pub mod Executing
pub mod Fencing
pub mod Marking
pub mod Reaching
