pub mod Accepted
pub mod Apart
pub mod Rows
pub mod Summing
