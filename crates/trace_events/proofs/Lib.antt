pub mod More
pub mod Ok
pub mod Rows
pub mod Sending
