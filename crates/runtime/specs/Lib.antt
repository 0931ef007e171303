pub mod Answer
pub mod Faults
pub mod Recorded
pub mod Reports
pub mod Run
pub mod Sending
pub mod Turns
