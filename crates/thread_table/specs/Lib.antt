pub mod Status
pub mod Thread
pub mod Threads
