pub mod Ending
pub mod Events
pub mod Pages
pub mod Recording
pub mod Threads
pub mod Timeline
pub mod Times
pub mod Waits
