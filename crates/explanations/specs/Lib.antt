pub mod Places
pub mod Traps
pub mod Waits
pub mod Words
