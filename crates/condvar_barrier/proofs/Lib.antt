pub mod Apart
pub mod Leaving
pub mod Scan
pub mod Waking
