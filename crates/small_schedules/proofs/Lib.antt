pub mod Ended
pub mod Walked
