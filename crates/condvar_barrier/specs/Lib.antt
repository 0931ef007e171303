pub mod Objects
pub mod Rows
pub mod Sound
