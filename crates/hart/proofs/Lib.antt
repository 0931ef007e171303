pub mod Coding
pub mod Keeping
pub mod Segments
pub mod OneStep
