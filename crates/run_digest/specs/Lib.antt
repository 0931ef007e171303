pub mod Memories
pub mod Recording
pub mod Texts
