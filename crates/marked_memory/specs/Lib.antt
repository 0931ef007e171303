pub mod Marks
pub mod Unmarked
pub mod Windows
