pub mod Building
pub mod Complete
pub mod Held
pub mod Kept
pub mod Matches
pub mod Numerals
pub mod Rows
