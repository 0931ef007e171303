pub mod EscapesEnd
pub mod Pairs
pub mod Parts
pub mod Printing
pub mod Values
pub mod Zips
