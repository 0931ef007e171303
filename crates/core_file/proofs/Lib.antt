pub mod Described
pub mod Growing
pub mod Headers
pub mod Numbered
pub mod Parts
pub mod Reading
pub mod Written
