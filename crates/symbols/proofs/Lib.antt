pub mod Choosing
pub mod Law
pub mod Reaching
pub mod Rows
