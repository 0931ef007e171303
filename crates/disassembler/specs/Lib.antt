pub mod Appended
pub mod Instructions
pub mod Listings
pub mod Operands
pub mod Texts
