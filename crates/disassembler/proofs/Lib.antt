pub mod Assembling
pub mod Distinct
pub mod Listings
pub mod Numerals
pub mod Separators
pub mod Words
