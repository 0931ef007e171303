pub mod Kept
pub mod Lists
pub mod Placing
pub mod Quanta
pub mod Times
