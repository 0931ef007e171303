pub mod Totals
pub mod Lists
pub mod Steps
pub mod Seats
pub mod Gathers
