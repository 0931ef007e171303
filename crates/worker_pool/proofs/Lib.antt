pub mod Ends
pub mod Seats
