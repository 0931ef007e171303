pub mod Logs
pub mod Draws
pub mod Rule
pub mod Plays
pub mod Seat
