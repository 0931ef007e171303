pub mod Ended
pub mod Ends
pub mod Stands
pub mod Progress
