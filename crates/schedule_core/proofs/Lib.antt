pub mod Coming
pub mod Desk
pub mod Events
pub mod Turning
