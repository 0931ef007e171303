pub mod Concluded
pub mod Needs
pub mod OneReport
pub mod Prefixes
pub mod Sent
pub mod Stops
pub mod Valid
