pub mod Ran
pub mod Outcome
pub mod Work
pub mod Outcomes
pub mod Events
pub mod Turns
