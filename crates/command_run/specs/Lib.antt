pub mod Explaining
pub mod Failure
pub mod Observing
pub mod Placing
pub mod Recording
pub mod Serves
pub mod Status
pub mod Texts
