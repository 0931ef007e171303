pub mod Actions
pub mod Digits
pub mod Escapes
pub mod Frames
pub mod Numbers
pub mod Requests
pub mod Wire
