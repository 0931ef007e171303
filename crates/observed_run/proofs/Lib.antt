pub mod Going
pub mod Instructions
pub mod Sliced
pub mod Told
pub mod Turning
