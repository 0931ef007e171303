pub mod Hands
pub mod Posts
pub mod Sharing
