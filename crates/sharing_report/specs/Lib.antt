pub mod ByteChanges
pub mod Changers
pub mod Contested
pub mod Pages
pub mod Recording
pub mod Sharing
pub mod Tallies
pub mod Texts
