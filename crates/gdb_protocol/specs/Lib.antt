pub mod Answers
pub mod Hearing
pub mod Interrupts
pub mod Moves
pub mod Pursuing
pub mod Replies
