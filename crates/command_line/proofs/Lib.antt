pub mod OpenedSession
pub mod Quantum
pub mod Replayed
pub mod Replays
pub mod Shown
