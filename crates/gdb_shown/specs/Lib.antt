pub mod Description
pub mod Memory
pub mod Registers
pub mod Signals
pub mod Stops
pub mod Threads
pub mod Watching
