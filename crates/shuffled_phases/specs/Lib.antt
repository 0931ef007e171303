pub mod Config
pub mod Draws
pub mod Lists
pub mod Lengths
pub mod Phases
pub mod Span
