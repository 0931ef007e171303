pub mod Facts
pub mod Fields
pub mod Format
pub mod Header
pub mod Names
pub mod Reasons
pub mod Sections
pub mod Segments
