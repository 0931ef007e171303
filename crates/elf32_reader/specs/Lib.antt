pub mod Faults
pub mod Fields
pub mod Format
pub mod LoadSegment
pub mod LoadImage
pub mod Refusals
pub mod Segments
pub mod Summaries
