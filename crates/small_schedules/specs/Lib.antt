pub mod Differences
pub mod Measures
pub mod Outcomes
pub mod Searches
pub mod Small
pub mod Walks
