pub mod Orders
pub mod Points
pub mod Selections
