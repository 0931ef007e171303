pub mod Commands
pub mod Tables
