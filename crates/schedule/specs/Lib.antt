pub mod Phase
pub mod Verdict
