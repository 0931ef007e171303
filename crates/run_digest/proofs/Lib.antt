pub mod Padded
pub mod PageBytes
