pub mod Packets
pub mod Pursuits
