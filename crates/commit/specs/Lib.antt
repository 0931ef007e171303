pub mod ByteMap
pub mod Bytes
pub mod Changed
pub mod Groups
pub mod Merge
pub mod Mine
pub mod Pages
pub mod Patched
