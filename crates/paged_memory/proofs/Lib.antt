pub mod Accesses
pub mod Among
pub mod Coding
pub mod Loading
pub mod Mapping
pub mod PageAccesses
pub mod PageTrees
pub mod Snapshots
