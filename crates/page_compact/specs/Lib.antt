pub mod Compaction
pub mod Laws
