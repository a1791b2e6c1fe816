pub mod Keeps
pub mod Windows
pub mod Chains
