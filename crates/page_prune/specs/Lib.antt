pub mod Chains
pub mod Members
pub mod Pruned
pub mod Marking
pub mod Laws
pub mod Example
