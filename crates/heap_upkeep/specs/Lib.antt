pub mod Dead
pub mod Along
pub mod Hints
pub mod Freezing
pub mod Laws
pub mod Pruning
