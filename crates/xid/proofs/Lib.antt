pub mod Distances
pub mod Windows
pub mod Line
pub mod Forget
pub mod Stored
pub mod Ranges
