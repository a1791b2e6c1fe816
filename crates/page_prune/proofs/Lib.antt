pub mod Names
pub mod Repoint
pub mod Walks
pub mod MarkSteps
pub mod Left
pub mod Whole
pub mod Ready
pub mod Counts
