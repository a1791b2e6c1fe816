pub mod CodesKept
pub mod Sizes
pub mod Slots
pub mod Changes
