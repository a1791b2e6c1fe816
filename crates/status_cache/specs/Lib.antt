pub mod Slots
pub mod Truth
