pub mod Bytes
pub mod Kinds
pub mod Headers
pub mod LinePointers
pub mod Versions
pub mod Slots
