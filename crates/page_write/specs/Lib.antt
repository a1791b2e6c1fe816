pub mod Fields
pub mod Changing
pub mod Placing
pub mod Empty
