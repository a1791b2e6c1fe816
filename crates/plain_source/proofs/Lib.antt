pub mod Changes
pub mod Shifting
