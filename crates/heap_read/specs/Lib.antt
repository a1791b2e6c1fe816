pub mod Fates
pub mod Reading
pub mod Links
