pub mod Codes
pub mod Sound
pub mod Pages
pub mod Laws
