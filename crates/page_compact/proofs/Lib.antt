pub mod Packing
pub mod Sound
pub mod Tops
pub mod Steps
pub mod Lay
pub mod Compact
pub mod Uppers
