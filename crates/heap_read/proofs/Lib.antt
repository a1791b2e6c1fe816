pub mod Firsts
pub mod Shown
pub mod Blocks
pub mod Walks
pub mod Along
