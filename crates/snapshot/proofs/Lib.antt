pub mod Numbers
pub mod Nearest
pub mod Facts
pub mod Occupied
