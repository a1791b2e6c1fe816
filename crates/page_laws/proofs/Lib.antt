pub mod Facts
pub mod Windows
pub mod Views
pub mod Own
