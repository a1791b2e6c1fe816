pub mod Tables
pub mod Changes
pub mod Milder
pub mod WholePage
pub mod PruneLinks
