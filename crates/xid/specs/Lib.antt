pub mod Numbers
pub mod Statuses
pub mod Meaning
pub mod Line
pub mod Laws
