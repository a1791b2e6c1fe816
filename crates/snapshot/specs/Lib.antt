pub mod Lists
pub mod Snapshots
pub mod Operations
pub mod Laws
