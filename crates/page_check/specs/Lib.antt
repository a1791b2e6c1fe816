pub mod All
pub mod Rules
pub mod Lawful
pub mod Marking
