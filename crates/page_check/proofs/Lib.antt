pub mod Ranges
pub mod All
pub mod OwnRules
pub mod Marks
pub mod Cells
pub mod Slots
pub mod Names
pub mod Reports
