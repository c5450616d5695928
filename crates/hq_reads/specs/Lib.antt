pub mod Memory
pub mod Reports
pub mod ShelfLines
