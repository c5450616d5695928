pub mod Lines
pub mod LinePages
pub mod Marks
