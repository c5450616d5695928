pub mod Reading
pub mod Unchanged
