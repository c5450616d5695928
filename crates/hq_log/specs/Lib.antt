pub mod Entries
pub mod Files
pub mod InOrder
pub mod Lines
pub mod Logs
