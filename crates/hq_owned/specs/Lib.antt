pub mod Owned
pub mod Rows
