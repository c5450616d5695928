pub mod Columns
pub mod Directories
pub mod First
pub mod Keys
pub mod Refused
pub mod Seen
