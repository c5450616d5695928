pub mod Numbered
pub mod Notices
pub mod Ends
